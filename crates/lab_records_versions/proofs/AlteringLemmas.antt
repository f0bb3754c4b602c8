-- The first refusal of altered values, as far as they were walked.
use Rattle.std.proofs.Common.{◌≡◌, ℕ, ◌+◌, ◌<◌, ◌≤◌, Bool, true, false, arith, List, [], ◌∷◌, ◌++◌, length, get_or, take, drop, refl, sym, ap, ◌∙◌, Option, Some, None}
use Rattle.std.specs.Prelude.{Ok, Err, nat_le, nat_lt}
use Rattle.std.proofs.lemmas.Bool.Decides.{nat_tests}
use Rattle.lab_records_kept.specs.declared.records.Version.{Version}
use Rattle.lab_seal_versions.specs.declared.rows.EntryRow.{EntryRow}
use Rattle.std.specs.Option.{option_map_or}
use Rattle.std.proofs.lemmas.List.{take_more, take-append-drop}
use Rattle.lab_records_kept.specs.declared.records.Record.{Record}
use Rattle.lab_records_rules.specs.declared.items.Item.{Item}
use Rattle.lab_records_rules.specs.declared.refusals.Refusal.{Refusal}
use Rattle.lab_forms_texts.specs.declared.refusals.Fault.{Fault}
use Rattle.lab_forms_texts.specs.declared.refusals.Fault.TheVariants.{Refused, Memory}
use Rattle.lab_records_rules.specs.Private.Following.{IsReadWhere}
use Rattle.lab_records_versions.specs.Entering.{altered_refusal, first_altered_refusal, amending_by, amendment_made, next_version}

or_next : (one other next : Option Refusal)
    → option_map_or Some (option_map_or Some one other) next
    ≡ option_map_or Some one (option_map_or Some other next)
or_next None other next = refl
or_next (Some refusal) other next = refl

-- of two lists, the first one's comes first
pub refusal_of_both : (kept : Record) (items more : List Item)
    → first_altered_refusal kept (items ++ more)
    ≡ option_map_or Some (first_altered_refusal kept items) (first_altered_refusal kept more)
refusal_of_both kept [] more = refl
refusal_of_both kept (one ∷ others) more =
    ap (λ (next : Option Refusal). option_map_or Some (altered_refusal kept one) next)
    (refusal_of_both kept others more)
    ∙ sym (or_next (altered_refusal kept one) (first_altered_refusal kept others) (first_altered_refusal kept more))

-- one item that is refused for nothing
alone : (wrong : Option Refusal) → option_map_or Some wrong None ≡ wrong
alone None = refl
alone (Some refusal) = refl

-- the first items and one more
pub refusal_of_more : (kept : Record) (items : List Item) (i : ℕ) (item : Item) → i < length items
    → item ≡ get_or items i item → first_altered_refusal kept (take i items) ≡ None
    → first_altered_refusal kept (take (i + 1) items) ≡ altered_refusal kept item
refusal_of_more kept items i item within here nothing =
    ap (first_altered_refusal kept) (take_more items i item within)
    ∙ ap (λ (one : Item). first_altered_refusal kept (take i items ++ one ∷ [])) (sym here)
    ∙ refusal_of_both kept (take i items) (item ∷ [])
    ∙ ap (λ (wrong : Option Refusal). option_map_or Some wrong (first_altered_refusal kept (item ∷ []))) nothing
    ∙ alone (altered_refusal kept item)

stays : (first next : Option Refusal) (refusal : Refusal) → first ≡ Some refusal
    → option_map_or Some first next ≡ Some refusal
stays None next refusal is = cc
stays (Some other) next refusal is = cc

-- what refuses an item behind others that are refused for nothing refuses them all
pub refusal_at : (kept : Record) (items : List Item) (i : ℕ) (item : Item) (refusal : Refusal) → i < length items
    → item ≡ get_or items i item → first_altered_refusal kept (take i items) ≡ None
    → altered_refusal kept item ≡ Some refusal → first_altered_refusal kept items ≡ Some refusal
refusal_at kept items i item refusal within here nothing is =
    ap (first_altered_refusal kept) (sym (take-append-drop (i + 1) items))
    ∙ refusal_of_both kept (take (i + 1) items) (drop (i + 1) items)
    ∙ stays (first_altered_refusal kept (take (i + 1) items)) (first_altered_refusal kept (drop (i + 1) items)) refusal
    (refusal_of_more kept items i item within here nothing ∙ is)

-- one item more is read
pub read_more : (kept : Record) (items : List Item) (i : ℕ) (item : Item) (made : Bool) (read : List ℕ) → i < length items
    → item ≡ get_or items i item → first_altered_refusal kept (take i items) ≡ None
    → IsReadWhere made (altered_refusal kept item) item.value (Ok read)
    → first_altered_refusal kept (take (i + 1) items) ≡ None
read_more kept items i item made read within here nothing (is, same) =
    refusal_of_more kept items i item within here nothing ∙ is

-- what an item is refused for, or that memory ran out, is told of them all
pub fault_at : (kept : Record) (items : List Item) (i : ℕ) (item : Item) (made : Bool) (rows : List EntryRow) (fault : Fault Refusal)
    → i < length items → item ≡ get_or items i item → first_altered_refusal kept (take i items) ≡ None
    → IsReadWhere {A = List ℕ} made (altered_refusal kept item) item.value (Err fault)
    → IsReadWhere true (first_altered_refusal kept items) rows (Err fault)
fault_at kept items i item made rows (Refused refusal) within here nothing is =
    refusal_at kept items i item refusal within here nothing is
fault_at kept items i item made rows Memory within here nothing is = refl

-- what is made where nothing is refused
pub amended : (lab : List ℕ) (kept : Record) (last : Version) (reason : List ℕ) (altered : List Item) (caller : List ℕ) (moment : ℕ)
    → 1 ≤ length altered → first_altered_refusal kept altered ≡ None → last.origin.number < 99 → length altered ≤ 200
    → amending_by lab kept last (Some reason) altered caller moment
    ≡ Ok (amendment_made lab kept (next_version lab kept last reason altered caller moment))
amended lab kept last reason [] caller moment some nothing few short = absurd (omega arith)
amended lab kept last reason (one ∷ others) caller moment some nothing few short =
    let many : nat_le 99 last.origin.number ≡ false = grind (arith, nat_tests) in
    let long : nat_lt 200 (length (one ∷ others)) ≡ false = grind (arith, nat_tests) in
    rw (nothing, many, long) refl
