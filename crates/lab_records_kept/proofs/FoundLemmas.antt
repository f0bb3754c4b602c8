-- In a chain the next version names a version's digest; and the place of a search holds what the search finds.
use Rattle.std.proofs.Common.{ℕ, zero, suc, ◌≡◌, Bool, true, false, cond, refl, sym, ◌∙◌, ap, List, [], ◌∷◌, Option, Some, None, length, option_and_then, option_map}
use Rattle.std.specs.Prelude.{find, nat_lt, position, slice_get}
use Rattle.std.specs.List.{position_or_len}
use Rattle.std.proofs.lemmas.Bool.{ltb-false}
use Rattle.std.proofs.lemmas.List.Folds.{find_at}
use Rattle.std.proofs.lemmas.Option.{slice_get_past}
use Rattle.lab_records_kept.specs.declared.records.Record.{Record}
use Rattle.lab_records_kept.specs.declared.records.Version.{Version}
use Rattle.lab_records_kept.specs.Bound.{IsChain}
use Rattle.lab_records_kept.specs.Digests.{digest_of, previous_of}

names_before : (lab : List ℕ) (kept : Record) (before : Option (List ℕ)) (versions : List Version)
    (place : ℕ) (next : Version) (digest : List ℕ) → IsChain lab kept before versions
    → slice_get versions (suc place) ≡ Some next → previous_of next ≡ Some digest
    → option_map (digest_of lab kept) (slice_get versions place) ≡ Some digest
names_before lab kept before [] place next digest chain here named = absurd (cc)
names_before lab kept before (one ∷ []) place next digest chain here named = absurd (cc)
names_before lab kept before (one ∷ two ∷ others) zero next digest chain here named =
    let same : two ≡ next = cc in
    sym chain.1.0 ∙ ap (λ (version : Version). previous_of version) same ∙ named
names_before lab kept before (one ∷ two ∷ others) (suc place) next digest chain here named =
    names_before lab kept (Some (digest_of lab kept one)) (two ∷ others) place next digest chain.1 here named

-- the version behind another one names its digest
pub chain_names : (lab : List ℕ) (kept : Record) (versions : List Version) (place behind : ℕ)
    (next : Version) (digest : List ℕ) → IsChain lab kept None versions → behind ≡ suc place
    → slice_get versions behind ≡ Some next → previous_of next ≡ Some digest
    → option_map (digest_of lab kept) (slice_get versions place) ≡ Some digest
chain_names lab kept versions place behind next digest chain follows here named =
    names_before lab kept None versions place next digest chain (rw follows at here) named

placed_in : {A : Type 0} (items : List A) (within : Bool) (first : ℕ) → nat_lt first (length items) ≡ within
    → option_and_then (slice_get items) (cond within (Some first) None) ≡ slice_get items first
placed_in items true first is = refl
placed_in items false first is = sym (slice_get_past items first (ltb-false first (length items) is))

-- what stands in the place where a search ended is what it found
pub found_in_place : {A : Type 0} (p : A → Bool) (items : List A)
    → option_and_then (slice_get items) (position p items) ≡ find p items
found_in_place p items =
    placed_in items (nat_lt (position_or_len p items) (length items)) (position_or_len p items) refl
    ∙ sym (find_at p items)
