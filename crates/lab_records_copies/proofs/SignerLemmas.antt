-- The signers of a version under dual control are the persons that a copy wants.
use Rattle.std.proofs.Common.{◌≡◌, ◌≢◌, ℕ, Bool, true, false, List, [], ◌∷◌, map, refl, sym, ap, ◌∙◌}
use Rattle.std.specs.Prelude.{◌&&◌, ◌||◌, not, bytes_eq, All}
use Rattle.std.specs.List.{list_any}
use Rattle.std.specs.Bool.{Decides}
use Rattle.std.proofs.lemmas.List.Elements.{All-head, All-tail}
use Rattle.std.proofs.lemmas.Bool.{false≢true}
use Rattle.std.proofs.lemmas.Slice.Eq.{bytes_eq-Decides}
use Rattle.lab_seal_versions.specs.declared.rows.EntryRow.{EntryRow}
use Rattle.lab_records_kept.specs.declared.records.Version.{Version}
use Rattle.lab_records_kept.specs.declared.records.Signature.{Signature}
use Rattle.lab_records_kept.specs.Dual.{AreSigners, EnteredNone}
use Rattle.lab_records_kept.specs.Values.{has_entered, is_by}
use Rattle.lab_copy_rows.specs.Copies.{are_different_persons}
use Rattle.lab_records_copies.proofs.PlaceLemmas.{both}

-- equality of texts has two sides
turned_by : (one other : Bool) → (one ≡ true → other ≡ true) → (other ≡ true → one ≡ true) → one ≡ other
turned_by true other there back = sym (there refl)
turned_by false true there back = back refl
turned_by false false there back = refl

turned : (one other : List ℕ) → bytes_eq one other ≡ bytes_eq other one
turned one other =
    turned_by (bytes_eq one other) (bytes_eq other one)
    (λ same. (bytes_eq-Decides other one).1 (sym ((bytes_eq-Decides one other).0 same)))
    (λ same. (bytes_eq-Decides one other).1 (sym ((bytes_eq-Decides other one).0 same)))

differ : (one other : List ℕ) → one ≢ other → bytes_eq one other ≡ false
differ one other differs = by (bytes_eq one other) ((bytes_eq-Decides one other).0)
  where
    by : (same : Bool) → (same ≡ true → one ≡ other) → same ≡ false
    by true tells = absurd (differs (tells refl))
    by false tells = refl

-- who entered a row is among the persons of the rows
entered_by : (person : List ℕ) (rows : List EntryRow)
    → list_any (bytes_eq person) (map (λ (row : EntryRow). row.person) rows) ≡ list_any (is_by person) rows
entered_by person [] = refl
entered_by person (row ∷ rows) = (λ i. turned person row.person i || entered_by person rows i)

abbrev persons_of : List EntryRow → List (List ℕ)
persons_of rows = map (λ (row : EntryRow). row.person) rows

abbrev signers_of : List Signature → List (List ℕ)
signers_of signatures = map (λ (one : Signature). one.person) signatures

none_by : (version : Version) (signature : Signature) → EnteredNone version signature
    → not (list_any (bytes_eq signature.person) (persons_of version.rows)) ≡ true
none_by version signature none = ap not (entered_by signature.person version.rows ∙ none)

pub persons_differ : (version : Version) (signatures : List Signature) → AreSigners version signatures
    → are_different_persons (persons_of version.rows) (signers_of signatures) ≡ true
persons_differ version [] signers = refl
persons_differ version (author ∷ []) signers = entered_by author.person version.rows ∙ signers.0
persons_differ version (author ∷ second ∷ []) signers =
    both (list_any (bytes_eq author.person) (persons_of version.rows))
    (not (list_any (bytes_eq second.person) (persons_of version.rows)))
    (entered_by author.person version.rows ∙ signers.0)
    (none_by version second (All-head (EnteredNone version) second [] signers.1))
persons_differ version (author ∷ second ∷ third ∷ others) signers =
    let later = signers.1 in
    let first = entered_by author.person version.rows ∙ signers.0 in
    let by_second = none_by version second (All-head (EnteredNone version) second (third ∷ others) later) in
    let by_third =
    none_by version third
    (All-head (EnteredNone version) third others (All-tail (EnteredNone version) second (third ∷ others) later)) in
    let two = ap not (differ third.person second.person signers.2) in
    (λ i. first i && by_second i && by_third i && two i)
