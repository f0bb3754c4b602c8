-- Rows that are the whole text.
use Rattle.std.proofs.Common.{◌≡◌, ◌==◌, true, false, ℕ, List, [], ◌∷◌, length, Option, Some, None, refl, sym, ap, subst, ◌∙◌, arith}
use Rattle.std.specs.Prelude.{option_map}
use Rattle.std.proofs.lemmas.Bool.Decides.{nat_tests}
use Rattle.lab_seal_versions.specs.declared.rows.EntryRow.{EntryRow}
use Rattle.lab_seal.specs.Parts.{first_rows}
use Rattle.lab_seal.specs.Private.Parts.{AreAllRows}
use Rattle.lab_seal.proofs.RowLemmas.{behind_rows, IsRowsSoFar}
use Rattle.lab_seal.specs.Faults.{TextFaultFits}
use Rattle.lab_seal.specs.declared.faults.BadText.{BadText}
use Rattle.lab_forms_texts.specs.declared.refusals.Fault.{Fault}

behind_end : (rows : List EntryRow) (o : Option (List EntryRow × List ℕ))
    → option_map (λ found. found.1) (option_map (behind_rows rows) o) ≡ option_map (λ found. found.1) o
behind_end rows None = refl
behind_end rows (Some more) = refl

-- what is said of the rows that are left is said of all
pub left_fault : (count : ℕ) (text : List ℕ) (left : ℕ) (rows : List EntryRow) (rest : List ℕ) (fault : Fault BadText)
    → IsRowsSoFar count text left rows rest → TextFaultFits (AreAllRows left rest → ⊥) (AreAllRows left rest) fault
    → TextFaultFits (AreAllRows count text → ⊥) (AreAllRows count text) fault
left_fault count text left rows rest fault so_far fits =
    let same = sym (ap (option_map (λ found. found.1)) so_far ∙ behind_end rows (first_rows left rest)) in
    let P : Option (List ℕ) → Type 0 = λ end. TextFaultFits (end ≡ Some [] → ⊥) (end ≡ Some []) fault in
    subst P same fits

pub no_rows : (count : ℕ) (text : List ℕ) → first_rows count text ≡ None → AreAllRows count text → ⊥
no_rows count text none all =
    let never : None ≡ Some [] = sym (ap (option_map (λ found. found.1)) none) ∙ all in absurd (cc)

pub longer_rows : (count : ℕ) (text : List ℕ) (rows : List EntryRow) (rest : List ℕ) → first_rows count text ≡ Some (rows, rest)
    → (length rest == 0) ≡ false → AreAllRows count text → ⊥
longer_rows count text rows [] e longer all = absurd (cc)
longer_rows count text rows (b ∷ bs) e longer all =
    let never : Some (b ∷ bs) ≡ Some [] = sym (ap (option_map (λ found. found.1)) e) ∙ all in absurd (cc)

pub whole_rows : (count : ℕ) (text : List ℕ) (rows : List EntryRow) (rest : List ℕ) → first_rows count text ≡ Some (rows, rest)
    → (length rest == 0) ≡ true → first_rows count text ≡ Some (rows, [])
whole_rows count text rows [] e empty = e
whole_rows count text rows (b ∷ bs) e empty = absurd (grind (arith, nat_tests))
