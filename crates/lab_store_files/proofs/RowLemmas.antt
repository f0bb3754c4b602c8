-- The number that rows show, by how many there are.
use Rattle.std.proofs.Common.{◌≡◌, ℕ, List, [], ◌∷◌, length, get_or, None, refl, arith}
use Rattle.sqlite_value.specs.Order.{Row, column}
use Rattle.lab_store_files.specs.Verdicts.{integer_in, number_shown}

pub none_shown : (rows : List Row) → (length rows ≡ 1 → ⊥) → None ≡ number_shown rows
none_shown [] other = refl
none_shown (row ∷ []) other = absurd (other refl)
none_shown (row ∷ next ∷ more) other = refl

pub one_shown : (rows : List Row) (none : Row) → length rows ≡ 1 → integer_in (column (get_or rows 0 none) 0) ≡ number_shown rows
one_shown [] none one = absurd (omega arith)
one_shown (row ∷ []) none one = refl
one_shown (row ∷ next ∷ more) none one = absurd (omega arith)
