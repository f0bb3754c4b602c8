-- Fields in which nothing stands.
use Rattle.std.proofs.Common.{◌≡◌, ℕ, List, length, Some, None, ap}
use Rattle.std.specs.Prelude.{◌==◌, if◌then◌else◌, map}
use Rattle.std.specs.List.{list_all}
use Rattle.std.proofs.lemmas.List.Folds.{list_all-map}
use Rattle.lab_copy_rows.specs.Reading.{all_empty}

pub empty_by : {A : Type 0} (h : A → List ℕ) (fields : List A)
    → all_empty (map h fields) ≡ (if list_all (λ field. length (h field) == 0) fields then Some tt else None)
empty_by h fields = ap (λ b. if b then Some tt else None) (list_all-map (λ text. length text == 0) h fields)
