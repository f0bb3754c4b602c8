-- The person to whom an arrow leads, as the row shows the person.
use Rattle.std.specs.Prelude.{◌≡◌, ℕ, ℤ, Bool, List, Option, Some, None}
use Rattle.std.specs.Ordering.{int_eq}
use Rattle.sqlite_value.specs.Order.{Row, column, bytes}
use Rattle.sqlite_rules.specs.Edit.{id_in}
use Rattle.lab_move_read_people.specs.Kept.{IsFound}

-- the person is of the laboratory
abbrev pub shows_lab : ℤ → Row → Bool
shows_lab lab row = int_eq (id_in (column row 1)) lab

-- what is found of the first row; without a row nothing is
abbrev pub IsFirstOwner : ℤ → Option Row → Option (List ℕ) → Type 0
IsFirstOwner lab (Some row) found =
    IsFound (shows_lab lab row) (λ code. code ≡ bytes (column row 0)) found
IsFirstOwner lab None found = ⊥
