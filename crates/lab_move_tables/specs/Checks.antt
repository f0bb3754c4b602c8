-- What is tested of rows that are shown in their order (ISO/IEC 17025:2017, 7.11.3(d): the
-- integrity of the data).
use Rattle.std.specs.Prelude.{ℕ, ℤ, ◌+◌, ◌==◌, ◌&&◌, Bool, true, List, [], ◌∷◌, IsTrue}
use Rattle.std.specs.Ordering.{int_eq}
use Rattle.std.specs.List.{list_all}
use Rattle.sqlite_value.specs.Order.{Row, column}
use Rattle.sqlite_rules.specs.Edit.{id_in}
use Rattle.lab_store_tables.specs.Rows.{number_in}
use Rattle.lab_store_read.specs.Cells.{is_id, is_number, is_small, stands}

-- the numbers in a column run from the one after `before` on
abbrev pub are_numbered_after : ℕ → ℕ → List Row → Bool
are_numbered_after at before [] = true
are_numbered_after at before (row ∷ others) =
    (number_in (column row at) == before + 1) && are_numbered_after at (before + 1) others

-- they run from 1 on
abbrev pub are_rows_numbered : ℕ → List Row → Bool
are_rows_numbered at rows = are_numbered_after at 0 rows

-- each has the laboratory in a column
abbrev pub are_owned : ℕ → ℤ → List Row → Bool
are_owned at lab rows = list_all (λ row. int_eq (id_in (column row at)) lab) rows

-- ---- what a row has to have in a column, so that it is tested: a number, an id

abbrev pub HasNumber : ℕ → Row → Type 0
HasNumber at row = IsTrue (stands (is_number is_small) row at)

abbrev pub HasId : ℕ → Row → Type 0
HasId at row = IsTrue (stands is_id row at)
