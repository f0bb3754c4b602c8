-- What the columns of a field's row say of its kind, the rows that the query of names shows of the
-- tables, in its order, and what such a row is read as.
use Rattle.std.specs.Prelude.{ℕ, ℤ, List, [], ◌∷◌, map, filter}
use Rattle.std.specs.Ordering.{int_eq}
use Rattle.sqlite_keyed.specs.Lists.{sort_by}
use Rattle.sqlite_value.specs.declared.value.Value.TheVariants.{Text}
use Rattle.sqlite_value.specs.Order.{Row, column, bytes}
use Rattle.lab_store_tables.specs.Rows.{ChoiceRow, KindColumns, Tables, number_in, optional_in}
use Rattle.lab_store_tables.specs.Meaning.{by_choice}

-- ---- the kind of a field

abbrev pub kind_cells : Row → KindColumns
kind_cells row = record {
  word = bytes (column row 4);
  unit = optional_in bytes (column row 5);
  decimals = optional_in number_in (column row 6);
  low = optional_in bytes (column row 7);
  high = optional_in bytes (column row 8);
  size = optional_in number_in (column row 9);
}

-- ---- the names of a choice

abbrev pub name_shown : ChoiceRow → Row
name_shown one = Text one.name ∷ []

abbrev pub names_shown : Tables → ℤ → List Row
names_shown t field =
    map name_shown
    (sort_by by_choice (filter (λ (one : ChoiceRow). int_eq one.field field) t.choices))

abbrev pub name_read : Row → List ℕ
name_read row = bytes (column row 0)
