-- The rows that each query shows of the tables, in its order, and what such a row is read as.
use Rattle.std.specs.Prelude.{ℕ, ℤ, List, [], ◌∷◌, map, filter}
use Rattle.sqlite_keyed.specs.Lists.{sort_by}
use Rattle.sqlite_value.specs.declared.value.Value.TheVariants.{Int, Text}
use Rattle.sqlite_value.specs.Order.{Row, column, bytes}
use Rattle.sqlite_rules.specs.Edit.{id_in}
use Rattle.lab_store_tables.specs.Rows.{TrailRow, Tables, number, optional, number_in, optional_in}
use Rattle.lab_store_tables.specs.Columns.{action_in}
use Rattle.lab_store_tables.specs.Meaning.{by_trail}
use Rattle.lab_store_read_trail.specs.declared.heads.ToldHead.{ToldHead}
use Rattle.lab_store_read_trail.specs.Trails.{is_told_within}

abbrev pub told_shown : TrailRow → Row
told_shown one =
    number one.number ∷ number one.moment ∷ optional Int one.person ∷ Text one.action
    ∷ Text one.subject ∷ []

abbrev pub told_shown_within : Tables → ℤ → ℕ → ℕ → List Row
told_shown_within t lab from to =
    map told_shown (sort_by by_trail (filter (is_told_within lab from to) t.trail))

abbrev pub told_read : Row → ToldHead
told_read row = record {
  number = number_in (column row 0);
  moment = number_in (column row 1);
  person = optional_in id_in (column row 2);
  action = action_in (bytes (column row 3));
  subject = bytes (column row 4);
}
