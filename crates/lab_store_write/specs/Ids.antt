-- Ids of rows, and the rows that a look-up of ids shows.
use Rattle.std.specs.Prelude.{ℤ}
use Rattle.sqlite_value.specs.Order.{Row, column}
use Rattle.sqlite_rules.specs.Edit.{id_in}
use Rattle.lab_store_write.specs.declared.statements.RowId.{RowId}

abbrev pub row_id : RowId → ℤ
row_id one = one.id

-- the id that a row shows first
abbrev pub id_read : Row → ℤ
id_read row = id_in (column row 0)
