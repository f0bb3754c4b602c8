-- The row that names the schema is added last (21 CFR 11.10(c), "protection of records to enable
-- their accurate and ready retrieval"): a file without it is none in which laboratories are kept,
-- and with it every other row stays as it is.
use Rattle.std.specs.Prelude.{◌≡◌, ℕ, ℤ, List, codes}
use Rattle.sqlite_keyed.specs.Keyed.{insert_by}
use Rattle.lab_store_tables.specs.Schema.{schema_number}
use Rattle.lab_store_tables.specs.Rows.{DeskRow, Tables, desk_id}
use Rattle.lab_store_tables.specs.Changes.{IsFree}

abbrev pub naming_text : List ℕ
naming_text = codes "INSERT INTO desk (schema) VALUES (3)"

abbrev pub naming_row : ℤ → DeskRow
naming_row id = record { id = id; number = schema_number }

abbrev pub put_naming : ℤ → Tables → Tables
put_naming id t = record t { desk = insert_by desk_id t.desk (naming_row id) }

pub record NamesSchema (old new : Tables) : Type 0 where
  pub id : ℤ
  pub free : IsFree desk_id old.desk id
  pub made : new ≡ put_naming id old
