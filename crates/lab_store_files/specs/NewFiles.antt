-- A new file: the twelve tables, without rows but for the one that names the schema (21 CFR 11.10(c),
-- "protection of records to enable their accurate and ready retrieval throughout the records
-- retention period": a file that names its schema can be read by a later program).
use Rattle.std.specs.Prelude.{◌≡◌, pos, [], ◌∷◌}
use Rattle.std.specs.List.{AllByRecursion}
use Rattle.sqlite_schema.specs.declared.schema.Schema.{Schema}
use Rattle.sqlite_schema.specs.declared.schema.Table.{Table}
use Rattle.sqlite.specs.Effect.{Database}
use Rattle.sqlite.specs.State.{State}
use Rattle.lab_store_tables.specs.Family.{empty_tables}
use Rattle.lab_store_tables.specs.Schema.{schema_number}
use Rattle.lab_store_tables.specs.Rows.{Tables, DeskRow}
use Rattle.lab_store_tables.specs.Held.{Holds}
use Rattle.lab_store_tables.specs.Ready.{CommitsOnce}

abbrev pub no_schema : Schema
no_schema = record { tables = []; indexes = []; views = [] }

-- nothing is in the file
abbrev pub IsBlank : Database → Type 0
IsBlank db = db.schema ≡ no_schema

-- a database of a schema, none of whose tables has a row
pub record IsEmptyUnder (schema : Schema) (db : Database) : Type 0 where
  pub schema_is : db.schema ≡ schema
  pub empty : AllByRecursion (λ (table : Table). db.trees table.tree ≡ []) schema.tables

-- the row that names the schema
abbrev pub schema_row : DeskRow
schema_row = record { id = pos 1; number = schema_number }

abbrev pub new_tables : Tables
new_tables = record empty_tables { desk = schema_row ∷ [] }

abbrev pub IsNewFile : Database → Type 0
IsNewFile db = Holds db new_tables

-- a call that makes a file, however it ends: a crash leaves what it could leave before or, where
-- the file was empty, a new file
abbrev pub EndsNewFile : State → State → Type 0
EndsNewFile old new = CommitsOnce (λ db. IsBlank old.now → IsNewFile db) old new
