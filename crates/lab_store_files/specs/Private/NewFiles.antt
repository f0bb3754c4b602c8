-- What clauses of private functions say beside NewFiles.antt.
use Rattle.std.specs.Prelude.{ℕ, List, fold, take}
use Rattle.sqlite_schema.specs.declared.schema.Schema.{Schema}
use Rattle.sqlite_catalog.specs.Change.{created}
use Rattle.lab_store_files.specs.declared.tables.LabTable.{LabTable}
use Rattle.lab_store_files.specs.declared.tables.LabTable.TheVariants.{Desk, Labs, Persons, Sessions, Forms, Fields, Choices, Records, Versions, Entries, Signatures, Trail}
use Rattle.lab_store_files.specs.Tables.{own_table, all_tables}
use Rattle.lab_store_files.specs.NewFiles.{no_schema}

-- the schema of tables that were made one after the other
abbrev pub schema_of : List LabTable → Schema
schema_of ones = fold (λ schema one. created schema (own_table one)) no_schema ones

-- where a table stands among the twelve
abbrev pub place_in : LabTable → ℕ
place_in Desk = 0
place_in Labs = 1
place_in Persons = 2
place_in Sessions = 3
place_in Forms = 4
place_in Fields = 5
place_in Choices = 6
place_in Records = 7
place_in Versions = 8
place_in Entries = 9
place_in Signatures = 10
place_in Trail = 11

-- the schema before a table is made, and once it is made
abbrev pub schema_before : LabTable → Schema
schema_before one = schema_of (take (place_in one) all_tables)

abbrev pub schema_with : LabTable → Schema
schema_with one = created (schema_before one) (own_table one)
