-- The twelve tables by name, in the order in which they are made. What each is, and its statement,
-- stands in `lab_store_tables`.
use Rattle.std.specs.Prelude.{ℕ, List, [], ◌∷◌}
use Rattle.sqlite_schema.specs.declared.schema.Table.{Table}
use Rattle.lab_store_tables.specs.Schema as ours
use Rattle.lab_store_files.specs.declared.tables.LabTable.{LabTable}
use Rattle.lab_store_files.specs.declared.tables.LabTable.TheVariants.{Desk, Labs, Persons, Sessions, Forms, Fields, Choices, Records, Versions, Entries, Signatures, Trail}

abbrev pub all_tables : List LabTable
all_tables =
    Desk ∷ Labs ∷ Persons ∷ Sessions ∷ Forms ∷ Fields ∷ Choices ∷ Records ∷ Versions ∷ Entries
    ∷ Signatures ∷ Trail ∷ []

-- the table as the schema has it
abbrev pub own_table : LabTable → Table
own_table Desk = ours.desk
own_table Labs = ours.labs
own_table Persons = ours.persons
own_table Sessions = ours.sessions
own_table Forms = ours.forms
own_table Fields = ours.fields
own_table Choices = ours.choices
own_table Records = ours.records
own_table Versions = ours.versions
own_table Entries = ours.entries
own_table Signatures = ours.signatures
own_table Trail = ours.trail

abbrev pub table_name : LabTable → List ℕ
table_name one = (own_table one).name
