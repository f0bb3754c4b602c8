-- What clauses of private functions say beside Tables.antt.
use Rattle.std.specs.Prelude.{ℕ, List}
use Rattle.lab_store_tables.specs.Schema as ours
use Rattle.lab_store_files.specs.declared.tables.LabTable.{LabTable}
use Rattle.lab_store_files.specs.declared.tables.LabTable.TheVariants.{Desk, Labs, Persons, Sessions, Forms, Fields, Choices, Records, Versions, Entries, Signatures, Trail}

-- the statement that makes it
abbrev pub table_text : LabTable → List ℕ
table_text Desk = ours.desk_text
table_text Labs = ours.labs_text
table_text Persons = ours.persons_text
table_text Sessions = ours.sessions_text
table_text Forms = ours.forms_text
table_text Fields = ours.fields_text
table_text Choices = ours.choices_text
table_text Records = ours.records_text
table_text Versions = ours.versions_text
table_text Entries = ours.entries_text
table_text Signatures = ours.signatures_text
table_text Trail = ours.trail_text
