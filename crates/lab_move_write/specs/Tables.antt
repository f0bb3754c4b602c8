-- The twelve tables in the order in which they are made, each with the statement that makes it. What
-- they are stands in `lab_store_tables`.
use Rattle.std.specs.Prelude.{ℕ, List, [], ◌∷◌, fold}
use Rattle.sqlite_schema.specs.declared.schema.Schema.{Schema}
use Rattle.sqlite_schema.specs.declared.schema.Table.{Table}
use Rattle.sqlite_catalog.specs.Change.{created}
use Rattle.lab_store_tables.specs.Schema as ours
use Rattle.lab_store_files.specs.NewFiles.{no_schema}

abbrev pub own_tables : List (Table × List ℕ)
own_tables =
    (ours.desk, ours.desk_text)
    ∷ (ours.labs, ours.labs_text)
    ∷ (ours.persons, ours.persons_text)
    ∷ (ours.sessions, ours.sessions_text)
    ∷ (ours.forms, ours.forms_text)
    ∷ (ours.fields, ours.fields_text)
    ∷ (ours.choices, ours.choices_text)
    ∷ (ours.records, ours.records_text)
    ∷ (ours.versions, ours.versions_text)
    ∷ (ours.entries, ours.entries_text)
    ∷ (ours.signatures, ours.signatures_text)
    ∷ (ours.trail, ours.trail_text)
    ∷ []

-- the schema of tables that were made one after the other
abbrev pub schema_of : List (Table × List ℕ) → Schema
schema_of ones = fold (λ schema one. created schema one.0) no_schema ones
