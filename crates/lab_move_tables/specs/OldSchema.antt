-- The schema of a file of schema 2: the tables of today's schema without the approval of a form,
-- the format of a version, two of a person's numbers of rounds, and the index of sessions (ISO/IEC
-- 9075-2, table definitions). NULL stands where there is nothing.
use Rattle.std.specs.Prelude.{true, [], ◌∷◌, codes, List, ℕ}
use Rattle.sqlite_value.specs.Keys.{plain}
use Rattle.sqlite_schema.specs.declared.schema.Table.{Table}
use Rattle.sqlite_schema.specs.declared.schema.Index.{Index}
use Rattle.sqlite_schema.specs.declared.schema.Schema.{Schema}
use Rattle.lab_store_tables.specs.Schema as ours
use Rattle.lab_store_tables.specs.Sheets.{table_of}
use Rattle.lab_move_tables.specs.OldSheets as described

-- ---- the texts that differ

-- ---- the tables that they come to: those of the descriptions

abbrev pub persons : Table
persons = table_of described.old_persons

abbrev pub forms : Table
forms = table_of described.old_forms

abbrev pub versions : Table
versions = table_of described.old_versions

-- the index that a unique key of a table brings
abbrev index_on : List ℕ → ℕ → ℕ → List ℕ → Index
index_on name tree table columns = record {
  name = name;
  tree = tree;
  table = table;
  columns = columns;
  order = plain;
  is_unique = true;
}

-- the schema, as it stands once all texts were run
abbrev pub old_schema : Schema
old_schema = record {
  tables = ours.desk ∷ ours.labs ∷ persons ∷ ours.sessions ∷ forms ∷ ours.fields ∷ ours.choices
      ∷ ours.records ∷ versions ∷ ours.entries ∷ ours.signatures ∷ ours.trail ∷ [];
  indexes = index_on (codes "sqlite_autoindex_labs_1") 2 1 (2 ∷ [])
      ∷ index_on (codes "sqlite_autoindex_persons_1") 4 3 (2 ∷ 3 ∷ [])
      ∷ index_on (codes "sqlite_autoindex_sessions_1") 6 5 (2 ∷ 5 ∷ [])
      ∷ index_on (codes "sqlite_autoindex_sessions_2") 7 5 (2 ∷ 4 ∷ [])
      ∷ index_on (codes "sqlite_autoindex_forms_1") 9 8 (2 ∷ 3 ∷ 4 ∷ [])
      ∷ index_on (codes "sqlite_autoindex_fields_1") 11 10 (2 ∷ 3 ∷ [])
      ∷ index_on (codes "sqlite_autoindex_fields_2") 12 10 (2 ∷ 4 ∷ [])
      ∷ index_on (codes "sqlite_autoindex_choices_1") 14 13 (2 ∷ 3 ∷ [])
      ∷ index_on (codes "sqlite_autoindex_records_1") 16 15 (2 ∷ 3 ∷ [])
      ∷ index_on (codes "sqlite_autoindex_records_2") 17 15 (2 ∷ 5 ∷ 6 ∷ [])
      ∷ index_on (codes "sqlite_autoindex_versions_1") 19 18 (2 ∷ 3 ∷ [])
      ∷ index_on (codes "sqlite_autoindex_entries_1") 21 20 (2 ∷ 3 ∷ [])
      ∷ index_on (codes "sqlite_autoindex_signatures_1") 23 22 (2 ∷ 3 ∷ [])
      ∷ index_on (codes "sqlite_autoindex_signatures_2") 24 22 (2 ∷ 6 ∷ [])
      ∷ index_on (codes "sqlite_autoindex_trail_1") 26 25 (2 ∷ 3 ∷ [])
      ∷ [];
  views = [];
}
