-- What the schema of a file has of the twelve tables. Names are compared as SQL compares them,
-- without regard to the case of ASCII letters (ISO/IEC 9075-2, identifiers).
use Rattle.std.specs.Prelude.{ℕ, Bool, false, List, Option, is_some, codes, find}
use Rattle.std.specs.List.{list_all, list_any}
use Rattle.std.specs.Option.{option_map_or}
use Rattle.sqlite_schema.specs.Names.{same_name}
use Rattle.sqlite_schema.specs.declared.schema.Schema.{Schema}
use Rattle.sqlite_schema.specs.declared.schema.Table.{Table}
use Rattle.lab_store_files.specs.Tables.{own_table, table_name, all_tables}
use Rattle.lab_store_files.specs.declared.tables.LabTable.{LabTable}

abbrev pub table_named : Schema → List ℕ → Option Table
table_named schema name = find (λ table. same_name table.name name) schema.tables

abbrev pub has_column : Table → List ℕ → Bool
has_column table name = list_any (λ column. same_name column.name name) table.columns

-- the table has each column of ours
abbrev pub has_columns : Table → Table → Bool
has_columns ours table = list_all (λ column. has_column table column.name) ours.columns

-- the table is there, with its columns
abbrev pub has_table : Schema → LabTable → Bool
has_table schema one =
    option_map_or (has_columns (own_table one)) (table_named schema (table_name one)) false

-- all of them are
abbrev pub is_whole : Schema → Bool
is_whole schema = list_all (has_table schema) all_tables

-- a table of one of the names is there
abbrev pub is_taken : Schema → Bool
is_taken schema = list_any (λ one. is_some (table_named schema (table_name one))) all_tables

-- there is a table that can name the schema
abbrev pub has_number : Schema → Bool
has_number schema =
    option_map_or (λ desk. has_column desk (codes "schema"))
    (table_named schema (codes "desk")) false
