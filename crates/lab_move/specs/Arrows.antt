-- The references of a table of an older schema, each of which leads from one column to the ids of a table
-- (ISO/IEC 9075-2, referential constraints). The file itself sees to it that such a column holds
-- NULL or the id of a row that is there.
use Rattle.std.specs.Prelude.{ℕ, ◌-◌, Bool, true, false, ◌==◌, ◌&&◌, codes, List, [], ◌∷◌, slice_get, slice_index_or}
use Rattle.std.specs.List.{list_all, list_any}
use Rattle.std.specs.Option.{option_map_or}
use Rattle.sqlite_schema.specs.Names.{same_name, column_named, place_of}
use Rattle.sqlite_schema.specs.declared.schema.Column.{Column}
use Rattle.sqlite_schema.specs.declared.schema.Reference.{Reference}
use Rattle.sqlite_schema.specs.declared.schema.Table.{Table}

-- the column `id` is the key of the table
abbrev pub has_id : Table → Bool
has_id table = option_map_or (λ at. place_of table at == 0) (column_named table (codes "id")) false

abbrev pub is_alone : ℕ → List ℕ → Bool
is_alone place [] = false
is_alone place (one ∷ []) = one == place
is_alone place (one ∷ other ∷ others) = false

-- a reference that names no column leads to the key
abbrev pub leads_to_ids : List (List ℕ) → Bool
leads_to_ids [] = true
leads_to_ids (name ∷ []) = same_name name (codes "id")
leads_to_ids (name ∷ other ∷ others) = false

-- it leads from the place of a row to an id of the table of the name
abbrev pub is_arrow : ℕ → List ℕ → Reference → Bool
is_arrow place parent reference =
    is_alone place reference.columns
    && (same_name reference.parent parent && leads_to_ids reference.parent_columns)

-- such a reference leads from the column of the name
abbrev pub has_arrow : Table → List ℕ → List ℕ → Bool
has_arrow table column parent =
    option_map_or (λ at. list_any (is_arrow (place_of table at) parent) table.references)
    (column_named table column) false

-- the name of the column at a place of a row
abbrev pub name_at : Table → ℕ → List ℕ
name_at table place =
    option_map_or (λ (column : Column). column.name) (slice_get table.columns (place - 1)) []

-- the table has each reference of ours
abbrev pub has_arrows : Table → Table → Bool
has_arrows ours table =
    list_all (λ (reference : Reference).
    has_arrow table (name_at ours (slice_index_or reference.columns 0 0)) reference.parent)
    ours.references
