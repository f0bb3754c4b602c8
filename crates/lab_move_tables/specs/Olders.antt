-- The older schemas of which files are moved, each with its value: its number, how it keeps each
-- table, and the schema that its texts come to.
use Rattle.std.specs.Prelude.{ℕ, List, [], ◌∷◌}
use Rattle.sqlite_schema.specs.declared.schema.Schema.{Schema}
use Rattle.lab_store_tables.specs.Family.{Layout}
use Rattle.lab_move_tables.specs.OldSchema.{old_schema}
use Rattle.lab_move_tables.specs.OldSheets.{before}
use Rattle.lab_move_tables.specs.declared.older.Older.{Older}
use Rattle.lab_move_tables.specs.declared.older.Older.TheVariants.{Two}

abbrev pub all_older : List Older
all_older = Two ∷ []

abbrev pub number_of : Older → ℕ
number_of Two = 2

abbrev pub layout_of : Older → Layout
layout_of Two = before

abbrev pub schema_of : Older → Schema
schema_of Two = old_schema
