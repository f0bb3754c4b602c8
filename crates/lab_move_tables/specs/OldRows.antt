-- The rows of a file of an older schema, and what the file holds: the tables of today's schema for which
-- its rows stand. So what a laboratory of such a file means is the `meaning` of these tables.
use Rattle.std.specs.Prelude.{◌≡◌, ℕ, List, Option}
use Rattle.sqlite_value.specs.declared.value.Value.{Value}
use Rattle.sqlite_value.specs.Order.{bytes}
use Rattle.sqlite_trees.specs.Tree.{Trees}
use Rattle.sqlite.specs.Effect.{Database}
use Rattle.lab_store_tables.specs.Rows.{Tables, optional_in}
use Rattle.sqlite_schema.specs.declared.schema.Schema.{Schema}
use Rattle.lab_store_tables.specs.Family.{Layout, tables_by}
use Rattle.lab_store_tables.specs.Held.{AreRising, AreStoredBy}
use Rattle.lab_store_tables.specs.ByRules.{IsByRules}
use Rattle.lab_move_tables.specs.OldSheets.{said_in}
use Rattle.lab_move_tables.specs.Olders.{layout_of, schema_of}
use Rattle.lab_move_tables.specs.declared.older.Older.{Older}
pub use Rattle.lab_people_access.specs.Passwords.{old_rounds}
pub use Rattle.lab_move_tables.specs.OldSheets.{beside}

abbrev pub reason_in : Value → Option (List ℕ)
reason_in value = said_in (optional_in bytes value)

-- the tables of today's schema for which a file of an older one stands
abbrev pub old_tables : Older → Trees → Tables
old_tables older = tables_by (layout_of older)

-- a file of an older schema whose schema is this, which keeps each table so, whose rows are of their
-- types, and which keeps its own rules
pub record IsFileOf (older : Older) (text : Schema) (layout : Layout) (db : Database) : Type 0 where
  pub schema : db.schema ≡ text
  pub stored : AreStoredBy layout db.trees (old_tables older db.trees)
  pub rising : AreRising (old_tables older db.trees)
  pub rules : IsByRules (old_tables older db.trees)

-- one whose tables are, text for text, those of the older schema
abbrev pub IsOldFile : Older → Database → Type 0
IsOldFile older = IsFileOf older (schema_of older) (layout_of older)
