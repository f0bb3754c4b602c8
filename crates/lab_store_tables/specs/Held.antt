-- A database that holds the tables: its schema is the one of `Schema`, its trees have rows of the
-- types of `Rows` alone, and in each the ids rise.
use Rattle.std.specs.Prelude.{◌≡◌, map}
use Rattle.sqlite_keyed.specs.Keyed.{IsKeyedBy}
use Rattle.sqlite_trees.specs.Tree.{Trees}
use Rattle.sqlite.specs.Effect.{Database}
use Rattle.lab_store_tables.specs.Schema.{lab_schema}
use Rattle.lab_store_tables.specs.RowRecords.{Tables}
use Rattle.lab_store_tables.specs.Family.{Name, Layout, id_of, kept, row_by, rows, tables_in}

-- in each table the ids rise
pub record AreRising (t : Tables) : Type 0 where
  pub at : (k : Name) → IsKeyedBy (id_of k) (rows k t)

-- each table's rows stand in its own tree, as a schema keeps them
pub record AreStoredBy (layout : Layout) (trees : Trees) (t : Tables) : Type 0 where
  pub at : (k : Name) → trees (layout k).sheet.tree ≡ map (row_by layout k) (rows k t)

abbrev pub AreStored : Trees → Tables → Type 0
AreStored = AreStoredBy kept

pub record IsTyped (db : Database) : Type 0 where
  pub schema : db.schema ≡ lab_schema
  pub stored : AreStored db.trees (tables_in db.trees)
  pub rising : AreRising (tables_in db.trees)

-- the database holds these tables, and no others
pub record Holds (db : Database) (t : Tables) : Type 0 where
  pub typed : IsTyped db
  pub tables : tables_in db.trees ≡ t
