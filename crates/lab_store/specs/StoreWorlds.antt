-- What is known of a connection to a file of laboratories, as their keeper. What it shows says
-- something only while no fault of the disk went unseen and none has shut it.
use Rattle.std.specs.Prelude.{◌≡◌, IsTrue}
use Rattle.sqlite_trees.specs.Tree.{Trees}
use Rattle.sqlite_trees.specs.declared.store.Store.{Ghosts}
use Rattle.sqlite.specs.Effect.{Database}
use Rattle.sqlite.specs.Held.{Held, state}
use Rattle.sqlite.specs.State.{State, HasCleanDisk}
use Rattle.lab_records_keeper.specs.Worlds.{World, Meaning, SameMeaning}
use Rattle.lab_store_tables.specs.Rows.{tables_in}
use Rattle.lab_store_tables.specs.Meaning.{meaning}
use Rattle.lab_store_tables.specs.Ready.{tables_of, IsReady, IsKept}

-- a crash may leave tables of this meaning
abbrev pub MayLeave : State → Meaning → Type 0
MayLeave s held = (trees : Trees) × s.may_leave trees × SameMeaning (meaning (tables_in trees)) held

-- whichever tables a crash may leave, they are those of a database of ours, well kept
abbrev pub IsSafe : State → Type 0
IsSafe s = (trees : Trees) → s.may_leave trees → (db : Database) × IsKept db × (trees ≡ db.trees)

abbrev pub world_of : State → World
world_of s = record {
  meaning = meaning (tables_of s);
  is_honest = HasCleanDisk s;
  is_live = IsTrue s.is_open;
  faults = s.faults;
  is_reached = IsReady s;
  may_refuse = Unit {0};
  may_leave = MayLeave s;
  is_safe = IsSafe s;
}

-- the world of a store over a connection, and the relation that leaves its rows as they were
module _ {S : Type 0} (g : Ghosts S) where
  abbrev pub store_world : Held S → World
  store_world held = world_of (state g held)

  abbrev pub store_rests : Held S → Held S → Type 0
  store_rests old new = tables_of (state g new) ≡ tables_of (state g old)
