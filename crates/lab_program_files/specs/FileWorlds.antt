-- The laboratories of a file: what the tables of a connection mean, and what becomes of their rows,
-- as a keeper's (21 CFR 11.10(c); ISO/IEC 17025:2017, 7.11.3).
use Rattle.std.specs.Prelude.{◌≡◌, ℕ, List}
use Rattle.sqlite_trees.specs.declared.store.Store.{Ghosts}
use Rattle.lab_records_keeper.specs.declared.keeper.Keeper.{Ghosts as KeeperOf}
use Rattle.sqlite.specs.Held.{Held, state}
use Rattle.lab_records_kept.specs.declared.labs.Lab.{Lab}
use Rattle.lab_records_kept.specs.declared.changes.Change.{Change}
use Rattle.lab_records_keeper.specs.Worlds.{World}
use Rattle.lab_store_tables.specs.Ready.{tables_of}
use Rattle.lab_store_tables.specs.Placing.{PlacesLab}
use Rattle.lab_store_tables.specs.Steps.{AreMadeIfAny}
use Rattle.lab_records_copy_out.specs.Causes.{Refusing}
use Rattle.lab_store.specs.Causes.{RefusesCommit, RefusesLoad, RefusesNewborn, RefusesRange}
use Rattle.lab_store.specs.StoreWorlds.{world_of}

module _ {S : Type 0} (disk : Ghosts S) where
  -- what is known of the file at a moment
  abbrev pub file_world : Held S → World
  file_world conn = world_of (state disk conn)

  -- the rows are as they were
  abbrev pub file_rests : Held S → Held S → Type 0
  file_rests old new = tables_of (state disk new) ≡ tables_of (state disk old)

  -- the rows are as they were but for these changes of a laboratory
  abbrev pub file_moves : Held S → Held S → List ℕ → List Change → Type 0
  file_moves old new code changes =
      AreMadeIfAny code changes (tables_of (state disk old)) (tables_of (state disk new))

  -- the rows are as they were but for a laboratory that is new
  abbrev pub file_places : Held S → Held S → Lab → Type 0
  file_places old new lab = PlacesLab lab (tables_of (state disk old)) (tables_of (state disk new))

  -- why records of a laboratory may be refused, from a number to a last one
  abbrev pub file_refuses : Refusing (Held S)
  file_refuses = RefusesRange disk

  -- the file as a keeper
  abbrev pub file_keeper : KeeperOf (Held S)
  file_keeper = record {
    world = file_world;
    rests = file_rests;
    moves = file_moves;
    places = file_places;
    refuses_load = RefusesLoad disk;
    refuses_changes = RefusesCommit disk;
    refuses_founding = RefusesNewborn disk;
  }
