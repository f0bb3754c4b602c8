-- What the keeper promises of a record whose rows went out, of what the call on its connection promises.
use Rattle.std.proofs.Common.{◌≡◌, IsTrue, ap}
use Rattle.sqlite_trees.specs.declared.store.Store.{Ghosts}
use Rattle.sqlite_trees.specs.Tree.{Trees}
use Rattle.sqlite.specs.Held.{Held, state}
use Rattle.lab_records_copy_out.specs.Resting.{IsOnlyRead}
use Rattle.lab_store_tables.specs.Rows.{Tables}
use Rattle.lab_store_tables.specs.Meaning.{meaning}
use Rattle.lab_store_tables.specs.Ready.{PassesBy}
use Rattle.lab_store.specs.StoreWorlds.{store_world, store_rests}
use Rattle.lab_store.proofs.Settled.{rows_stay}
use Rattle.lab_store.proofs.Turns.{world_passes, quiet_by, safe_by}

module _ {S : Type 0} (g : Ghosts S) (stays : (s : S) → IsTrue (g.view s).is_open → g.recovers s (g.view s).committed)
    (settled : (s : S) (db : Trees) → IsTrue (g.view s).is_open → g.recovers s db → db ≡ (g.view s).committed) where
  pub read_by : (old new : Held S) → PassesBy (state g old) (state g new) → IsOnlyRead (store_world g) (store_rests g) old new
  read_by old new passes = record {
    same = λ clean ready opened other. ap (λ (t : Tables). meaning t other) (rows_stay g stays settled old new ready passes clean opened);
    rested = λ clean ready opened. rows_stay g stays settled old new ready passes clean opened;
    quiet = λ clean ready. quiet_by (state g old) (state g new) passes clean ready;
    safe = λ clean ready. safe_by (state g old) (state g new) passes clean ready;
    reached = λ clean ready. passes.ready ready;
    passes = world_passes (state g old) (state g new) passes;
  }
