-- What a founding leaves: the newborn laboratory is placed, or its code was taken.
use Rattle.std.specs.Prelude.{ℕ, List, IsSome, IsTrue}
use Rattle.sqlite.specs.State.{State, HasCleanDisk}
use Rattle.lab_records_kept.specs.declared.births.Newborn.{Newborn}
use Rattle.lab_store_tables.specs.Rows.{Tables}
use Rattle.lab_store_tables.specs.Held.{AreRising}
use Rattle.lab_store_tables.specs.Meaning.{meaning}
use Rattle.lab_store_tables.specs.Ready.{LeavesNoMore, tables_of}
use Rattle.lab_store_tables.specs.Founding.{PlacesNewborn}

-- the newborn laboratory is placed, and ids rise
pub record IsPlacedBy (newborn : Newborn) (old new : Tables) : Type 0 where
  pub placed : PlacesNewborn newborn old new
  pub rising : AreRising new

-- a laboratory of the code is there, on a connection that was open and is; a crash leaves no more
-- than it could leave before
pub record IsTaken (code : List ℕ) (old new : State) : Type 0 where
  pub quiet : LeavesNoMore old new
  pub there : HasCleanDisk new → IsSome (meaning (tables_of old) code)
  pub was_open : HasCleanDisk new → IsTrue old.is_open
  pub is_open : HasCleanDisk new → IsTrue new.is_open
