-- What a connection must be so that calls on it may begin, and what a call leaves it: one that
-- reads, one inside a transaction, and one that commits. What a connection shows says something
-- only while no fault of the disk went unseen (a clean disk, as the kit has it) and none has shut
-- it.
use Rattle.std.specs.Prelude.{◌≡◌, ◌⊎◌, ◌≤◌, false, IsTrue}
use Rattle.sqlite_trees.specs.Tree.{Trees}
use Rattle.sqlite.specs.Effect.{Database}
use Rattle.sqlite.specs.State.{State, HasCleanDisk}
use Rattle.lab_records_keeper.specs.Worlds.{HasFaulted}
use Rattle.lab_store_tables.specs.Rows.{Tables, tables_in}
use Rattle.lab_store_tables.specs.Held.{IsTyped}
use Rattle.lab_store_tables.specs.WellKept.{IsWellKept}

-- the tables that a connection shows
abbrev pub tables_of : State → Tables
tables_of s = tables_in s.now.trees

-- a fact on what a connection shows, where that says something
abbrev pub WhereShown : State → Type 0 → Type 0
WhereShown s P = HasCleanDisk s → IsTrue s.is_open → P

-- no transaction is under way, and what is shown is what was committed
pub record IsAtRest (s : State) : Type 0 where
  pub alone : s.in_transaction ≡ false
  pub settled : WhereShown s (s.now ≡ s.committed)

-- the twelve tables are there, with rows of their types, well kept
pub record IsKept (db : Database) : Type 0 where
  pub typed : IsTyped db
  pub rows : IsWellKept (tables_in db.trees)

-- calls on the connection may begin; a file that was opened is so where it held what was ours, and
-- each call then leaves it so
pub record IsReady (s : State) : Type 0 where
  pub at_rest : IsAtRest s
  pub kept : WhereShown s (IsKept s.now)

-- a crash may leave nothing that it could not leave before
abbrev pub LeavesNoMore : State → State → Type 0
LeavesNoMore old new =
    HasCleanDisk new → IsTrue old.is_open → (trees : Trees) → new.may_leave trees
    → old.may_leave trees

-- no fault of the disk is forgotten, and a fault alone shuts the connection
pub record Shuts (old new : State) : Type 0 where
  pub counts : old.faults ≤ new.faults
  pub cause : HasCleanDisk new → IsTrue old.is_open
      → IsTrue new.is_open ⊎ HasFaulted old.faults new.faults

-- ---- a call that reads, however it ends

pub record PassesBy (old new : State) : Type 0 where
  pub at_rest : IsAtRest old → IsAtRest new
  pub clean : HasCleanDisk new → HasCleanDisk old
  pub live : HasCleanDisk new → IsTrue new.is_open → IsTrue old.is_open
  pub ready : IsReady old → IsReady new
  pub crash : IsReady old → LeavesNoMore old new
  pub shuts : Shuts old new

-- ---- what a step makes of the tables

-- by the step, of the tables that were shown, where they were ours
abbrev pub IsMadeBy : (Tables → Tables → Type 0) → State → Database → Type 0
IsMadeBy step old db = IsTyped old.now → IsTyped db × step (tables_of old) (tables_in db.trees)

-- a call that commits once, or not at all, however it ends: a crash may leave what it could leave
-- before, or what the commit makes
pub record CommitsOnce (Made : Database → Type 0) (old new : State) : Type 0 where
  pub at_rest : IsAtRest new
  pub clean : HasCleanDisk new → HasCleanDisk old
  pub crash : HasCleanDisk new → IsTrue old.is_open → (trees : Trees) → new.may_leave trees
      → old.may_leave trees ⊎ ((db : Database) × Made db × (trees ≡ db.trees))
