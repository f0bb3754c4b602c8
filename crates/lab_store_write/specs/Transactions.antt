-- Why a call that commits tells of the store, over tables of ours: in its transaction the last
-- statement was refused, or names a row that isn't there. Else the disk had a fault in the call, the
-- connection was shut before it, or its steps have a limit; or the call is given what no store
-- takes, which is named beside.
use Rattle.std.specs.Prelude.{◌≡◌, ◌⊎◌, ◌≤◌, true, Result, IfErr, IsFalse, IsTrue}
use Rattle.sqlite_trees.specs.declared.store.Store.{Ghosts}
use Rattle.sqlite.specs.declared.error.Error.{Error}
use Rattle.sqlite.specs.Held.{Held, state}
use Rattle.sqlite.specs.State.{State, HasCleanDisk, IsRolledBack, IsUnchanged, Survives}
use Rattle.lab_store_tables.specs.Held.{IsTyped}
use Rattle.lab_store_read.specs.Causes.{IsCaused}
use Rattle.lab_store_read.specs.Faults.{is_out_of_memory}
use Rattle.lab_store_write.specs.Causes.{Tries, Anything, EndsTrying}

-- a connection that shows what it showed: no fault is forgotten, and the steps have the limit that
-- they had
pub record StaysAsIs (old new : State) : Type 0 where
  pub same : IsUnchanged old new
  pub counts : old.faults ≤ new.faults
  pub limit : new.step_limit ≡ old.step_limit

-- a transaction over the rows that were shown ended in this way, and not for want of memory; it was
-- then undone
pub record FailsWithin {S : Type 0} (g : Ghosts S) (Ends : Held S → Held S → Error → Type 0)
    (old new : Held S) : Type 0 where
  -- the connection on which it began
  pub from : Held S
  pub as_is : StaysAsIs (state g old) (state g from)
  -- as its last statement left it
  pub last : Held S
  pub error : Error
  pub told : IsFalse (is_out_of_memory error)
  pub ends : Ends (record from { in_transaction = true }) last error
  pub ended : Survives (state g last) (state g new) (λ _. ⊥)
  pub undone : IsRolledBack (state g last) (state g new)

-- by its last statement, one of ours that may be tried there
abbrev pub FailsInsideTrying : Tries → {S : Type 0} → Ghosts S → Held S → Held S → Type 0
FailsInsideTrying tries g old new = FailsWithin g (EndsTrying tries (state g)) old new

abbrev pub FailsInside : {S : Type 0} → Ghosts S → Held S → Held S → Type 0
FailsInside g old new = FailsInsideTrying Anything g old new

-- the tables are ours, as far as the disk shows them
abbrev pub HasOurTables : State → Type 0
HasOurTables s = HasCleanDisk s → IsTrue s.is_open → IsTyped s.now

-- a call over such tables, in one transaction, tells of the store for no other cause
pub record EndsForCauseTrying (tries : Tries) {S T E : Type 0} (g : Ghosts S)
    (IsTold : E → Type 0) (Beside : Type 0) (old new : Held S) (result : Result T E)
    : Type 0 where
  pub limit : (state g new).step_limit ≡ (state g old).step_limit
  pub cause : HasOurTables (state g old) → HasCleanDisk (state g new)
      → IfErr result (λ fault. IsTold fault → IsCaused (state g old) (state g new)
      ⊎ (Beside ⊎ FailsInsideTrying tries g old new))

abbrev pub EndsForCause : {S T E : Type 0} → Ghosts S → (E → Type 0) → Type 0 → Held S → Held S
    → Result T E → Type 0
EndsForCause g IsTold Beside old new result =
    EndsForCauseTrying Anything g IsTold Beside old new result
