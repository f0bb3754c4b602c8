-- What a call that reads a file of an older schema leaves and answers, said once for all of them. However
-- it ends, the rows are as they were, and a crash leaves nothing that it could not leave before
-- (21 CFR 11.10(c), "protection of records"). What a connection shows says something only while no
-- fault of the disk went unseen.
use Rattle.std.specs.Prelude.{◌≡◌, ◌≤◌, Result, IfOk, IfErr, OnOk, IsTrue}
use Rattle.sqlite.specs.Effect.{Database}
use Rattle.sqlite.specs.State.{State, HasCleanDisk, IsUnchanged}
use Rattle.lab_forms_texts.specs.declared.refusals.Fault.{Fault}
use Rattle.lab_records_keeper.specs.declared.faults.BadStore.{BadStore}
use Rattle.lab_store_tables.specs.Rows.{Tables}
use Rattle.lab_store_tables.specs.Ready.{IsAtRest, WhereShown, LeavesNoMore}
use Rattle.lab_store_read.specs.Causes.{IsCaused}
use Rattle.lab_store_read.specs.Cells.{storage}
use Rattle.lab_move_tables.specs.Standing.{StandsBy, StandsBySome}
use Rattle.lab_move_tables.specs.declared.older.Older.{Older}

-- however the call ends
pub record PassesOver (old new : State) : Type 0 where
  pub at_rest : IsAtRest old → IsAtRest new
  pub clean : HasCleanDisk new → HasCleanDisk old
  pub live : HasCleanDisk new → IsTrue new.is_open → IsTrue old.is_open
  pub shows : IsAtRest old → WhereShown new (new.now ≡ old.now)
  pub crash : LeavesNoMore old new
  -- no fault is forgotten, and the steps have the limit that they had
  pub counts : old.faults ≤ new.faults
  pub limit : new.step_limit ≡ old.step_limit

-- where it gives an answer, nothing changed, and the answer is the one of the tables for which the
-- file stands in this way
pub record ReadsAs (Stands : Database → Tables → Type 0) {T E : Type 0} (Answer : Tables → T → Type 0)
    (old new : State) (result : Result T E) : Type 0 where
  pub passes : PassesOver old new
  pub shows : HasCleanDisk new → OnOk result (new.now ≡ old.now)
  pub same : HasCleanDisk new → IsTrue old.is_open → OnOk result (IsUnchanged old new)
  pub answer : (t : Tables) → Stands old.now t → HasCleanDisk new → IfOk result (Answer t)

-- of a file of any older schema
abbrev pub ReadsOld : {T E : Type 0} → (Tables → T → Type 0) → State → State → Result T E → Type 0
ReadsOld Answer old new result = ReadsAs StandsBySome Answer old new result

-- ---- why it returns the fault of the store

-- a call that reads returns the fault of the store for no cause but a fault of the disk in the call, a
-- connection that was shut before it, or a limit of steps: where the file takes the questions that the
-- call asks, and what the call reads of the tables is readable
pub record ReadsWhere (Stands Readable : Database → Tables → Type 0) {T E : Type 0}
    (IsTold : E → Type 0) (Answer : Tables → T → Type 0) (old new : State)
    (result : Result T E) : Type 0 where
  pub reads : ReadsAs Stands Answer old new result
  pub cause : (t : Tables) → Stands old.now t → Readable old.now t → HasCleanDisk new
      → IfErr result (λ fault. IsTold fault → IsCaused old new)

-- of a file of any older schema
abbrev pub ReadsOldWhere : (Database → Tables → Type 0) → {T : Type 0} → (Tables → T → Type 0)
    → State → State → Result T (Fault BadStore) → Type 0
ReadsOldWhere Readable Answer old new result =
    ReadsWhere StandsBySome Readable (λ fault. fault ≡ storage) Answer old new result

-- of a file of this one
abbrev pub ReadsByWhere : Older → (Database → Tables → Type 0) → {T : Type 0}
    → (Tables → T → Type 0) → State → State → Result T (Fault BadStore) → Type 0
ReadsByWhere older Readable Answer old new result =
    ReadsWhere (StandsBy older) Readable (λ fault. fault ≡ storage) Answer old new result
