-- What a call that reads leaves and answers, said once for all readers. What a connection shows
-- says something only while no fault of the disk went unseen, which a clean disk afterward shows.
use Rattle.std.specs.Prelude.{◌≡◌, ℕ, List, Vec, Result, IfOk, IfErr, OnOk, IsTrue, false}
use Rattle.std.specs.declared.alloc.Global.{Global}
use Rattle.sqlite_value.specs.Order.{Row}
use Rattle.sqlite.specs.declared.error.Error.{Error}
use Rattle.sqlite.specs.State.{State, HasCleanDisk, IsUnchanged, Survives, Shown, CommitsShowing, FailsToQuery}
use Rattle.lab_store_tables.specs.Rows.{Tables}
use Rattle.lab_store_tables.specs.Ready.{IsReady, PassesBy, tables_of}
use Rattle.lab_forms_texts.specs.declared.refusals.Fault.{Fault}
use Rattle.lab_records_keeper.specs.declared.faults.BadStore.{BadStore}
use Rattle.lab_store_read.specs.Faults.{store_fault}

-- a query fails by an error of the store, which is told as a fault
abbrev pub FailsToAsk : List ℕ → Row → State → State → Fault BadStore → Type 0
FailsToAsk sql params old new fault =
    (error : Error) × FailsToQuery sql params old new error × (fault ≡ store_fault error)

-- one query, whatever the file is
pub record AsksQuery (sql : List ℕ) (params : Row) (old new : State)
    (result : Result (Vec Row Global) (Fault BadStore)) : Type 0 where
  pub ok : HasCleanDisk new → IfOk result (λ rows. Shown sql params old new rows.items)
  pub err : HasCleanDisk new → IfErr result (FailsToAsk sql params old new)
  pub mode : old.in_transaction ≡ false → new.in_transaction ≡ false
  pub survives : Survives old new (CommitsShowing sql params old)

-- a call that reads passes by, however it ends; where it gives an answer, the connection was open
-- and nothing changed; where the file is ours, the answer is the one of its tables
pub record Reads {T E : Type 0} (Answer : Tables → T → Type 0) (old new : State)
    (result : Result T E) : Type 0 where
  pub passes : PassesBy old new
  pub same : HasCleanDisk new → OnOk result (IsUnchanged old new)
  pub answer : IsReady old → HasCleanDisk new → IfOk result (Answer (tables_of old))

-- a call that may have nothing to read, and so does not show whether the connection was open: what
-- the connection shows has not changed in any case, and nothing has where it was open
pub record MayRead {T E : Type 0} (Answer : Tables → T → Type 0) (old new : State)
    (result : Result T E) : Type 0 where
  pub passes : PassesBy old new
  pub shows : HasCleanDisk new → OnOk result (new.now ≡ old.now)
  pub same : HasCleanDisk new → IsTrue old.is_open → OnOk result (IsUnchanged old new)
  pub answer : IsReady old → HasCleanDisk new → IfOk result (Answer (tables_of old))
