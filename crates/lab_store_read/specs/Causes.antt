-- Why a call that reads returns the fault of the store: the disk had a fault in the call, the
-- connection was shut before it, or the steps of the connection had a limit before the call and have
-- one after it. (A row that isn't readable is another cause, which each reader names.)
use Rattle.std.specs.Prelude.{◌≡◌, ◌⊎◌, List, Result, slice_get, IfErr, IfSome, IsFalse, IsSome}
use Rattle.sqlite_value.specs.Order.{Row}
use Rattle.sqlite.specs.State.{State, HasCleanDisk}
use Rattle.lab_forms_texts.specs.declared.refusals.Fault.{Fault}
use Rattle.lab_records_keeper.specs.declared.faults.BadStore.{BadStore}
use Rattle.lab_records_keeper.specs.Worlds.{HasFaulted}
use Rattle.lab_store_tables.specs.Rows.{Tables}
use Rattle.lab_store_tables.specs.Ready.{IsReady, tables_of}
use Rattle.lab_store_read.specs.Cells.{storage}

abbrev pub IsCaused : State → State → Type 0
IsCaused old new =
    HasFaulted old.faults new.faults
    ⊎ (IsFalse old.is_open ⊎ (IsSome old.step_limit × IsSome new.step_limit))

-- a call tells of the store for no other cause, where what it reads of the tables is readable
pub record HasItsCause {T : Type 0} (Readable : Tables → Type 0) (old new : State)
    (result : Result T (Fault BadStore)) : Type 0 where
  pub limit : new.step_limit ≡ old.step_limit
  pub cause : IsReady old → HasCleanDisk new → Readable (tables_of old)
      → IfErr result (λ fault. fault ≡ storage → IsCaused old new)

-- the first row, if there is one, has what is read of it
abbrev pub HasFirst : (Row → Type 0) → List Row → Type 0
HasFirst Has rows = IfSome (slice_get rows 0) Has
