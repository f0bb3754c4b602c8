-- What is said of every call that sends rows of a copy out: which rows went out, how they were
-- counted, and what was left of the tables that they were read from (21 CFR 11.10(b), "accurate
-- and complete copies of records").
use Rattle.std.specs.Prelude.{◌≡◌, ℕ, List, Option, Result, IfErr, OnOk}
use Rattle.sqlite.specs.State.{State, HasCleanDisk, IsUnchanged}
use Rattle.lab_copy_rows.specs.Csv.{csv_text}
use Rattle.lab_copy_rows.specs.Outs.{Sends, counted_all}
use Rattle.lab_copy_rows.specs.declared.outs.CopyOut.{CopyOut}
use Rattle.lab_records_copy_out.specs.Faults.{CopyFaultFits}
use Rattle.lab_records_copy_out.specs.declared.faults.CopyOutFault.{CopyOutFault}
use Rattle.lab_store_tables.specs.Rows.{Tables}
use Rattle.lab_store_tables.specs.Ready.{IsReady, PassesBy, tables_of}
use Rattle.lab_store_read_copies.specs.Causes.{CopyHasItsCause}

-- these rows went out and were counted, or after a fault a front of their text; the fault is one of
-- the store where `Unread` holds alone
pub record SendsRows {T : Type 0} (Unread : Type 0) (rows : List (List (List ℕ)))
    (before after : Option (List ℕ)) (start out : CopyOut) (result : Result T CopyOutFault)
    : Type 0 where
  pub text : Sends before after (csv_text rows) result
  pub counts : OnOk result (out ≡ record start { counts = counted_all start.counts rows })
  pub fault : IfErr result (CopyFaultFits ⊥ Unread (Unit {0}))

-- the rows were read from the tables of a connection, where `Opened` holds of it and `Given` of the
-- tables: nothing is changed, and a fault of the store has its cause, where what is read is readable
pub record GivesRows {T : Type 0} (Opened : Type 0) (Given : Tables → Type 0)
    (rows : Tables → List (List (List ℕ))) (Readable : Tables → Type 0) (old new : State)
    (before after : Option (List ℕ)) (start out : CopyOut) (result : Result T CopyOutFault)
    : Type 0 where
  pub passes : PassesBy old new
  pub same : HasCleanDisk new → Opened → OnOk result (IsUnchanged old new)
  pub text : IsReady old → HasCleanDisk new → Opened → Given (tables_of old)
      → Sends before after (csv_text (rows (tables_of old))) result
  pub counts : IsReady old → HasCleanDisk new → Opened → Given (tables_of old) → OnOk result
      (out ≡ record start { counts = counted_all start.counts (rows (tables_of old)) })
  pub fault : IfErr result (CopyFaultFits ⊥ (Unit {0}) (Unit {0}))
  pub cause : CopyHasItsCause Readable old new result

-- where nothing more has to hold of either
abbrev pub Gives : {T : Type 0} → (Tables → List (List (List ℕ))) → (Tables → Type 0)
    → State → State → Option (List ℕ) → Option (List ℕ) → CopyOut → CopyOut
    → Result T CopyOutFault → Type 0
Gives = GivesRows (Unit {0}) (λ t. Unit {0})
