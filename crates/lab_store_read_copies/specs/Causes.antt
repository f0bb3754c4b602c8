-- Why rows of a copy that don't go out tell of the store: a call that reads has a cause for it, as
-- lab_store_read names them. Else a row that is read isn't readable; which rows those are, and
-- what is readable of them, is said here (21 CFR 11.10(b), "accurate and complete copies of
-- records").
use Rattle.std.specs.Prelude.{◌≡◌, ◌≤◌, ℕ, ℤ, Bool, List, Result, IfErr, IfSome, IsTrue}
use Rattle.sqlite.specs.State.{State, HasCleanDisk}
use Rattle.lab_records_copy_out.specs.declared.faults.CopyOutFault.{CopyOutFault}
use Rattle.lab_records_copy_out.specs.declared.faults.CopyOutFault.TheVariants.{Storage}
use Rattle.lab_store_tables.specs.Rows.{Tables}
use Rattle.lab_store_tables.specs.Ready.{IsReady, tables_of}
use Rattle.lab_store_read.specs.Causes.{HasFirst, IsCaused}
use Rattle.lab_store_read_records.specs.declared.heads.LabHead.{LabHead}
use Rattle.lab_store_read_records.specs.declared.heads.VersionHead.{VersionHead}
use Rattle.lab_store_read_records.specs.Readable.{HasLab, HasLeaf, is_placed}
use Rattle.lab_store_read_records.specs.Shown.{labs_shown, records_shown}
use Rattle.lab_store_read_forms.specs.Readable.{HasWholeRecord}
use Rattle.lab_store_read_copies.specs.GivenRows.{lab_at}

-- rows that go out tell of the store for no other cause, where what is read of the tables is
-- readable
pub record CopyHasItsCause {T : Type 0} (Readable : Tables → Type 0) (old new : State)
    (result : Result T CopyOutFault) : Type 0 where
  pub limit : new.step_limit ≡ old.step_limit
  pub cause : IsReady old → HasCleanDisk new → Readable (tables_of old)
      → IfErr result (λ fault. fault ≡ Storage → IsCaused old new)

-- ---- what is read of a record whose own row is read already

-- the version with the row, behind another one or none
pub record HasPlacedVersion (t : Tables) (behind : Bool) (head : VersionHead) : Type 0 where
  pub leaf : HasLeaf t head.id
  pub placed : IsTrue (is_placed behind head.number head.reason)

-- ---- what is read of a laboratory

-- each record of a number of the range, if there is one
abbrev pub HasNumbered : Tables → ℤ → ℕ → ℕ → Type 0
HasNumbered t lab from last =
    (number : ℕ) → from ≤ number → number ≤ last
    → HasFirst (HasWholeRecord t) (records_shown t lab number)

-- and its own row, if there is a laboratory of the code
pub record HasRange (t : Tables) (code : List ℕ) (from last : ℕ) : Type 0 where
  pub lab : HasFirst HasLab (labs_shown t code)
  pub records : IfSome (lab_at t code) (λ (lab : LabHead). HasNumbered t lab.id from last)
