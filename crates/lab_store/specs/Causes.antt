-- Why a call that commits tells of the store: in its transaction the last statement was refused, or
-- names a row that isn't there; where changes are made, it is one that one of them tries, over the
-- tables that those before it made. Else the disk had a fault in the call, the connection was shut
-- before it, or its steps have a limit; or the call is given what no store takes, which is named
-- beside.
use Rattle.std.specs.Prelude.{◌≡◌, ◌≢◌, ◌⊎◌, ℕ, List, [], find, None, Some, Result, IfErr, IsTrue}
use Rattle.sqlite_trees.specs.declared.store.Store.{Ghosts}
use Rattle.sqlite.specs.Held.{Held, state}
use Rattle.sqlite.specs.State.{HasCleanDisk}
use Rattle.lab_forms_texts.specs.declared.refusals.Fault.{Fault}
use Rattle.lab_records_keeper.specs.declared.faults.BadStore.{BadStore}
use Rattle.lab_records_keeper.specs.declared.faults.PlacingFault.{PlacingFault}
use Rattle.lab_records_keeper.specs.declared.faults.PlacingFault.TheVariants.{Storage}
use Rattle.lab_records_kept.specs.declared.births.Newborn.{Newborn}
use Rattle.lab_records_kept.specs.declared.changes.Change.{Change}
use Rattle.lab_records_kept.specs.declared.needs.Need.{Need}
use Rattle.lab_store_tables.specs.Rows.{LabRow, Tables}
use Rattle.lab_store_tables.specs.Meaning.{has_code}
use Rattle.lab_store_tables.specs.Ready.{IsReady, tables_of}
use Rattle.lab_store_read.specs.Causes.{HasFirst, IsCaused}
use Rattle.lab_store_read.specs.Cells.{storage}
use Rattle.lab_store_read_records.specs.Readable.{HasLab}
use Rattle.lab_store_read_records.specs.Shown.{labs_shown}
use Rattle.lab_store_load.specs.Counts.{lab_id_of}
use Rattle.lab_store_load.specs.Readable.{HasPart}
use Rattle.lab_store_read_copies.specs.Causes.{HasRange}
use Rattle.lab_store_write.specs.Causes.{Tries, Anything}
pub use Rattle.lab_store_write.specs.Transactions.{FailsInside, FailsInsideTrying}
use Rattle.lab_store_write_changes.specs.Causes.{OneIsTooMuch}
use Rattle.lab_store_write_changes.specs.Tried.{TriesAll}
use Rattle.lab_store_write_changes.specs.Newborns.{is_asked}

-- a call that commits tells of the store for no other cause, or for what is refused of the tables,
-- where what it reads of them is readable
pub record CommitHasItsCauseTrying (tries : Tries) {S T E : Type 0} (g : Ghosts S)
    (IsTold : E → Type 0) (Readable Refused : Tables → Type 0) (old new : Held S)
    (result : Result T E) : Type 0 where
  pub limit : (state g new).step_limit ≡ (state g old).step_limit
  pub cause : IsReady (state g old) → HasCleanDisk (state g new)
      → Readable (tables_of (state g old))
      → IfErr result (λ fault. IsTold fault → IsCaused (state g old) (state g new)
      ⊎ (Refused (tables_of (state g old)) ⊎ FailsInsideTrying tries g old new))

abbrev pub CommitHasItsCause : {S T E : Type 0} → Ghosts S → (E → Type 0) → (Tables → Type 0)
    → (Tables → Type 0) → Held S → Held S → Result T E → Type 0
CommitHasItsCause g IsTold Readable Refused old new result =
    CommitHasItsCauseTrying Anything g IsTold Readable Refused old new result

-- changes are refused where no laboratory has the code, or for a number that no column holds
abbrev pub RefusesChanges : List ℕ → List Change → Tables → Type 0
RefusesChanges code changes t =
    ((lab_id_of t code ≡ None) × (changes ≢ [])) ⊎ OneIsTooMuch changes

-- what changes of the laboratory with the code may try
abbrev pub TriesOf : List ℕ → List Change → Tries
TriesOf code changes old tried at =
    (lab : LabRow) × (find (has_code code) old.labs ≡ Some lab)
    × TriesAll lab.id changes old tried at

-- changes of a laboratory, whose row is readable
abbrev pub ChangesHaveTheirCause : {S T : Type 0} → Ghosts S → List ℕ → List Change → Held S
    → Held S → Result T (Fault BadStore) → Type 0
ChangesHaveTheirCause g code changes old new result =
    CommitHasItsCauseTrying (TriesOf code changes) g (λ fault. fault ≡ storage)
    (λ t. HasFirst HasLab (labs_shown t code)) (RefusesChanges code changes) old new result

-- a founding, which is refused for founders for whom a one-time word was asked
abbrev pub FoundingHasItsCause : {S T : Type 0} → Ghosts S → Newborn → Held S → Held S
    → Result T PlacingFault → Type 0
FoundingHasItsCause g newborn old new result =
    CommitHasItsCause g (λ fault. fault ≡ Storage) (λ t. Unit {0})
    (λ t. IsTrue (is_asked newborn)) old new result

-- ---- why a keeper over a connection may refuse, between two of its moments

module _ {S : Type 0} (g : Ghosts S) (old new : Held S) where
  -- to load a part, where what it reads is readable
  abbrev pub RefusesLoad : List ℕ → Need → Type 0
  RefusesLoad code need = IsReady (state g old) → HasCleanDisk (state g new)
      → HasPart (tables_of (state g old)) code need
      → IsCaused (state g old) (state g new)

  -- to give the records of a range, where they are readable
  abbrev pub RefusesRange : List ℕ → ℕ → ℕ → Type 0
  RefusesRange code from last = IsReady (state g old) → HasCleanDisk (state g new)
      → HasRange (tables_of (state g old)) code from last
      → IsCaused (state g old) (state g new)

  -- to make changes, where the laboratory's row is readable
  abbrev pub RefusesCommit : List ℕ → List Change → Type 0
  RefusesCommit code changes = IsReady (state g old) → HasCleanDisk (state g new)
      → HasFirst HasLab (labs_shown (tables_of (state g old)) code)
      → IsCaused (state g old) (state g new)
      ⊎ (RefusesChanges code changes (tables_of (state g old))
      ⊎ FailsInsideTrying (TriesOf code changes) g old new)

  -- to found a laboratory
  abbrev pub RefusesNewborn : Newborn → Type 0
  RefusesNewborn newborn = IsReady (state g old) → HasCleanDisk (state g new)
      → IsCaused (state g old) (state g new)
      ⊎ (IsTrue (is_asked newborn) ⊎ FailsInside g old new)
