-- What a move makes of an old file, and what it leaves: each laboratory whose rows are well kept,
-- and which is within its limits, bound and under dual control, is carried along as it is, so that
-- each version keeps its text, its digest and its signatures (21 CFR 11.10(c) and 11.70; ISO/IEC
-- 17025:2017, 7.5.2, "both the original and amended data and files shall be retained"); and a new
-- file that isn't whole is none in which laboratories are kept.
use Rattle.std.specs.Prelude.{◌≡◌, ◌⊎◌, ◌≤◌, ℕ, if◌then◌else◌, IsTrue, List, ◌∷◌, ◌++◌, length, All, Some, None, Result, Err, OnOk, OnErr, bytes_eq}
use Rattle.std.specs.List.{list_any}
use Rattle.sqlite_trees.specs.Tree.{Trees}
use Rattle.sqlite_trees.specs.declared.store.Store.{Ghosts}
use Rattle.sqlite.specs.Effect.{Database}
use Rattle.sqlite.specs.Held.{Held, state}
use Rattle.sqlite.specs.State.{State, HasCleanDisk}
use Rattle.lab_records_kept.specs.declared.labs.Lab.{Lab}
use Rattle.lab_records_kept.specs.Bound.{IsBound}
use Rattle.lab_records_kept.specs.Dual.{IsDual}
use Rattle.lab_records_kept.specs.Limits.{IsWithin}
use Rattle.lab_records_keeper.specs.Worlds.{Meaning, SameMeaning}
use Rattle.lab_records_copy_out.specs.Legible.{IsLegible}
use Rattle.lab_records_laws.specs.Runs.{IsReleasing}
use Rattle.lab_records_laws.specs.Stepping.{WhereThere}
use Rattle.lab_store_tables.specs.Rows.{Tables, tables_in}
use Rattle.lab_store_tables.specs.Meaning.{meaning}
use Rattle.lab_store_tables.specs.Ready.{IsAtRest, IsReady, IsKept, WhereShown, tables_of}
use Rattle.lab_store_files.specs.declared.faults.FileFault.{FileFault}
use Rattle.lab_store_files.specs.declared.faults.FileFault.TheVariants.{NotADeskFile, SchemaOld, SchemaNew, Storage, NotEmpty, Memory}
use Rattle.lab_store_files.specs.Faults.{FailedInStore}
use Rattle.lab_store_files.specs.Schemas.{is_taken}
use Rattle.lab_store_files.specs.Verdicts.{AnswersVerdict}
use Rattle.lab_move_write.specs.Unfinished.{IsBeingFilled}
use Rattle.lab_move_read.specs.Laboratories.{codes_of, IsLabOf, IsUnkept}
use Rattle.lab_move.specs.declared.faults.MoveFault.{MoveFault}
use Rattle.lab_move.specs.declared.faults.MoveFault.TheVariants.{File, NotSound}
use Rattle.lab_move.specs.OldFiles.{IsNoneOfOld, StandsFor}

-- ---- laboratories

-- one that may be placed in a new file
pub record IsSoundLab (lab : Lab) : Type 0 where
  pub within : IsWithin lab
  pub bound : IsBound lab
  pub dual : IsDual lab
  pub legible : IsLegible lab

-- the laboratory of the code is there, its rows are well kept, and it is such a one
abbrev pub IsSoundIn : Tables → List ℕ → Type 0
IsSoundIn t code = (lab : Lab) × IsLabOf t code (Some lab) × IsSoundLab lab

-- its rows aren't well kept, or it isn't bound or not under dual control
abbrev pub IsUnsoundIn : Tables → List ℕ → Type 0
IsUnsoundIn t code =
    IsUnkept t code
    ⊎ ((lab : Lab) × IsLabOf t code (Some lab) × ¬ (IsBound lab × IsDual lab))

-- it is the first such one among these
abbrev pub IsFirstUnsound : Tables → List (List ℕ) → List ℕ → Type 0
IsFirstUnsound t codes code =
    (before : List (List ℕ)) × (after : List (List ℕ)) × (codes ≡ before ++ code ∷ after)
    × All (IsSoundIn t) before × IsUnsoundIn t code

-- ---- the new file, while it is filled and once it is whole

-- the laboratories of these codes, and no others
abbrev pub meaning_among : List (List ℕ) → Meaning → Meaning
meaning_among done was code =
    if list_any (λ one. bytes_eq one code) done then was code else None

-- a fact on every laboratory that there is
abbrev pub AreAll : (Lab → Type 0) → Meaning → Type 0
AreAll Holds held = (code : List ℕ) → WhereThere Holds (held code)

-- what was read of the old file, from one moment to a later one, says what these tables mean, for
-- which the file stands in this way
abbrev pub ReadsOldAs : (Database → Tables → Type 0) → State → State → Tables → Type 0
ReadsOldAs Stands before after t = Stands before.now t × HasCleanDisk after

-- no laboratory is in it yet
pub record IsBegun (db : Database) : Type 0 where
  pub filling : IsBeingFilled db
  pub empty : (code : List ℕ) → meaning (tables_in db.trees) code ≡ None

-- a file of this kind has laboratories of the old one, as that one means them, and no others
pub record HasCarried (Stands : Database → Tables → Type 0) (IsFile : Database → Type 0)
    (before after : State) (among : Meaning → Meaning) (db : Database) : Type 0 where
  pub file : IsFile db
  pub sound : AreAll IsSoundLab (meaning (tables_in db.trees))
  pub same : (t : Tables) → ReadsOldAs Stands before after t → SameMeaning (among (meaning t))
      (meaning (tables_in db.trees))

-- it is being filled, and has those of these codes
abbrev pub HasThese : (Database → Tables → Type 0) → State → State → List (List ℕ) → Database
    → Type 0
HasThese Stands before after done = HasCarried Stands IsBeingFilled before after (meaning_among done)

-- it is finished, and has every laboratory of the old file
abbrev pub IsWhole : (Database → Tables → Type 0) → State → State → Database → Type 0
IsWhole Stands before after = HasCarried Stands IsKept before after (λ held. held)

-- ---- a call that commits more than once, however it ends

pub record MakesBySteps (Left Filled Made : Database → Type 0) {A E : Type 0} (result : Result A E)
    (old new : State) : Type 0 where
  pub at_rest : IsAtRest new
  pub clean : HasCleanDisk new → HasCleanDisk old
  pub live : HasCleanDisk new → IsTrue new.is_open → IsTrue old.is_open
  -- a crash may leave what it could leave before, or what is made on the way
  pub crash : HasCleanDisk new → IsTrue old.is_open → (trees : Trees) → new.may_leave trees
      → old.may_leave trees ⊎ ((db : Database) × Left db × (trees ≡ db.trees))
  -- at Ok all of it is made
  pub made : HasCleanDisk new → IsTrue old.is_open
      → OnOk result (IsTrue new.is_open × Made new.now)
  -- where it failed, the rows are as before, or some of it is made
  pub rows : WhereShown new (OnErr result ((new.now ≡ old.now) ⊎ Filled new.now))
  -- no fault is forgotten, and the steps have the limit that they had
  pub counts : old.faults ≤ new.faults
  pub limit : new.step_limit ≡ old.step_limit

-- what is said of a file that was without a laboratory before
abbrev pub OnceBegun : Database → (Database → Type 0) → Database → Type 0
OnceBegun was Holds db = IsBegun was → Holds db

-- a call that fills a new file with what this says, or fails while it is being filled
abbrev pub Fills : {A E : Type 0} → (Database → Type 0) → Result A E → State → State → Type 0
Fills Made result old new =
    MakesBySteps (OnceBegun old.now IsBeingFilled) (OnceBegun old.now IsBeingFilled)
    (OnceBegun old.now Made) result old new

-- ---- what a move answers

-- the tables for which the old file stands have so many laboratories, each with well-kept rows, and
-- the new one has each as those mean it, and no other: records, versions with their text, digest
-- and signatures, persons, sessions, forms and the trail
pub record IsMoved (t new : Tables) (many : ℕ) : Type 0 where
  pub count : length t.labs ≡ many
  pub sound : All (IsSoundIn t) (codes_of t)
  pub same : SameMeaning (meaning t) (meaning new)

-- all that a start asks: the connection is live and its tables are well kept, and every laboratory
-- is within its limits, bound, under dual control and legible
pub record IsStart (s : State) : Type 0 where
  pub live : IsTrue s.is_open
  pub ready : IsReady s
  pub within : AreAll IsWithin (meaning (tables_of s))
  pub releasing : AreAll IsReleasing (meaning (tables_of s))
  pub legible : AreAll IsLegible (meaning (tables_of s))

-- ---- why it was refused

-- by the old file before and after the call, and the new one before it
abbrev pub HasCause : State → State → State → MoveFault → Type 0
HasCause before after fresh (File NotADeskFile) =
    HasCleanDisk after → IsNoneOfOld before after NotADeskFile
HasCause before after fresh (File (SchemaOld number)) =
    HasCleanDisk after → IsNoneOfOld before after (SchemaOld number)
HasCause before after fresh (File (SchemaNew number)) =
    HasCleanDisk after → IsNoneOfOld before after (SchemaNew number)
HasCause before after fresh (File Storage) = Unit {0}
HasCause before after fresh (File NotEmpty) = IsTrue (is_taken fresh.now.schema)
HasCause before after fresh (File Memory) = Unit {0}
HasCause before after fresh (NotSound lab) =
    (t : Tables) → ReadsOldAs StandsFor before after t → IsFirstUnsound t (codes_of t) lab

-- ---- what it leaves of a new file that was empty

-- whoever opens it is told that it is none in which laboratories are kept
abbrev pub IsNoInstallation : {S : Type 0} → Ghosts S → Database → Type 0
IsNoInstallation {S} g db =
    (old new : Held S) (answer : Result (Unit {0}) FileFault) → (state g old).now ≡ db
    → AnswersVerdict (state g old) (state g new) answer
    → (answer ≡ Err NotADeskFile) ⊎ FailedInStore answer

pub record LeavesUnfinished {S : Type 0} (g : Ghosts S) (before after : State) {A E : Type 0}
    (result : Result A E) (old new : State) : Type 0 where
  -- a crash, whenever it comes, leaves what it could leave before, or a file that is refused, or
  -- the whole one
  pub crash : HasCleanDisk new → IsTrue old.is_open → (trees : Trees) → new.may_leave trees
      → old.may_leave trees
      ⊎ ((db : Database) × (IsNoInstallation g db ⊎ IsWhole StandsFor before after db)
      × (trees ≡ db.trees))
  -- where the call failed, the file is refused, as it would have been before
  pub rows : WhereShown new (OnErr result (IsNoInstallation g new.now))

-- ---- what it leaves of a whole one

-- it lasts: a crash, whenever it comes while the file is open, leaves the rows that it shows and
-- nothing else, and these are the whole file
pub record Lasts (before after new : State) : Type 0 where
  pub left : (trees : Trees) → new.may_leave trees → trees ≡ new.now.trees
  pub stays : new.may_leave new.now.trees
  pub whole : IsWhole StandsFor before after new.now
