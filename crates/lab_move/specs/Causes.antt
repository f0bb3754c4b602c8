-- Why a call returns the fault of the store, 63, where a file of an older schema is opened or moved. The
-- old file gave no answer when it was asked for the number of its schema, or the tables of the new one
-- weren't made: for a fault of the disk in the call, a connection that was shut before it, a limit of
-- steps, or a statement that was refused. Else the move was under way. Of a new file that was empty it
-- is said what was placed, and which reading or placing was refused then; where all laboratories were
-- placed, why the move wasn't finished: a call was refused, or the two files differ in a number of rows.
-- Where no tables stand for the old file, or the new one wasn't empty, no cause is named once the move is
-- under way.
use Rattle.std.specs.Prelude.{◌≡◌, ◌⊎◌, ℕ, List, [], ◌∷◌, ◌++◌, All, Option, Some, None, Ok, false, IsFalse}
use Rattle.sqlite_trees.specs.declared.store.Store.{Ghosts}
use Rattle.sqlite_value.specs.Order.{Row}
use Rattle.sqlite_resolve.specs.declared.compiled.Compiled.{Compiled}
use Rattle.sqlite.specs.declared.error.Error.{Error}
use Rattle.sqlite.specs.Clock.{timed}
use Rattle.sqlite.specs.Held.{Held, state}
use Rattle.sqlite.specs.State.{State, FailsToShow, HasCleanDisk, IsNoStatement, IsStatement, Shown}
use Rattle.lab_forms_texts.specs.declared.refusals.Fault.{Fault}
use Rattle.lab_records_keeper.specs.declared.faults.BadStore.{BadStore}
use Rattle.lab_records_kept.specs.declared.labs.Lab.{Lab}
use Rattle.lab_records_kept.specs.Limits.{IsWithin}
use Rattle.lab_store_tables.specs.Ready.{WhereShown, tables_of}
use Rattle.lab_store_tables.specs.Rows.{Tables}
use Rattle.lab_store_read.specs.Causes.{IsCaused}
use Rattle.lab_store_read.specs.Faults.{is_out_of_memory}
use Rattle.lab_store_files.specs.declared.faults.FileFault.{FileFault}
use Rattle.lab_store_files.specs.NewFiles.{IsBlank}
use Rattle.lab_store_files.specs.Schemas.{is_taken}
use Rattle.lab_store_write.specs.Causes.{IsTooGreat}
use Rattle.lab_store_write.specs.Transactions.{FailsInside}
use Rattle.lab_move_tables.specs.Reading.{PassesOver, ReadsAs, ReadsOld}
use Rattle.lab_move_tables.specs.Standing.{StandsBy}
use Rattle.lab_move_tables.specs.declared.older.Older.{Older}
use Rattle.lab_move_write.specs.Causes.{AreUnmade, IsNamingRefused}
use Rattle.lab_move_write.specs.Commits.{MakesAtOnce}
use Rattle.lab_move_write.specs.Unfinished.{Begins, IsBeingFilled}
use Rattle.lab_move_read.specs.Laboratories.{IsLabOf, codes_of}
use Rattle.lab_move_read.specs.Readable.{HasCodes, HasWhole}
use Rattle.lab_move.specs.Counting.{AreCounts, counts_text}
use Rattle.lab_move.specs.Moving.{Fills, HasThese, IsSoundIn}
use Rattle.lab_move.specs.OldFiles.{Names}

-- ---- a question

-- a file refused a question, and not for want of memory: its schema doesn't understand the question, or
-- the query failed on what the file holds, or reached the limit of steps
pub record RefusesQuestion (text : List ℕ) (old new : State) : Type 0 where
  pub error : Error
  pub told : IsFalse (is_out_of_memory error)
  pub refused : IsNoStatement old text [] error
      ⊎ ((read : Compiled) × (it : IsStatement old text [] read)
      × FailsToShow old new text read (timed [] read.formats it.now) error read.returning)

-- the question got no answer
abbrev pub IsUnanswered : List ℕ → State → State → Type 0
IsUnanswered text old new = IsCaused old new ⊎ RefusesQuestion text old new

-- ---- a laboratory

-- one that was read wasn't written: its transaction was refused, or it has a count that no column
-- holds
abbrev pub IsUnwritten : {S : Type 0} → Ghosts S → Lab → Held S → Held S → Type 0
IsUnwritten g lab old new =
    IsCaused (state g old) (state g new) ⊎ (IsTooGreat lab.strays ⊎ FailsInside g old new)

-- or it isn't within its limits
abbrev pub IsUnplaced : {S : Type 0} → Ghosts S → Lab → Held S → Held S → Type 0
IsUnplaced g lab old new = (¬ IsWithin lab) ⊎ IsUnwritten g lab old new

-- what was found under a code wasn't placed
abbrev pub IsUnplacedOf : {S : Type 0} → Ghosts S → Option Lab → Held S → Held S → Type 0
IsUnplacedOf g found old new =
    (found ≡ None) ⊎ ((lab : Lab) × (found ≡ Some lab) × IsUnplaced g lab old new)

-- the laboratory of the code wasn't read, which has its cause where its rows are readable; or it was,
-- and wasn't placed
abbrev pub IsRefusedLab : {S : Type 0} → Ghosts S → Older → List ℕ → State → State → Held S → Held S
    → Type 0
IsRefusedLab g older code before after old new =
    ((t : Tables) → StandsBy older before.now t → HasWhole older code before.now t
    → IsCaused before after)
    ⊎ ((found : Option Lab)
    × ((t : Tables) → StandsBy older before.now t → IsLabOf t code found)
    × IsUnplacedOf g found old new)

-- ---- laboratories, one after the other

-- those of some codes were read of the old file and are in the new one: as both were before, and are
-- now
pub record ArePlaced {S : Type 0} (g : Ghosts S) (older : Older) (done : List (List ℕ))
    (before now : State) (fresh last : Held S) : Type 0 where
  pub read : ReadsAs (StandsBy older) {T = Unit {0}} {E = ⊥} (λ t _. All (IsSoundIn t) done)
      before now (Ok tt)
  pub moved : Fills {A = Unit {0}} {E = ⊥} (HasThese (StandsBy older) before now done) (Ok tt)
      (state g fresh) (state g last)

-- the next one was refused, and the new file has the rows that it had before that one
pub record StopsAtLab {D S : Type 0} (seen : D → State) (g : Ghosts S) (older : Older)
    (codes : List (List ℕ)) (before after : D) (fresh new : Held S) : Type 0 where
  pub done : List (List ℕ)
  pub code : List ℕ
  pub rest : List (List ℕ)
  pub split : codes ≡ done ++ code ∷ rest
  pub now : D
  pub last : Held S
  pub placed : ArePlaced g older done (seen before) (seen now) fresh last
  pub passes : PassesOver (seen now) (seen after)
  pub clean : HasCleanDisk (state g new) → HasCleanDisk (state g last)
  pub left : WhereShown (state g new) ((state g new).now ≡ (state g last).now)
  pub why : IsRefusedLab g older code (seen now) (seen after) last new

-- ---- the end, by the old file before and after it, and the new one before and after it

-- the old file answered, and its answer isn't how many rows the tables of the new one have
pub record CountsDiffer {S : Type 0} (g : Ghosts S) (before after : State) (last : Held S)
    : Type 0 where
  pub rows : List Row
  pub shown : Shown counts_text [] before after rows
  pub differ : ¬ AreCounts rows (tables_of (state g last))

-- the numbers of rows weren't found equal: one of the two files gave no answer, or they differ
abbrev pub FailsToMatch : {S : Type 0} → Ghosts S → State → State → Held S → Held S → Type 0
FailsToMatch g before after last new =
    IsUnanswered counts_text before after
    ⊎ (IsCaused (state g last) (state g new) ⊎ CountsDiffer g before after last)

-- the new file was read, and then its schema wasn't named
pub record IsSchemaUnnamed {S : Type 0} (g : Ghosts S) (last new : Held S) : Type 0 where
  pub asked : Held S
  pub reads : ReadsOld {T = Unit {0}} {E = ⊥} (λ t _. Unit {0}) (state g last) (state g asked) (Ok tt)
  pub clean : HasCleanDisk (state g new) → HasCleanDisk (state g asked)
  pub why : IsCaused (state g asked) (state g new) ⊎ IsNamingRefused g asked new

abbrev pub IsMoveUnfinished : {S : Type 0} → Ghosts S → State → State → Held S → Held S → Type 0
IsMoveUnfinished g before after last new =
    FailsToMatch g before after last new ⊎ IsSchemaUnnamed g last new

-- all laboratories were placed, and then the move wasn't finished
pub record StopsAtEnd {D S : Type 0} (seen : D → State) (g : Ghosts S) (older : Older)
    (codes : List (List ℕ)) (before after : D) (fresh new : Held S) : Type 0 where
  pub now : D
  pub last : Held S
  pub placed : ArePlaced g older codes (seen before) (seen now) fresh last
  pub passes : PassesOver (seen now) (seen after)
  pub clean : HasCleanDisk (state g new) → HasCleanDisk (state g last)
  pub left : WhereShown (state g new) ((state g new).now ≡ (state g last).now)
  pub why : IsMoveUnfinished g (seen now) (seen after) last new

-- ---- all that is filled in, by the old file before and after it, and the new one before and after it

-- the codes weren't read, which has its cause where they are readable, and nothing was placed; or they
-- were, and a laboratory was refused, or the end was
abbrev pub IsFillingRefused : {D S : Type 0} → (D → State) → Ghosts S → Older → D → D → Held S
    → Held S → Type 0
IsFillingRefused {D} seen g older before after fresh new =
    (((t : Tables) → StandsBy older (seen before).now t → HasCodes (seen before).now t
    → IsCaused (seen before) (seen after))
    × WhereShown (state g new) ((state g new).now ≡ (state g fresh).now))
    ⊎ ((codes : List (List ℕ)) × (now : D)
    × ReadsAs (StandsBy older) {E = Fault BadStore} (λ t made. made ≡ codes_of t)
    (seen before) (seen now) (Ok codes)
    × (StopsAtLab seen g older codes now after fresh new
    ⊎ StopsAtEnd seen g older codes now after fresh new))

-- ---- the move, by the old file before and after it, and the new one before and after it

-- the old file is of an older schema, and the call that makes the tables of the new one returned Ok
pub record IsUnderWay {D S : Type 0} (seen : D → State) (g : Ghosts S) (before after : D)
    (fresh new : Held S) : Type 0 where
  pub older : Older
  pub named : Names older (seen before).now
  pub free : is_taken (state g fresh).now.schema ≡ false
  -- a new file that was empty is being filled, and not as it was
  pub filling : IsBlank (state g fresh).now
      → WhereShown (state g new) (IsBeingFilled (state g new).now)
  -- the new one after that call
  pub begun : Held S
  pub made : MakesAtOnce (Begins (state g fresh).now) {A = Unit {0}} {E = FileFault} (Ok tt)
      (state g fresh) (state g begun)
  pub why : IsBlank (state g fresh).now → IsFillingRefused seen g older before after begun new

-- the tables weren't made, or the move was under way
abbrev pub IsMoveCaused : {D S : Type 0} → (D → State) → Ghosts S → D → D → Held S → Held S → Type 0
IsMoveCaused seen g before after fresh new =
    AreUnmade g fresh new ⊎ IsUnderWay seen g before after fresh new
