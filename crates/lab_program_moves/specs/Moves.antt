-- Moving the laboratories of an old file into a new one: how it ended, what was made, and what was
-- printed (21 CFR 11.10(c), "protection of records to enable their accurate and ready retrieval
-- throughout the records retention period"; docs/FORMATS.md has the lines).
use Rattle.std.specs.Prelude.{◌≡◌, ◌⊎◌, ◌<◌, ◌++◌, ℕ, List, Option, Result, Ok, Err, IfErr, IfOk, OnOk, codes, decimal, length, take}
use Rattle.std.specs.Io.KnownBytes.{Appends, Keeps}
use Rattle.sqlite_trees.specs.Tree.{Trees}
use Rattle.sqlite_trees.specs.declared.store.Store.{Ghosts}
use Rattle.sqlite.specs.Held.{Held, state}
use Rattle.sqlite.specs.State.{HasCleanDisk}
use Rattle.lab_store_tables.specs.Ready.{tables_of}
use Rattle.lab_store_files.specs.declared.faults.FileFault.{FileFault}
use Rattle.lab_store_files.specs.declared.faults.FileFault.TheVariants.{Storage}
use Rattle.lab_forms_texts.specs.Faults.{memory_entry}
use Rattle.lab_forms_streams.specs.declared.sending.WriteFault.{WriteFault as Untold}
use Rattle.lab_forms_streams.specs.Sending.{write_fault_word}
use Rattle.lab_move.specs.Causes.{IsMoveCaused}
use Rattle.lab_move.specs.OldFiles.{StandsFor}
use Rattle.lab_move.specs.Moving.{HasCause, IsMoved, IsStart, Lasts, LeavesUnfinished}
use Rattle.lab_move.specs.Owed.{AnswersOldOwed, MovesAsOwed}
use Rattle.lab_move.specs.declared.faults.MoveFault.{MoveFault}
use Rattle.lab_move.specs.declared.faults.MoveFault.TheVariants.{File, NotSound}
use Rattle.lab_store_tables.specs.Rows.{Tables}
use Rattle.lab_move_tables.specs.Reading.{PassesOver, ReadsOld}
use Rattle.lab_move_tables.specs.declared.older.Older.{Older}
use Rattle.lab_program_host.specs.TaskEnds.{TaskEnd}
use Rattle.lab_program_opening.specs.declared.faults.OpenFault.{OpenFault}
use Rattle.lab_program_opening.specs.declared.faults.OpenFault.TheVariants.{File as Unopened}
use Rattle.lab_program_opening.specs.Faults.{Declines, TellsWord}
use Rattle.lab_program_opening.specs.Files.{Finds, IsBlankAt, IsFilled, LeavesShown}
use Rattle.lab_program_opening.specs.Volumes.{FileAt, IsOfFile, IsRefusedBy}

-- ---- what was printed and told

abbrev pub migrated_line : ℕ → List ℕ
migrated_line count = codes "migrated " ++ decimal count ++ codes "\n"

-- what is told of a laboratory that isn't sound
abbrev pub unsound_words : List ℕ → List ℕ
unsound_words lab = codes "not_sound " ++ lab

-- that was told, or, where there was no memory to put the code into the line, that memory ran out
abbrev pub TellsUnsound : List ℕ → Result ℕ Untold → Option (List ℕ) → Option (List ℕ) → Type 0
TellsUnsound lab status before after = TellsWord (unsound_words lab) status before after
    ⊎ TellsWord memory_entry.word status before after

-- the fault of a move
abbrev pub TellsFault : MoveFault → Result ℕ Untold → Option (List ℕ) → Option (List ℕ) → Type 0
TellsFault (File fault) status before after = Declines (Unopened fault) status before after
TellsFault (NotSound lab) status before after = TellsUnsound lab status before after

module _ (end : TaskEnd) where
  abbrev pub TellsAs : List ℕ → Type 0
  TellsAs words = TellsWord words end.status end.told_before end.told_after

  -- the line, with the status 0; its first bytes, and not all, where the output failed, which was
  -- told; or nothing where there was no memory for it, which was told
  abbrev pub Prints : List ℕ → Type 0
  Prints line =
      (Appends end.before end.after line × (end.status ≡ Ok 0)
      × Keeps end.told_before end.told_after)
      ⊎ (((sent : ℕ) × (sent < length line) × Appends end.before end.after (take sent line))
      × TellsAs write_fault_word)
      ⊎ (Keeps end.before end.after × TellsAs memory_entry.word)

  -- how the move ended, or why a file was not opened
  abbrev pub TellsEnd : Result (Result ℕ MoveFault) OpenFault → Type 0
  TellsEnd (Ok (Ok count)) = Prints (migrated_line count)
  TellsEnd (Ok (Err fault)) = Keeps end.before end.after
      × TellsFault fault end.status end.told_before end.told_after
  TellsEnd (Err fault) = Keeps end.before end.after
      × Declines fault end.status end.told_before end.told_after

-- ---- what was made

-- what the task `migrate` is given
pub record MoveTask (Volume : Type 0) : Type 0 where
  -- the volume, as it was before
  pub volume : Volume
  -- the paths of the old file and of the new one
  pub old : List ℕ
  pub new : List ℕ

module _ {S : Type 0} (disk : Ghosts S) where
  -- an old file that held this was found, and asked which schema it has: an older one, as it owes;
  -- its rows are as they were
  abbrev pub IsAsked : (Trees → Type 0) → Held S → Type 0
  IsAsked IsHeld conn =
      (found : Held S) × Finds disk IsHeld found × PassesOver (state disk found) (state disk conn)
      × (older : Older) × (HasCleanDisk (state disk conn) →
      ((state disk conn).now ≡ (state disk found).now)
      × AnswersOldOwed (state disk found).now (Ok older))

  -- from this old file its laboratories came into this new one, in which nothing was: what `migrate`
  -- of `lab_move` says, however it ended
  pub record Moves (old new : Held S) (result : Result ℕ MoveFault) : Type 0 where
    -- both files afterwards
    pub left : Held S
    pub made : Held S
    -- so many laboratories, each as the tables mean it for which the old file stands, and no other
    pub moved : HasCleanDisk (state disk made) → (t : Tables)
        → StandsFor (state disk old).now t → HasCleanDisk (state disk left)
        → IfOk result (IsMoved t (tables_of (state disk made)))
    -- the new file is all that a start asks
    pub ready : HasCleanDisk (state disk made) → OnOk result (IsStart (state disk made))
    -- and while it is open, a crash leaves what it shows and nothing else
    pub shown : HasCleanDisk (state disk made) → OnOk result (LeavesShown (state disk made))
    -- a fault has this cause
    pub refused : IfErr result
        (HasCause (state disk old) (state disk left) (state disk new))
    -- the old rows are as they were
    pub old_same : ReadsOld (λ _ _. Unit {0}) (state disk old) (state disk left) result
    -- a new file that isn't whole is refused
    pub unfinished : LeavesUnfinished disk (state disk old) (state disk left) result
        (state disk new) (state disk made)

  -- and its answer is right: a refusal comes exactly where it is owed, unless a store failed; the
  -- fault of a store has its cause; and what was made lasts
  pub record AnswersRightly (old new : Held S) (result : Result ℕ MoveFault)
      (moves : Moves old new result) : Type 0 where
    pub owed : MovesAsOwed (state disk old) (state disk moves.left) (state disk new) result
    pub durable : HasCleanDisk (state disk moves.made) → OnOk result
        (Lasts (state disk old) (state disk moves.left) (state disk moves.made))
    -- the fault of a store has its cause
    pub cause : HasCleanDisk (state disk moves.left) → HasCleanDisk (state disk moves.made) →
        IfErr result (λ fault. fault ≡ File Storage →
        IsMoveCaused (state disk) disk old moves.left new moves.made)

  -- an old file that held this was found, and asked which schema it has, and owes this refusal
  pub record RefusesOld (IsHeld : Trees → Type 0) (fault : FileFault) : Type 0 where
    pub found : Held S
    pub conn : Held S
    pub finds : Finds disk IsHeld found
    pub passes : PassesOver (state disk found) (state disk conn)
    pub owed : HasCleanDisk (state disk conn) → AnswersOldOwed (state disk found).now (Err fault)

  module _ {Volume : Type 0} (files : Volume → List ℕ → FileAt) (closed : Held S → Type 0)
      (task : MoveTask Volume) where
    -- both files were opened, and the new one was closed as it was left
    abbrev pub MovesBetween : Result ℕ MoveFault → Type 0
    MovesBetween result = (old : Held S) × (new : Held S)
        × IsAsked (files task.volume task.old).holds old × IsBlankAt disk files task.new new
        × (moves : Moves old new result) × AnswersRightly old new result moves
        × closed moves.made

    -- why no move was begun, the old file first: it wasn't opened; or it was, and owes the refusal;
    -- or it is of an older schema, and the new one wasn't opened, or isn't empty
    abbrev pub IsUnbegun : OpenFault → Type 0
    IsUnbegun fault = IsRefusedBy (files task.volume task.old) fault
        ⊎ IsOfFile (RefusesOld (files task.volume task.old).holds) fault
        ⊎ ((old : Held S) × IsAsked (files task.volume task.old).holds old
        × ((volume : Volume) × IsFilled disk (files volume task.new) fault))

    -- the task `migrate`, by its status, what was printed and what was told
    pub record IsMigration (end : TaskEnd) : Type 0 where
      pub ending : Result (Result ℕ MoveFault) OpenFault
      pub moves : IfOk ending MovesBetween
      pub cause : IfErr ending IsUnbegun
      pub told : TellsEnd end ending
