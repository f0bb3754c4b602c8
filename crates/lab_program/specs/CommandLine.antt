-- What `labdesk` does for words that ask for a task.
use Rattle.std.specs.Prelude.{List, ℕ, Option, Result, Ok, Err, nat_le}
use Rattle.sqlite_trees.specs.declared.store.Store.{Ghosts}
use Rattle.sqlite.specs.declared.error.Error.{Error}
use Rattle.sqlite.specs.Held.{Held}
use Rattle.lab_copy.specs.Checks.{OfVerdict}
use Rattle.lab_program_check.specs.Verdicts.{IsCheck}
use Rattle.lab_forms_streams.specs.declared.sending.WriteFault.{WriteFault as Untold}
use Rattle.lab_program_host.specs.Sources.{Drawing}
use Rattle.lab_program_host.specs.TaskEnds.{TaskEnd}
use Rattle.lab_program_files.specs.FileWorlds.{file_keeper}
use Rattle.lab_program_opening.specs.Ends.{WasClosed}
use Rattle.lab_program_opening.specs.Files.{IsOurs, IsUnopened}
use Rattle.lab_program_opening.specs.Volumes.{FileAt}
use Rattle.lab_program_replay.specs.Replays.{IsReplay}
use Rattle.lab_program_files.specs.Serving.{IsNotOpenedAnywhere, IsOursAnywhere, ServesFile, WasGivenUpAnywhere}
use Rattle.lab_program_moves.specs.Moves.{IsMigration}
use Rattle.lab_program.specs.Laboratories.{IsCopiedIf, IsFounded, IsRehearsed}
use Rattle.lab_program_words.specs.Tasks.{Asked, founds, serves, copies, migrates, checks, replays, rehearses}

-- the status of the program, by the end of its task: that of a fault where standard error failed
-- before the fault was told. A task's status is 0 where all was done, and else 1
abbrev pub exit_status : Result ℕ Untold → ℕ
exit_status (Ok status) = status
exit_status (Err untold) = 1

-- what is asked for is done, from this input, at the moment and with the words that were drawn,
-- over files of whose paths the volume says what was known, each of which was closed as it was left.
-- Who is at a port can't be said here
module _ {S Volume : Type 0} (disk : Ghosts S) (files : Volume → List ℕ → FileAt)
    (closes : Held S → Result (Unit {0}) Error → Type 0) (volume : Volume) where
  abbrev pub IsDone : Drawing → Asked → (input : Option (List ℕ)) → TaskEnd → Type 0
  IsDone drawing (founds file lab) input end =
      IsFounded disk (files volume file) (WasClosed closes)
      (record { drawing = drawing; code = lab; body = input }) end
  IsDone drawing (serves file port count) input end =
      ServesFile (file_keeper disk) (IsOurs disk (files volume file).holds)
      (IsOursAnywhere disk files) (WasGivenUpAnywhere closes files)
      (IsNotOpenedAnywhere disk closes files)
      (IsUnopened disk (WasClosed closes) (files volume file)) drawing count end
  IsDone drawing (copies file lab from to) input end =
      IsCopiedIf disk (files volume file) (WasClosed closes) (record {
        moments = drawing.moments;
        later = drawing.later;
        code = lab;
        from = from;
        to = to;
      }) (nat_le from to) end
  IsDone drawing (migrates old new) input end =
      IsMigration disk files (WasClosed closes)
      (record { volume = volume; old = old; new = new }) end
  IsDone drawing checks input end = OfVerdict input (λ verdict.
      IsCheck verdict end.status end.before end.after end.told_before end.told_after)
  IsDone drawing replays input end =
      IsReplay input end.before end.after end.told_before end.told_after end.status
  IsDone drawing (rehearses lab moment) input end = IsRehearsed lab input end
