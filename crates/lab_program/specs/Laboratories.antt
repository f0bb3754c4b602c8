-- Tasks of one laboratory, which the words name by a text, and whose founding comes by the input.
use Rattle.std.specs.Prelude.{ℕ, Bool, true, false, List, [], ◌∷◌, Option, Err}
use Rattle.std.specs.Io.KnownBytes.{Keeps}
use Rattle.clap.specs.declared.error.kind.ErrorKind.TheVariants.{ValueValidation}
use Rattle.sqlite_trees.specs.declared.store.Store.{Ghosts}
use Rattle.sqlite.specs.Held.{Held}
use Rattle.lab_forms_texts.specs.Faults.{name_fault_entry}
use Rattle.lab_forms_texts.specs.Names.{is_lab_code}
use Rattle.lab_forms_texts.specs.declared.faults.BadName.{BadName}
use Rattle.lab_forms_texts.specs.declared.refusals.Fault.{Fault}
use Rattle.lab_program_host.specs.Faults.{PrintsFault}
use Rattle.lab_program_host.specs.TaskEnds.{TaskEnd}
use Rattle.lab_program_serve.specs.RehearseTask.{IsRehearsal}
use Rattle.lab_program_opening.specs.Files.{IsOpened, IsOurs, IsUnmade, IsUnopened}
use Rattle.lab_program_opening.specs.Volumes.{FileAt}
use Rattle.lab_program_files.specs.Copying.{CopyTask, IsCopying}
use Rattle.lab_program_files.specs.FileWorlds.{file_keeper, file_refuses}
use Rattle.lab_program_files.specs.Foundings.{FoundTask, IsFounding}
use Rattle.lab_program_app.specs.Explaining.{IsExplained}

-- nothing was done, and this word was told: the status is 1
abbrev pub Declines : List ℕ → TaskEnd → Type 0
Declines word end = Keeps end.before end.after
    × PrintsFault (λ (fault : List ℕ). fault) (Err word) end.status end.told_before end.told_after

module _ (end : TaskEnd) (Done : Type 0) where
  -- by whether a text is a laboratory's code: so it was done; of a text that is none this is told,
  -- or that memory ran out, and nothing was done
  abbrev pub OfCodeIf : Bool → Type 0
  OfCodeIf true = Done
  OfCodeIf false = (fault : Fault BadName) × Declines (name_fault_entry fault).word end

  abbrev pub OfCode : List ℕ → Type 0
  OfCode lab = OfCodeIf (is_lab_code lab)

-- ---- each task

module _ {S : Type 0} (disk : Ghosts S) (file : FileAt) (closed : Held S → Type 0) where
  -- a founding in a file that held this, from this body, at the tick that was drawn
  abbrev pub IsFounded : FoundTask → TaskEnd → Type 0
  IsFounded task end =
      OfCode end (IsFounding (file_keeper disk) task (IsOpened disk file.holds) closed
      (IsUnmade disk closed file) end) task.code

  -- a copy of the records of a file's laboratory, at the moment that the clock gave
  abbrev pub IsCopied : CopyTask → TaskEnd → Type 0
  IsCopied task end =
      OfCode end (IsCopying (file_keeper disk) (file_refuses disk) task (IsOurs disk file.holds) closed
      (IsUnopened disk closed file) end) task.code

  -- by whether its range begins before it ends, or there: one that doesn't is a fault in the words
  abbrev pub IsCopiedIf : CopyTask → Bool → TaskEnd → Type 0
  IsCopiedIf task true end = IsCopied task end
  IsCopiedIf task false end = IsExplained (ValueValidation ∷ []) end.before end.after
      end.told_before end.told_after end.status

-- a rehearsal of a founding from this body
abbrev pub IsRehearsed : List ℕ → Option (List ℕ) → TaskEnd → Type 0
IsRehearsed lab body end = OfCode end (IsRehearsal body lab end) lab
