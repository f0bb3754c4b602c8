-- Serving the laboratories of a file.
use Rattle.std.specs.Prelude.{◌≡◌, ◌⊎◌, ℕ, List, Option, Some, Result, option_map, IfSome}
use Rattle.std.specs.Io.KnownBytes.{Keeps}
use Rattle.sqlite_trees.specs.declared.store.Store.{Ghosts as DiskOf}
use Rattle.sqlite.specs.declared.error.Error.{Error}
use Rattle.sqlite.specs.Held.{Held}
use Rattle.lab_forms_texts.specs.declared.refusals.Fault.{Fault}
use Rattle.lab_forms_texts.specs.declared.refusals.Fault.TheVariants.{Memory, Refused}
use Rattle.lab_records_keeper.specs.declared.faults.BadStore.{BadStore}
use Rattle.lab_records_keeper.specs.declared.keeper.Keeper.{Ghosts}
use Rattle.lab_store_files.specs.declared.faults.FileFault.TheVariants.{Memory as OutOfMemory}
use Rattle.lab_desk.specs.Desk.{Served}
use Rattle.lab_program_host.specs.Sources.{Drawing}
use Rattle.lab_program_serve.specs.ServeTask.{IsServing}
use Rattle.lab_program_host.specs.TaskEnds.{TaskEnd}
use Rattle.lab_forms_streams.specs.Sending.{read_fault_word}
use Rattle.lab_program_opening.specs.declared.faults.OpenFault.{OpenFault}
use Rattle.lab_program_opening.specs.declared.faults.OpenFault.TheVariants.{File}
use Rattle.lab_program_opening.specs.Ends.{WasClosed, WasGivenUp}
use Rattle.lab_program_opening.specs.Files.{IsOursAt, IsUnopenedAt}
use Rattle.lab_program_opening.specs.Volumes.{FileAt}
use Rattle.lab_program_opening.specs.Faults.{Declines, TellsWord}

-- the fault with which requests are refused while the file isn't opened
abbrev pub keeper_fault : OpenFault → Fault BadStore
keeper_fault (File OutOfMemory) = Memory
keeper_fault _ = Refused (record {})

-- ---- the file that is opened anew, at whatever path and whenever

module _ {S Volume : Type 0} (disk : DiskOf S) (closes : Held S → Result (Unit {0}) Error → Type 0)
    (file : Volume → List ℕ → FileAt) where
  -- it wasn't opened, which has its cause: requests are refused with this fault
  abbrev pub IsNotOpenedAnywhere : Fault BadStore → Type 0
  IsNotOpenedAnywhere told = (path : List ℕ) × (fault : OpenFault)
      × IsUnopenedAt disk (WasClosed closes) file path fault × (told ≡ keeper_fault fault)

module _ {S Volume : Type 0} (disk : DiskOf S) (file : Volume → List ℕ → FileAt) where
  abbrev pub IsOursAnywhere : Held S → Type 0
  IsOursAnywhere conn = (path : List ℕ) × IsOursAt disk file path conn

module _ {S Volume : Type 0} (closes : S → Result (Unit {0}) Error → Type 0)
    (file : Volume → List ℕ → FileAt) where
  abbrev pub WasGivenUpAnywhere : S → Type 0
  WasGivenUpAnywhere conn = (path : List ℕ) × WasGivenUp closes file path conn

-- ---- the task

module _ {S : Type 0} (keeper : Ghosts S) (found opened closed : S → Type 0)
    (unmended : Fault BadStore → Type 0) (unopened : OpenFault → Type 0) (drawing : Drawing)
    (count : ℕ) (end : TaskEnd) where
  -- from the keeper of the file that was found on so many connections were served, unless a fault
  -- came, which was told; over each keeper that was opened each laboratory stays within its limits
  -- and has all that was recorded; and this one is left to be closed. Requests that came while none
  -- was open were refused, since the file couldn't be opened
  abbrev pub ServesTo : Option S → Type 0
  ServesTo finished = (first : Served S) × (left : Option (Served S)) × found first.keeper
      × IsServing keeper opened closed unmended (Some first) left drawing count end
      × (finished ≡ option_map (λ desk. desk.keeper) left)

  -- nothing was served, and why was told: the file wasn't opened, which has its cause, or memory ran
  -- out
  abbrev pub DeclinesToServe : Type 0
  DeclinesToServe = Keeps end.before end.after
      × ((fault : OpenFault) × unopened fault
      × Declines fault end.status end.told_before end.told_after)

  -- nothing was served, since no port was listened at, and that was told
  abbrev pub DeclinesToListen : Type 0
  DeclinesToListen = Keeps end.before end.after
      × TellsWord read_fault_word end.status end.told_before end.told_after

  -- so it ended, by what is left to be closed: where nothing was served, it is the keeper that was
  -- found, if any was
  abbrev pub ServesAs : Option S → Type 0
  ServesAs finished = ServesTo finished
      ⊎ ((DeclinesToServe ⊎ DeclinesToListen) × IfSome finished found)

  -- the task `serve`: what was left to be closed was closed
  abbrev pub ServesFile : Type 0
  ServesFile = (finished : Option S) × ServesAs finished × IfSome finished closed
