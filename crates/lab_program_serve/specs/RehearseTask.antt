-- What the task `rehearse` comes to, by its status and what standard error was told.
use Rattle.std.specs.Prelude.{◌≡◌, ℕ, List, [], Option, Result, Ok, Err}
use Rattle.std.specs.Io.KnownBytes.{Appends}
use Rattle.lab_records_kept.specs.declared.labs.Lab.{Lab}
use Rattle.lab_desk_foundings.specs.Foundings.{IsNewborn, founding_in}
use Rattle.lab_program_host.specs.Faults.{PrintsFault, rehearsal_fault_word}
use Rattle.lab_program_host.specs.declared.faults.RehearsalFault.{RehearsalFault}
use Rattle.lab_program_host.specs.declared.faults.RehearsalFault.TheVariants.{Founding, Server}
use Rattle.lab_program_host.specs.TaskEnds.{TaskEnd}
use Rattle.lab_program_serve.specs.Rehearsals.{IsUnfounded, OfBody, rehearsal_tick}

-- the body bears a laboratory where a reply was printed, and a refusal is that of its founding
abbrev pub FoundsBy : List ℕ → List ℕ → Result (Unit {0}) RehearsalFault → Type 0
FoundsBy code body (Ok _) =
    (lab : Lab) × IsNewborn code (rehearsal_tick 0) (founding_in body) lab
FoundsBy code body (Err fault) = IsUnfounded code body fault

-- what was printed after a founding: nothing where it was refused
abbrev pub Prints : Result (Unit {0}) RehearsalFault → List ℕ → Type 0
Prints (Ok _) printed = Unit {0}
Prints (Err (Founding fault)) printed = printed ≡ []
Prints (Err (Server fault)) printed = Unit {0}

-- a laboratory was founded and asked for its card, unless a fault came, which was told
pub record IsRehearsal (body : Option (List ℕ)) (code : List ℕ) (end : TaskEnd) : Type 0 where
  pub ending : Result (Unit {0}) RehearsalFault
  pub founded : OfBody body (λ bytes. FoundsBy code bytes ending)
  pub printed : List ℕ
  pub prints : Prints ending printed
  pub wrote : Appends end.before end.after printed
  pub told : PrintsFault rehearsal_fault_word ending end.status end.told_before
      end.told_after
