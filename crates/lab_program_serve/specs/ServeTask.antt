-- What the task `serve` comes to, by its status and what standard error was told.
use Rattle.std.specs.Prelude.{ℕ, Option, Result, IfSome}
use Rattle.lab_forms_texts.specs.declared.refusals.Fault.{Fault}
use Rattle.lab_records_keeper.specs.declared.faults.BadStore.{BadStore}
use Rattle.lab_records_keeper.specs.declared.keeper.Keeper.{Ghosts}
use Rattle.lab_desk.specs.Desk.{Served}
use Rattle.lab_program_host.specs.Faults.{PrintsFault, server_fault_word}
use Rattle.lab_program_host.specs.Sources.{Drawing}
use Rattle.lab_program_host.specs.declared.faults.ServerFault.{ServerFault}
use Rattle.lab_program_host.specs.TaskEnds.{TaskEnd}
use Rattle.lab_program_serve.specs.Texts.{IsAnnounced}
use Rattle.lab_program_serve.specs.Times.{ServesTimes}
use Rattle.lab_program_serve.specs.Visits.{listened}

-- from a keeper that was opened on so many connections were served, at the moments and with the
-- words that were drawn, unless a fault came, which was told; each keeper that was given up was
-- closed, and this one was left
pub record IsServing {S : Type 0} (keeper : Ghosts S) (opened closed : S → Type 0)
    (unopened : Fault BadStore → Type 0) (first left : Option (Served S)) (drawing : Drawing)
    (count : ℕ) (end : TaskEnd) : Type 0 where
  pub ending : Result (Unit {0}) ServerFault
  pub announced : IsAnnounced ending end.before end.after
  pub served : IfSome first (λ desk. opened desk.keeper →
      ServesTimes keeper opened closed unopened desk.keeper left ending count (listened drawing))
  pub told : PrintsFault server_fault_word ending end.status end.told_before end.told_after
