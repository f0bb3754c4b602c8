-- A keeper that was asked whether it answers: all is as it was, and one that answers is live.
use Rattle.std.specs.Prelude.{Result, OnOk}
use Rattle.lab_forms_texts.specs.declared.refusals.Fault.{Fault}
use Rattle.lab_records_keeper.specs.declared.faults.BadStore.{BadStore}
use Rattle.lab_records_keeper.specs.declared.keeper.Keeper.{Ghosts}
use Rattle.lab_records_keeper.specs.Worlds.{Given, Leaves, Lives, Passes, Quiet}
use Rattle.lab_desk_events.specs.Keeping.{GivenWithin, Stays}

pub record AnswersRequest {S : Type 0} (keeper : Ghosts S) (old new : S)
    (result : Result (Unit {0}) (Fault BadStore)) : Type 0 where
  pub lives : Given (keeper.world old) (keeper.world new)
      (OnOk result (Lives (keeper.world old) (keeper.world new)))
  -- every laboratory means what it meant, and the rows rest, where the keeper is there to tell
  pub same : Given (keeper.world old) (keeper.world new)
      (Leaves (keeper.world old) (keeper.world new))
  pub rows : Given (keeper.world old) (keeper.world new)
      ((keeper.world new).is_live → keeper.rests old new)
  -- a crash leaves no more than before, and what stays true over a request stays so
  pub quiet : Given (keeper.world old) (keeper.world new)
      (Quiet (keeper.world old) (keeper.world new))
  pub stays : GivenWithin (keeper.world old) (keeper.world new)
      (Stays (keeper.world old) (keeper.world new))
  pub passes : Passes (keeper.world old) (keeper.world new)
