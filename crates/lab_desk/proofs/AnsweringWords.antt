-- Definitions for proofs only, which belong to specs/Answering.antt: no clause names them.
use Rattle.std.specs.Prelude.{Result}
use Rattle.lab_forms_texts.specs.declared.refusals.Fault.{Fault}
use Rattle.lab_records_keeper.specs.declared.faults.BadStore.{BadStore}
use Rattle.lab_records_keeper.specs.declared.keeper.Keeper.{Ghosts}
use Rattle.lab_desk.specs.Answering.{AnswersRequest}

-- a keeper is as another that was asked so, whatever it answered
abbrev pub IsAsked : {S : Type 0} → Ghosts S → S → S → Type 0
IsAsked keeper old new = (result : Result (Unit {0}) (Fault BadStore)) × AnswersRequest keeper old new result
