use Rattle.lab_records_laws.proofs.keeping.a_step_keeps_what_was.Goals as goal
use Rattle.lab_records_kept.specs.Keeping.{Keeps}
use Rattle.lab_records_laws.proofs.KeepSteps.{step_keeps}
use Rattle.lab_records_laws.proofs.StayLemmas.{step_stays, holds_of}

pub returns : goal.returns
returns c = λ lab tick instruction numbered.
    holds_of (Keeps lab) _ (step_stays lab tick instruction)
    (step_keeps lab tick instruction numbered)
