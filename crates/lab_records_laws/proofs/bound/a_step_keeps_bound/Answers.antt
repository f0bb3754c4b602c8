use Rattle.lab_records_laws.proofs.bound.a_step_keeps_bound.Goals as goal
use Rattle.lab_records_kept.specs.Bound.{IsBound, IsBoundRecord}
use Rattle.lab_records_laws.proofs.BoundLemmas.{bound_stays}
use Rattle.lab_records_laws.proofs.SigningStep.{step_keeps}
use Rattle.lab_records_laws.proofs.StayLemmas.{step_stays, holds_of}

pub returns : goal.returns
returns c = λ lab tick instruction bound.
    holds_of IsBound _ (step_stays lab tick instruction)
    (step_keeps IsBoundRecord bound_stays lab tick instruction bound)
