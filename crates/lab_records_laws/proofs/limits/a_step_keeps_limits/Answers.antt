use Rattle.lab_records_laws.proofs.limits.a_step_keeps_limits.Goals as goal
use Rattle.lab_records_kept.specs.Limits.{IsWithin}
use Rattle.lab_records_laws.proofs.LimitSteps.{step_within}
use Rattle.lab_records_laws.proofs.StayLemmas.{step_stays, holds_of}

pub returns : goal.returns
returns c = λ lab tick instruction within asked.
    holds_of IsWithin _ (step_stays lab tick instruction)
    (step_within lab tick instruction within asked)
