use Rattle.lab_records_laws.proofs.dual.a_step_keeps_dual.Goals as goal
use Rattle.lab_records_kept.specs.Dual.{IsDual, IsDualRecord}
use Rattle.lab_records_laws.proofs.DualLemmas.{dual_stays}
use Rattle.lab_records_laws.proofs.SigningStep.{step_keeps}
use Rattle.lab_records_laws.proofs.StayLemmas.{step_stays, holds_of}

pub returns : goal.returns
returns c = λ lab tick instruction dual.
    holds_of IsDual _ (step_stays lab tick instruction)
    (step_keeps (λ code kept. IsDualRecord kept) dual_stays lab tick instruction dual)
