-- The small machine over all that is asked of one laboratory, from its birth on.
use Rattle.std.specs.Prelude.{List, [], ◌∷◌, All, Option}
use Rattle.lab_forms_texts.specs.declared.tick.Tick.{Tick}
use Rattle.lab_records_kept.specs.declared.labs.Lab.{Lab}
use Rattle.lab_records_kept.specs.Bound.{IsBound}
use Rattle.lab_records_kept.specs.Dual.{IsDual, AreReleasedRightly}
use Rattle.lab_records_machine.specs.declared.commands.Instruction.{Instruction}
use Rattle.lab_records_machine.specs.Machine.{step}
use Rattle.lab_records_laws.specs.Asking.{IsAskedRightly}

-- what is asked at a tick
pub record Asked : Type 0 where
  pub tick : Tick
  pub instruction : Instruction

-- the laboratory after all that is asked of it, the first of it first
abbrev pub after_all : Option Lab → List Asked → Option Lab
after_all lab [] = lab
after_all lab (one ∷ others) = after_all (step lab one.tick one.instruction).after others

-- each form that is to be made is one
abbrev pub AreAskedRightly : List Asked → Type 0
AreAskedRightly asked = All (λ one. IsAskedRightly one.instruction) asked

-- Signatures are bound to what they sign and under dual control, and so each released version is
-- signed by two persons, or three, over the digest of its present text.
pub record IsReleasing (lab : Lab) : Type 0 where
  pub bound : IsBound lab
  pub dual : IsDual lab
  pub released : AreReleasedRightly lab
