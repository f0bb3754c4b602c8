-- A laboratory is right when it is born, and each step leaves it right.
use Rattle.std.proofs.Common.{◌≡◌, ℕ, List, [], ◌∷◌, Option, Some, None, Ok}
use Rattle.std.proofs.lemmas.List.Elements.{All-head, All-tail}
use Rattle.lab_forms_texts.specs.declared.tick.Tick.{Tick}
use Rattle.lab_records_kept.specs.declared.labs.Lab.{Lab}
use Rattle.lab_records_kept.specs.Limits.{IsWithin}
use Rattle.lab_records_kept.specs.Bound.{IsBound, IsBoundRecord}
use Rattle.lab_records_kept.specs.Dual.{IsDual, IsDualRecord}
use Rattle.lab_records_kept.proofs.ReleaseLemmas.{all_released}
use Rattle.lab_records_machine.specs.declared.births.Founding.{Founding}
use Rattle.lab_records_machine.specs.declared.commands.Instruction.{Instruction}
use Rattle.lab_records_machine.specs.Births.{born}
use Rattle.lab_records_machine.specs.Machine.{step}
use Rattle.lab_records_laws.specs.Stepping.{HoldsOf}
use Rattle.lab_records_laws.specs.Asking.{IsAskedRightly}
use Rattle.lab_records_laws.specs.Runs.{Asked, after_all, AreAskedRightly, IsReleasing}
use Rattle.lab_records_laws.proofs.BirthLemmas.{born_right}
use Rattle.lab_records_laws.proofs.BoundLemmas.{bound_stays}
use Rattle.lab_records_laws.proofs.DualLemmas.{dual_stays}
use Rattle.lab_records_laws.proofs.LimitSteps.{step_within}
use Rattle.lab_records_laws.proofs.SigningStep.{step_keeps}
use Rattle.lab_records_laws.proofs.StayLemmas.{step_stays, holds_of}

-- what is bound and dual releases rightly
releasing_of : (lab : Option Lab) → HoldsOf IsBound lab → HoldsOf IsDual lab
    → HoldsOf IsReleasing lab
releasing_of None bound dual = bound
releasing_of (Some lab) bound dual = record {
  bound = bound;
  dual = dual;
  released = all_released lab bound dual;
}

step_releasing : (lab : Lab) (tick : Tick) (instruction : Instruction) → IsReleasing lab
    → HoldsOf IsReleasing (step (Some lab) tick instruction).after
step_releasing lab tick instruction is =
    let there = step_stays lab tick instruction in
    releasing_of (step (Some lab) tick instruction).after
    (holds_of IsBound _ there (step_keeps IsBoundRecord bound_stays lab tick instruction is.bound))
    (holds_of IsDual _ there
    (step_keeps (λ code kept. IsDualRecord kept) dual_stays lab tick instruction is.dual))

all_releasing : (asked : List Asked) (lab : Option Lab) → HoldsOf IsReleasing lab
    → HoldsOf IsReleasing (after_all lab asked)
all_releasing [] lab is = is
all_releasing (one ∷ others) None is = absurd is
all_releasing (one ∷ others) (Some lab) is =
    all_releasing others (step (Some lab) one.tick one.instruction).after
    (step_releasing lab one.tick one.instruction is)

-- from the birth on
pub run_releasing : (code : List ℕ) (tick : Tick) (founding : Founding) (lab : Lab)
    → born None code tick founding ≡ Ok lab
    → (asked : List Asked) → HoldsOf IsReleasing (after_all (Some lab) asked)
run_releasing code tick founding lab birth asked =
    let first = born_right code tick founding lab birth in
    all_releasing asked (Some lab) (releasing_of (Some lab) first.1 first.2)

-- one that is asked rightly
abbrev Rightly : Asked → Type 0
Rightly one = IsAskedRightly one.instruction

all_within : (asked : List Asked) (lab : Option Lab) → HoldsOf IsWithin lab
    → AreAskedRightly asked → HoldsOf IsWithin (after_all lab asked)
all_within [] lab is fine = is
all_within (one ∷ others) None is fine = absurd is
all_within (one ∷ others) (Some lab) is fine =
    all_within others (step (Some lab) one.tick one.instruction).after
    (holds_of IsWithin _ (step_stays lab one.tick one.instruction)
    (step_within lab one.tick one.instruction is (All-head Rightly one others fine)))
    (All-tail Rightly one others fine)

pub run_within : (code : List ℕ) (tick : Tick) (founding : Founding) (lab : Lab)
    → born None code tick founding ≡ Ok lab
    → (asked : List Asked) → AreAskedRightly asked
    → HoldsOf IsWithin (after_all (Some lab) asked)
run_within code tick founding lab birth asked fine =
    let first = born_right code tick founding lab birth in
    all_within asked (Some lab) first.0 fine
