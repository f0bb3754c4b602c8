-- What it means that an outcome is the step of a laboratory.
use Rattle.std.specs.Prelude.{◌≡◌, ◌≤◌, ℕ, List, [], ◌∷◌, Some}
use Rattle.lab_forms_texts.specs.declared.tick.Tick.{Tick}
use Rattle.lab_records_kept.specs.declared.labs.Lab.{Lab}
use Rattle.lab_records_kept.specs.declared.changes.Change.{Change}
use Rattle.lab_records_kept.specs.declared.changes.Change.TheVariants.{Last}
use Rattle.lab_records_kept.specs.Changes.{AllFit, changed}
use Rattle.lab_records_kept.specs.Limits.{stray_limit}
use Rattle.lab_records_machine.specs.declared.commands.Instruction.{Instruction}
use Rattle.lab_records_machine.specs.Machine.{step}
use Rattle.lab_records_laws.specs.Asking.{IsCommandFormed}
use Rattle.lab_records_laws.specs.declared.outcome.Outcome.{Outcome}

-- where there are changes, the first of them notes the moment
abbrev pub NotesFirst : ℕ → List Change → Type 0
NotesFirst moment [] = Unit {0}
NotesFirst moment (one ∷ others) = one ≡ Last moment

-- the reply is the step's, and the changes make of the laboratory what the step makes; the first of
-- them notes the moment; they fit one after the other, where no more strays were counted than may
-- be, and a form that is to be made is one
pub record TakesStep (lab : Lab) (tick : Tick) (instruction : Instruction) (outcome : Outcome)
    : Type 0 where
  pub reply : outcome.reply ≡ (step (Some lab) tick instruction).reply
  pub notes : NotesFirst tick.moment outcome.changes
  pub fits : lab.strays ≤ stray_limit → IsCommandFormed instruction.command
      → AllFit lab outcome.changes
  pub after : (step (Some lab) tick instruction).after ≡ Some (changed lab outcome.changes)
