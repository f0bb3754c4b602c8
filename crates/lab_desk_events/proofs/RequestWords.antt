-- Definitions for proofs only, which belong to specs/Requests.antt: no clause names them.
use Rattle.std.specs.Prelude.{◌≡◌, ◌↔◌, ℕ, List, [], Option, IsTrue}
use Rattle.lab_forms_texts.specs.declared.tick.Tick.{Tick}
use Rattle.lab_records_kept.specs.declared.changes.Change.{Change}
use Rattle.lab_records_kept.specs.declared.labs.Lab.{Lab}
use Rattle.lab_records_kept.specs.Changes.{ChangesFit, changed_in}
use Rattle.lab_records_kept.specs.Limits.{IsWithin}
use Rattle.lab_records_machine.specs.declared.commands.Instruction.{Instruction}
use Rattle.lab_records_machine.specs.Machine.{step}
use Rattle.lab_records_laws.specs.Stepping.{WhereThere}
use Rattle.lab_wire.specs.declared.replies.Answer.TheVariants.{Replied}
use Rattle.lab_wire.specs.Replies.{reply_text}
use Rattle.lab_desk_events.specs.Requests.{is_idle}

-- a reply that is built, and changes, make the step of a laboratory: the changes fit it, where it
-- is within its limits, and there are none where the step writes nothing, and there alone
pub record Builds (lab : Option Lab) (tick : Tick) (instruction : Instruction) (reply : List ℕ)
    (changes : List Change) : Type 0 where
  pub replied : reply ≡ reply_text tick (Replied (step lab tick instruction).reply)
  pub fit : WhereThere IsWithin lab → ChangesFit lab changes
  pub after : changed_in lab changes ≡ (step lab tick instruction).after
  pub idle : IsTrue (is_idle lab tick instruction) ↔ (changes ≡ [])
