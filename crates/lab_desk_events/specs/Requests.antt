-- What the desk does of a request: its reply, and what every laboratory is afterwards.
use Rattle.std.specs.Prelude.{◌≡◌, ◌⊎◌, Bool, true, false, ℕ, List, [], ◌∷◌, Option, Some, None, Result, Ok, Err, IsOk, IsFalse, OnOk}
use Rattle.lab_forms_texts.specs.declared.tick.Tick.{Tick}
use Rattle.lab_records_kept.specs.declared.changes.Change.{Change}
use Rattle.lab_records_kept.specs.declared.labs.Lab.{Lab}
use Rattle.lab_forms_texts.specs.declared.refusals.Fault.{Fault}
use Rattle.lab_records_keeper.specs.declared.faults.BadStore.{BadStore}
use Rattle.lab_records_kept.specs.Changes.{ChangesFit, changed_in}
use Rattle.lab_records_kept.specs.Parts.{part}
use Rattle.lab_records_keeper.specs.Worlds.{World, Meaning, CommitsAs, IsDurable, SameMeaning, SetsOne, StaysSafe, Lives, Leaves}
use Rattle.lab_records_machine.specs.declared.commands.Instruction.{Instruction}
use Rattle.lab_records_machine.specs.Machine.{step}
use Rattle.lab_records_machine.specs.Needs.{need_of}
use Rattle.lab_records_laws.specs.Deciding.{decided}
use Rattle.lab_wire.specs.declared.commands.Asked.{Asked}
use Rattle.lab_wire.specs.declared.refusals.RequestRefusal.{RequestRefusal}
use Rattle.lab_wire.specs.declared.replies.Answer.{Answer}
use Rattle.lab_wire.specs.declared.replies.Answer.TheVariants.{Replied, Refused, Storage}
use Rattle.lab_wire.specs.Replies.{reply_text, memory_text}

-- what bytes ask, or why they ask nothing
abbrev pub AskedInBytes : Type 0
AskedInBytes = Result Asked RequestRefusal

-- the answer to what bytes ask, over laboratories that mean this
abbrev pub answer_to : Meaning → Tick → AskedInBytes → Answer
answer_to meaning tick (Err refusal) = Refused refusal
answer_to meaning tick (Ok asked) = Replied (step (meaning asked.lab) tick asked.instruction).reply

-- the changes that an instruction makes of a laboratory: those decided on the part that it needs
unfoldable pub changes_for : Option Lab → Tick → Instruction → List Change
changes_for None tick instruction = []
changes_for (Some lab) tick instruction =
    (decided (part (need_of tick instruction) lab) tick instruction.command).changes

abbrev pub is_none : List Change → Bool
is_none [] = true
is_none (one ∷ others) = false

-- whether an instruction writes nothing: it makes no change
abbrev pub is_idle : Option Lab → Tick → Instruction → Bool
is_idle lab tick instruction = is_none (changes_for lab tick instruction)

-- whether what bytes ask writes nothing
abbrev pub is_idle_request : Meaning → Tick → AskedInBytes → Bool
is_idle_request meaning tick (Err refusal) = true
is_idle_request meaning tick (Ok asked) = is_idle (meaning asked.lab) tick asked.instruction

-- the laboratory that the bytes name took its step, and every other means what it meant
abbrev pub Steps : Tick → AskedInBytes → Meaning → Meaning → Type 0
Steps tick (Err refusal) old new = SameMeaning old new
Steps tick (Ok asked) old new =
    SetsOne asked.lab (step (old asked.lab) tick asked.instruction).after old new

-- the rows moved by changes that fit the laboratory and make its step
pub record MovesBy (meaning : Meaning) (tick : Tick) (asked : Asked)
    (moves : List ℕ → List Change → Type 0) : Type 0 where
  pub changes : List Change
  pub fit : ChangesFit (meaning asked.lab) changes
  pub after : changed_in (meaning asked.lab) changes ≡
      (step (meaning asked.lab) tick asked.instruction).after
  pub moved : moves asked.lab changes

-- what was asked was done, or failed: the laboratory that is named took its step, in rows that
-- moved by it; a crash leaves what was there or what the step makes, and once it is written, where
-- there was anything to write, that alone
pub record DoesStep {A : Type 0} (old new : World) (tick : Tick) (asked : Asked)
    (moves : List ℕ → List Change → Type 0) (result : Result A (Fault BadStore)) : Type 0 where
  pub after : OnOk result (Steps tick (Ok asked) old.meaning new.meaning)
  pub rows : OnOk result (MovesBy old.meaning tick asked moves)
  pub crash : CommitsAs (Steps tick (Ok asked)) old new
  pub safe : StaysSafe old new
  pub durable : IsFalse (is_idle (old.meaning asked.lab) tick asked.instruction) →
      OnOk result (IsDurable new)
  pub reached : new.is_reached

-- a request that was taken: its reply is that of the machine of the laboratory that it names, which
-- took its step; and the keeper was there, where the bytes ask something
pub record TakesRequest (old new : World) (tick : Tick) (asks : AskedInBytes)
    (reply : List ℕ) : Type 0 where
  pub replied : reply ≡ reply_text tick (answer_to old.meaning tick asks)
  pub after : Steps tick asks old.meaning new.meaning
  pub lives : IsOk asks → Lives old new

-- a reply tells that memory ran out, or that the store refused, where this may be
abbrev pub IsRefusedReply : Type 0 → Tick → List ℕ → Type 0
IsRefusedReply may_refuse tick reply =
    (reply ≡ memory_text) ⊎ (may_refuse × (reply ≡ reply_text tick Storage))

-- a request that was refused: for memory, or by a store that may refuse, which was asked something;
-- every laboratory means what it meant
pub record RefusesRequest (old new : World) (tick : Tick) (asks : AskedInBytes)
    (reply : List ℕ) : Type 0 where
  pub replied : IsRefusedReply (old.may_refuse × IsOk asks) tick reply
  pub same : Leaves old new
