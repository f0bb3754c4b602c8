-- What is decided on the part of a laboratory is its step, and what is made of what was loaded is
-- made of what was there.
use Rattle.std.proofs.Common.{rules, ◌≡◌, ◌≢◌, ℕ, true, List, [], ◌∷◌, Option, Some, None, Result, Ok, Err, refl, sym, ◌∙◌, ap, subst, inl, inr}
use Rattle.std.specs.Prelude.{◌⊎◌, All, IsTrue, IsFalse, IfOk, OnOk}
use Rattle.std.proofs.lemmas.List.Elements.{All-nil}
use Rattle.lab_forms_texts.specs.declared.tick.Tick.{Tick}
use Rattle.lab_records_kept.specs.declared.labs.Lab.{Lab}
use Rattle.lab_records_kept.specs.declared.needs.Slice.{Slice}
use Rattle.lab_records_kept.specs.declared.changes.Change.{Change}
use Rattle.lab_records_kept.specs.Changes.{ChangesFit, changed_in}
use Rattle.lab_records_kept.specs.Parts.{part, part_of}
use Rattle.lab_records_keeper.specs.Worlds.{World, Given, Meaning, SameMeaning, SetsOne, Shuts, Changes}
use Rattle.lab_forms_texts.specs.declared.refusals.Fault.{Fault}
use Rattle.lab_records_keeper.specs.declared.faults.BadStore.{BadStore}
use Rattle.lab_forms_texts.specs.declared.refusals.Fault.TheVariants.{Refused, Memory}
use Rattle.lab_records_machine.specs.declared.commands.Instruction.{Instruction}
use Rattle.lab_records_machine.specs.Machine.{step}
use Rattle.lab_records_machine.specs.Needs.{need_of}
use Rattle.lab_records_laws.specs.Asking.{IsCommandFormed}
use Rattle.lab_records_laws.specs.Deciding.{decided}
use Rattle.lab_records_copy_out.specs.Legible.{IsLegibleChange}
use Rattle.lab_records_laws.proofs.Passing.{decided_is}
use Rattle.lab_wire.specs.declared.replies.Answer.TheVariants.{Replied}
use Rattle.lab_wire.specs.Replies.{reply_text}
use Rattle.lab_records_keeper.specs.Calls.{EndsCall, Loads}
use Rattle.lab_desk_events.specs.Requests.{changes_for, is_none, is_idle}
use Rattle.lab_desk_events.proofs.RequestWords.{Builds}
use Rattle.lab_desk_events.proofs.Lasting.{shuts_on}

-- a change is none where there is no change
pub none_is : (changes : List Change) → IsTrue (is_none changes) → changes ≡ []
none_is [] is = refl
none_is (one ∷ others) is = absurd (cc)

pub some_is : (changes : List Change) → IsFalse (is_none changes) → changes ≢ []
some_is [] is = absurd (cc)
some_is (one ∷ others) is = λ same. cc

-- what is decided of the part of a laboratory
pub built_on : (lab : Lab) (tick : Tick) (instruction : Instruction) →
    IsCommandFormed instruction.command →
    Builds (Some lab) tick instruction
    (reply_text tick (Replied
    (decided (part (need_of tick instruction) lab) tick instruction.command).reply))
    (decided (part (need_of tick instruction) lab) tick instruction.command).changes
unfolding changes_for
built_on lab tick instruction formed =
    let is = decided_is lab tick instruction in
    record {
      replied = ap (λ told. reply_text tick (Replied told)) is.reply;
      fit = λ within. is.fits (within.strays, formed);
      after = sym is.after;
      idle = (none_is _, λ same. subst (λ changes. IsTrue (is_none changes)) (sym same) refl);
    }

pub builds : (lab : Option Lab) (slice : Slice) (tick : Tick) (instruction : Instruction) →
    Some slice ≡ part_of (need_of tick instruction) lab → IsCommandFormed instruction.command →
    Builds lab tick instruction
    (reply_text tick (Replied (decided slice tick instruction.command).reply))
    (decided slice tick instruction.command).changes
builds None slice tick instruction is formed = cc
builds (Some lab) slice tick instruction is formed =
    let same : slice ≡ part (need_of tick instruction) lab = cc in
    subst (λ one. Builds (Some lab) tick instruction
    (reply_text tick (Replied (decided one tick instruction.command).reply))
    (decided one tick instruction.command).changes) (sym same)
    (built_on lab tick instruction formed)

-- what they bring is legible, where it is so of what was decided on the part
pub brings : {A F : Type 0} (lab : Option Lab) (slice : Slice) (tick : Tick)
    (instruction : Instruction) (result : Result A F) →
    Some slice ≡ part_of (need_of tick instruction) lab →
    IfOk result (λ _. All IsLegibleChange (decided slice tick instruction.command).changes) →
    OnOk result (All IsLegibleChange (changes_for lab tick instruction))
unfolding changes_for
brings None slice tick instruction (Ok value) is legible = cc
brings (Some lab) slice tick instruction (Ok value) is legible =
    let same : slice ≡ part (need_of tick instruction) lab = cc in
    subst (λ one. All IsLegibleChange (decided one tick instruction.command).changes) same legible
brings lab slice tick instruction (Err fault) is legible = tt

pub brings_none : (lab : Option Lab) (tick : Tick) (instruction : Instruction) → lab ≡ None →
    All IsLegibleChange (changes_for lab tick instruction)
unfolding changes_for
brings_none None tick instruction none = All-nil IsLegibleChange
brings_none (Some lab) tick instruction none = absurd (cc)

-- where no part is, no laboratory is
pub none_there : (lab : Option Lab) (tick : Tick) (instruction : Instruction) →
    None ≡ part_of (need_of tick instruction) lab → lab ≡ None
none_there None tick instruction is = refl
none_there (Some lab) tick instruction is = cc

-- and nothing is written
pub idle_none : (lab : Option Lab) (tick : Tick) (instruction : Instruction) → lab ≡ None →
    is_idle lab tick instruction ≡ true
unfolding changes_for
idle_none None tick instruction is = refl
idle_none (Some lab) tick instruction is = cc

-- ---- what was made of what was loaded

-- changes that fit what was loaded
pub fits_there : (code : List ℕ) (changes : List Change) (old mid : Meaning) →
    mid code ≡ old code → ChangesFit (old code) changes → ChangesFit (mid code) changes
fits_there code changes old mid same fits =
    subst (λ (lab : Option Lab). ChangesFit lab changes) (sym same) fits

-- and that were made of it, make of what was there what the step makes
pub made_steps : (code : List ℕ) (changes : List Change) (after : Option Lab)
    (old mid held : Meaning) → ((one : List ℕ) → mid one ≡ old one) →
    changed_in (old code) changes ≡ after → Changes code changes mid held →
    SetsOne code after old held
made_steps code changes after old mid held same is made = record {
  here = made.here ∙ ap (λ (lab : Option Lab). changed_in lab changes) (same code) ∙ is;
  others = λ other differs. made.others other differs ∙ same other;
}

-- what follows on a success
pub on_ok : {A F P Q : Type 0} (result : Result A F) → (P → Q) → OnOk result P → OnOk result Q
on_ok (Ok value) then holds = then holds
on_ok (Err fault) then holds = tt

-- and what holds anyway
pub on_ok_all : {A F P : Type 0} (result : Result A F) → P → OnOk result P
on_ok_all (Ok value) holds = holds
on_ok_all (Err fault) holds = tt

-- where there is no laboratory of the code its step is none
pub none_stepped : (code : List ℕ) (tick : Tick) (instruction : Instruction) (old new : Meaning) →
    old code ≡ None → SameMeaning old new →
    SetsOne code (step (old code) tick instruction).after old new
none_stepped code tick instruction old new none same = record {
  here = same code ∙ none
      ∙ sym (ap (λ (lab : Option Lab). (step lab tick instruction).after) none);
  others = λ other differs. same other;
}

-- and no change makes it
pub none_changed : (lab : Option Lab) (tick : Tick) (instruction : Instruction) → lab ≡ None →
    ChangesFit lab [] × (changed_in lab [] ≡ (step lab tick instruction).after)
none_changed None tick instruction none = (tt, refl)
none_changed (Some lab) tick instruction none = absurd (cc)

-- a keeper that both shut had a fault in one of them
shut_on : {A B : Type 0} (old mid new : World) (rests rested : Type 0) (value : B)
    (result : Result A (Fault BadStore)) → Loads old mid rests (Ok value) →
    EndsCall mid new rested result → Given old new (Shuts old new)
shut_on old mid new rests rested value result loads ends honest reached =
    let earlier = ends.passes.honest honest in
    shuts_on old mid new (loads.shuts earlier reached)
    (ends.shuts honest (loads.reached earlier reached))

-- a call after one that changed nothing ends for both as it ends by itself
pub ends_on : {A B : Type 0} (old mid new : World) (rests rested both : Type 0) (value : B)
    (result : Result A (Fault BadStore)) → Loads old mid rests (Ok value) →
    EndsCall mid new rested result → (rests → rested → both) → EndsCall old new both result
ends_on old mid new rests rested both value (Ok one) loads ends on = record {
  err = search rules;
  rows_err = search rules;
  lives = search rules;
  fault = search rules;
  shuts = shut_on old mid new rests rested value (Ok one) loads ends;
  passes = search rules;
}
ends_on old mid new rests rested both value (Err (Refused why)) loads ends on = record {
  err = λ honest reached live code. ends.err honest
      (loads.reached (ends.passes.honest honest) reached) live code
      ∙ loads.same (ends.passes.honest honest) reached (ends.passes.live honest live) code;
  rows_err = search rules;
  lives = search rules;
  fault = search rules;
  shuts = shut_on old mid new rests rested value (Err (Refused why)) loads ends;
  passes = search rules;
}
ends_on old mid new rests rested both value (Err Memory) loads ends on = record {
  err = λ honest reached live code. ends.err honest
      (loads.reached (ends.passes.honest honest) reached) live code
      ∙ loads.same (ends.passes.honest honest) reached (ends.passes.live honest live) code;
  rows_err = search rules;
  lives = search rules;
  fault = search rules;
  shuts = shut_on old mid new rests rested value (Err Memory) loads ends;
  passes = search rules;
}

-- what a crash left, or what was made
pub either : {P Q R S : Type 0} → (P → R) → (Q → S) → P ⊎ Q → R ⊎ S
either {P} {Q} {R} {S} first second both =
    elim both as (λ _. R ⊎ S) [
      | inl one ↦ inl (first one)
      | inr other ↦ inr (second other)
    ]
