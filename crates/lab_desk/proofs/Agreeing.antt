-- Two keepers agree still on a laboratory after a request that both took or both refused, and on
-- every other one whatever became of it.
use Rattle.std.proofs.Common.{◌≡◌, ◌≢◌, ℕ, Bool, true, false, List, Option, Ok, Err, refl, sym, ◌∙◌, ap, subst, inl, inr}
use Rattle.std.specs.Prelude.{bytes_eq, ◌⊎◌, IsOk}
use Rattle.std.proofs.lemmas.Bool.{false≢true}
use Rattle.std.proofs.lemmas.Slice.Eq.{bytes_eq-Decides}
use Rattle.lab_forms_texts.specs.declared.tick.Tick.{Tick}
use Rattle.lab_records_kept.specs.declared.labs.Lab.{Lab}
use Rattle.lab_records_keeper.specs.Worlds.{World, Meaning}
use Rattle.lab_records_machine.specs.Machine.{step}
use Rattle.lab_wire.specs.declared.commands.Asked.{Asked}
use Rattle.lab_wire.specs.declared.replies.Answer.TheVariants.{Replied}
use Rattle.lab_wire.specs.Replies.{memory_text, reply_text}
use Rattle.lab_desk_events.specs.Requests.{AskedInBytes, Steps, TakesRequest, RefusesRequest, answer_to}
use Rattle.lab_desk.specs.Twins.{Agree, AgreeOnAsked, IsElsewhere, SameButForMemory, both}

-- ---- one keeper

-- a laboratory that the bytes don't name means what it meant, where the request was taken
steps_elsewhere : (old new : Meaning) (tick : Tick) (asks : AskedInBytes) (code : List ℕ) →
    Steps tick asks old new → IsElsewhere asks code → new code ≡ old code
steps_elsewhere old new tick (Err refusal) code steps other = steps code
steps_elsewhere old new tick (Ok asked) code steps other = steps.others code other

-- and also where it was refused
pub stays_elsewhere : (old new : World) (tick : Tick) (asks : AskedInBytes) (is_taken : Bool)
    (reply code : List ℕ) →
    (is_taken ≡ true → TakesRequest old new tick asks reply) →
    (is_taken ≡ false → RefusesRequest old new tick asks reply) →
    IsElsewhere asks code → new.is_live → new.meaning code ≡ old.meaning code
stays_elsewhere old new tick asks true reply code takes refuses other live =
    steps_elsewhere old.meaning new.meaning tick asks code (takes refl).after other
stays_elsewhere old new tick asks false reply code takes refuses other live =
    (refuses refl).same live code

-- ---- two keepers

-- the laboratory that the bytes name takes the same step in both
step_alike : (old new other_old other_new : Meaning) (tick : Tick) (asked : Asked)
    (code : List ℕ) (is_named : Bool) → bytes_eq asked.lab code ≡ is_named →
    Steps tick (Ok asked) old new → Steps tick (Ok asked) other_old other_new →
    Agree old other_old code → Agree new other_new code
step_alike old new other_old other_new tick asked code true names steps other_steps agree =
    let same : asked.lab ≡ code = (bytes_eq-Decides asked.lab code).0 names in
    let before : Agree old other_old asked.lab = subst (Agree old other_old) (sym same) agree in
    subst (Agree new other_new) same
    (steps.here
    ∙ ap (λ (lab : Option Lab). (step lab tick asked.instruction).after) before
    ∙ sym other_steps.here)
step_alike old new other_old other_new tick asked code false names steps other_steps agree =
    let elsewhere : code ≢ asked.lab = λ same.
    false≢true (sym names ∙ (bytes_eq-Decides asked.lab code).1 (sym same)) in
    steps.others code elsewhere ∙ agree ∙ sym (other_steps.others code elsewhere)

steps_agree : (old new other_old other_new : Meaning) (tick : Tick) (asks : AskedInBytes)
    (code : List ℕ) → Steps tick asks old new → Steps tick asks other_old other_new →
    Agree old other_old code → Agree new other_new code
steps_agree old new other_old other_new tick (Err refusal) code steps other_steps agree =
    steps code ∙ agree ∙ sym (other_steps code)
steps_agree old new other_old other_new tick (Ok asked) code steps other_steps agree =
    step_alike old new other_old other_new tick asked code (bytes_eq asked.lab code) refl
    steps other_steps agree

-- both took the request, or both refused it
pub still_agree : (old new other_old other_new : World) (tick : Tick) (asks : AskedInBytes)
    (is_taken : Bool) (reply other_reply code : List ℕ) →
    (is_taken ≡ true → TakesRequest old new tick asks reply) →
    (is_taken ≡ false → RefusesRequest old new tick asks reply) →
    (is_taken ≡ true → TakesRequest other_old other_new tick asks other_reply) →
    (is_taken ≡ false → RefusesRequest other_old other_new tick asks other_reply) →
    new.is_live → other_new.is_live →
    Agree old.meaning other_old.meaning code → Agree new.meaning other_new.meaning code
still_agree old new other_old other_new tick asks true reply other_reply code
    takes refuses other_takes other_refuses live other_live agree =
    steps_agree old.meaning new.meaning other_old.meaning other_new.meaning tick asks code
    (takes refl).after (other_takes refl).after agree
still_agree old new other_old other_new tick asks false reply other_reply code
    takes refuses other_takes other_refuses live other_live agree =
    (refuses refl).same live code ∙ agree ∙ sym ((other_refuses refl).same other_live code)

-- ---- replies to bytes that ask nothing

pub same_but_for_memory : (one other text : List ℕ) →
    (one ≡ text) ⊎ (one ≡ memory_text) → (other ≡ text) ⊎ (other ≡ memory_text) →
    SameButForMemory one other
same_but_for_memory one other text (inl is) (inl other_is) = inl (is ∙ sym other_is)
same_but_for_memory one other text (inr memory) other_reply = inr (inl memory)
same_but_for_memory one other text (inl is) (inr memory) = inr (inr memory)

-- the answer to what bytes ask is one, where the laboratory that they name is
same_answer : (one other : World) (tick : Tick) (asks : AskedInBytes) → (IsOk asks → one.is_live) →
    (IsOk asks → other.is_live) → AgreeOnAsked (both one other) asks →
    answer_to one.meaning tick asks ≡ answer_to other.meaning tick asks
same_answer one other tick (Err refusal) live other_live agree = refl
same_answer one other tick (Ok asked) live other_live agree =
    ap (λ (lab : Option Lab). Replied (step lab tick asked.instruction).reply)
    (agree (live refl) (other_live refl))

-- and so is the reply, where both took the request
pub same_reply : (old new other_old other_new : World) (tick : Tick) (asks : AskedInBytes)
    (reply other_reply : List ℕ) → TakesRequest old new tick asks reply →
    TakesRequest other_old other_new tick asks other_reply →
    AgreeOnAsked (both old other_old) asks → reply ≡ other_reply
same_reply old new other_old other_new tick asks reply other_reply takes other_takes agree =
    takes.replied
    ∙ ap (reply_text tick) (same_answer old other_old tick asks (λ ok. (takes.lives ok).0)
    (λ ok. (other_takes.lives ok).0) agree)
    ∙ sym other_takes.replied
