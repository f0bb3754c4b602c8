-- Runs join: a run, and a run from where it ended, are one run; one event is a run; and what a run
-- leaves true of every laboratory.
use Rattle.std.proofs.Common.{◌≡◌, ◌≢◌, ℕ, Bool, true, false, cond, List, [], ◌∷◌, ◌++◌, Option, Some, None, Result, Ok, Err, refl, sym, ◌∙◌, ap, subst, append-nil, inl, inr, ◌+◌, ◌<◌, length, take, map, get_or, option_map, All, IsOk}
use Rattle.std.specs.Prelude.{bytes_eq, ◌⊎◌, OnOk, IfErr}
use Rattle.std.proofs.lemmas.Bool.{false≢true}
use Rattle.std.specs.List.{cons_option}
use Rattle.std.specs.List.{concat}
use Rattle.std.proofs.lemmas.List.{take_more}
use Rattle.std.proofs.lemmas.List.Folds.{concat-append}
use Rattle.std.proofs.lemmas.List.Elements.{filter_map-append, All-append, All-nil, All-cons}
use Rattle.std.proofs.lemmas.Slice.Eq.{bytes_eq-Decides}
use Rattle.std.specs.Io.KnownBytes.{Appends}
use Rattle.std.proofs.KnownBytes.{Appends-nil, Appends-trans}
use Rattle.std.proofs.lemmas.List.{map-append}
use Rattle.lab_forms_texts.specs.declared.tick.Tick.{Tick}
use Rattle.lab_forms_streams.specs.declared.sending.WriteFault.{WriteFault}
use Rattle.lab_records_kept.specs.declared.labs.Lab.{Lab}
use Rattle.lab_records_kept.specs.Keeping.{Keeps}
use Rattle.lab_records_kept.specs.Limits.{IsWithin}
use Rattle.lab_records_keeper.specs.Worlds.{World, Meaning, SameMeaning, HoldsMeaning, Leaves}
use Rattle.lab_records_laws.specs.Runs.{IsReleasing}
use Rattle.lab_records_laws.specs.Stepping.{WhereThere}
use Rattle.lab_records_machine.specs.Machine.{step}
use Rattle.lab_wire.specs.declared.commands.Asked.{Asked}
use Rattle.lab_wire.specs.declared.replies.Answer.TheVariants.{Replied, Storage}
use Rattle.lab_wire.specs.Asked.{asked}
use Rattle.lab_wire.specs.Replies.{reply_text, memory_text}
use Rattle.lab_desk_events.specs.declared.events.Event.{Event}
use Rattle.lab_desk_events.specs.declared.events.Event.TheVariants.{Found, Call}
use Rattle.lab_desk_events.specs.Requests.{AskedInBytes, TakesRequest, RefusesRequest}
use Rattle.lab_desk_foundings.specs.Foundings.{Bears, founding_in, born_of, after_birth, line_of, memory_line, storage_line}
use Rattle.lab_desk_foundings.specs.Private.Foundings.{TakesFounding, RefusesFounding}
use Rattle.lab_desk_events.specs.Keeping.{AreWithin, AreReleasing, Follows}
use Rattle.lab_desk_foundings.proofs.Bearing.{born_seen}
use Rattle.lab_desk_events.proofs.Keeping.{follows_itself, step_follows, birth_follows}
use Rattle.lab_desk_events.proofs.Staying.{step_there, step_releasing, birth_releasing}
use Rattle.lab_desk_events.specs.Alone.{Own, Happening, Founding, Request, happening, Founds, Obeys, own_call, after_own, answer_own, alone_after, alone_answers}
use Rattle.lab_desk_events.specs.Runs.{Handled, IsRun, IsAccountOf, IsAnswer, IsAnswerBy, IsAnswerToNobody, AreAlone, KeepsAlong, own_in, own_events, own_answers, after_run, answers_of, Runs, RunsCut}
use Rattle.lab_desk_events.specs.Private.Runs.{SendsAnswer}

-- ---- runs join

alone_after_then : (code : List ℕ) (lab : Option Lab) (owns more : List Own) →
    alone_after code lab (owns ++ more) ≡ alone_after code (alone_after code lab owns) more
alone_after_then code lab [] more = refl
alone_after_then code lab (own ∷ owns) more =
    alone_after_then code (after_own code lab own) owns more

alone_answers_then : (code : List ℕ) (lab : Option Lab) (owns more : List Own) →
    alone_answers code lab (owns ++ more)
    ≡ alone_answers code lab owns ++ alone_answers code (alone_after code lab owns) more
alone_answers_then code lab [] more = refl
alone_answers_then code lab (own ∷ owns) more =
    ap (λ (told : List (List ℕ)). answer_own code lab own ∷ told)
    (alone_answers_then code (after_own code lab own) owns more)

-- a laboratory's own events in two runs
owns_then : (code : List ℕ) (first next : List Handled) →
    own_events code (first ++ next) ≡ own_events code first ++ own_events code next
owns_then code first next = filter_map-append (own_in code) first next

-- what each laboratory is after two runs
pub after_then : (start : Meaning) (first next : List Handled) (code : List ℕ) →
    after_run start (first ++ next) code ≡ after_run (after_run start first) next code
after_then start first next code =
    ap (λ (owns : List Own). alone_after code (start code) owns) (owns_then code first next)
    ∙ alone_after_then code (start code) (own_events code first) (own_events code next)

alone_then : (start : Meaning) (first next : List Handled) → AreAlone start first →
    AreAlone (after_run start first) next → AreAlone start (first ++ next)
alone_then start first next here there code =
    filter_map-append (λ (one : Handled). option_map (λ (own : Own). one.answer) (own_in code one))
    first next
    ∙ ap (λ (told : List (List ℕ)). told ++ own_answers code next) (here code)
    ∙ ap (λ (told : List (List ℕ)). alone_answers code (start code) (own_events code first) ++ told)
    (there code)
    ∙ sym (alone_answers_then code (start code) (own_events code first) (own_events code next))
    ∙ ap (λ (owns : List Own). alone_answers code (start code) owns)
    (sym (owns_then code first next))

-- ---- what is kept at each event

-- from laboratories that are the same
pub along_same : (one other : Meaning) (handled : List Handled) → SameMeaning one other →
    KeepsAlong one handled → KeepsAlong other handled
along_same one other [] same along = tt
along_same one other (event ∷ events) same along = (
  λ code. subst
      (λ (lab : Option Lab). Follows Keeps lab
      (alone_after code lab (own_events code (event ∷ []))))
      (sym (same code)) (along.0 code),
  along_same (after_run one (event ∷ [])) (after_run other (event ∷ [])) events
      (λ code. ap (λ (lab : Option Lab). alone_after code lab (own_events code (event ∷ [])))
      (same code)) along.1,
)

-- over two runs
along_then : (start : Meaning) (first next : List Handled) → KeepsAlong start first →
    KeepsAlong (after_run start first) next → KeepsAlong start (first ++ next)
along_then start [] next here there =
    along_same (after_run start []) start next (λ code. refl) there
along_then start (one ∷ others) next here there = (
  here.0,
  along_then (after_run start (one ∷ [])) others next here.1
      (along_same (after_run start (one ∷ others))
      (after_run (after_run start (one ∷ [])) others) next
      (λ code. sym (after_then start (one ∷ []) others code)) there),
)

-- ---- what is answered

-- a refusal stays one where the store may refuse as well
refusal_wider : (narrow wide : Type 0) → (narrow → wide) → (P Q R : Type 0) →
    P ⊎ ((narrow × R) × Q) → P ⊎ ((wide × R) × Q)
refusal_wider narrow wide wider P Q R refused =
    elim refused as (λ _. P ⊎ ((wide × R) × Q)) [
      | inl memory ↦ inl memory
      | inr storage ↦ inr ((wider storage.0.0, storage.0.1), storage.1)
    ]

answer_by_wider : (narrow wide : Type 0) → (narrow → wide) →
    (taken : Bool) (event : Happening) (answer : List ℕ) → IsAnswerBy narrow taken event answer →
    IsAnswerBy wide taken event answer
answer_by_wider narrow wide wider true event answer is = is
answer_by_wider narrow wide wider false (Founding lab tick body) answer is =
    refusal_wider narrow wide wider (answer ≡ memory_line) (answer ≡ storage_line)
    (Bears lab tick (founding_in body)) is
answer_by_wider narrow wide wider false (Request tick asks) answer is =
    refusal_wider narrow wide wider (answer ≡ memory_text) (answer ≡ reply_text tick Storage)
    (IsOk asks) is

answers_wider : (narrow wide : Type 0) → (narrow → wide) → (handled : List Handled) →
    All (IsAnswer narrow) handled → All (IsAnswer wide) handled
answers_wider narrow wide wider handled are k one within =
    let at : Handled = get_or handled k one in
    answer_by_wider narrow wide wider at.taken at.event at.answer (are k one within)

-- a run, and a run from where it ended, are one run
pub run_then : (old mid new : World) (first next : List Handled) →
    (mid.may_refuse → old.may_refuse) → IsRun old mid first → IsRun mid new next →
    IsRun old new (first ++ next)
run_then old mid new first next wider here there = record {
  each = All-append (IsAnswer old.may_refuse) first next here.each
      (answers_wider mid.may_refuse old.may_refuse wider next there.each);
  alone = λ start tells. alone_then start first next (here.alone start tells)
      (there.alone (after_run start first) (here.after start tells));
  keeps = λ start tells. along_then start first next (here.keeps start tells)
      (there.keeps (after_run start first) (here.after start tells));
  after = λ start tells live code.
      there.after (after_run start first) (here.after start tells) live code
      ∙ sym (after_then start first next code);
}

-- no event is a run
pub no_run : (world : World) → IsRun world world []
no_run world = record {
  each = All-nil (IsAnswer world.may_refuse);
  alone = λ start tells code. refl;
  keeps = λ start tells. tt;
  after = λ start tells. tells;
}

-- nor is what changes nothing
pub still_run : (old new : World) → (new.is_live → old.is_live) → Leaves old new → IsRun old new []
still_run old new back left = record {
  each = All-nil (IsAnswer old.may_refuse);
  alone = λ start tells code. refl;
  keeps = λ start tells. tt;
  after = λ start tells live code. left live code ∙ tells (back live) code;
}

-- ---- one event is a run

-- an answer to the laboratory's own event is its machine's
abbrev Told : List ℕ → Option Lab → Option Own → List ℕ → Type 0
Told code lab None answer = Unit {0}
Told code lab (Some own) answer = answer ≡ answer_own code lab own

-- the laboratory after an event, which may be its own
abbrev pub after_one : List ℕ → Option Lab → Option Own → Option Lab
after_one code lab None = lab
after_one code lab (Some own) = after_own code lab own

told_one : (code : List ℕ) (lab : Option Lab) (found : Option Own) (answer : List ℕ) →
    Told code lab found answer →
    cons_option (option_map (λ (own : Own). answer) found) []
    ≡ alone_answers code lab (cons_option found [])
told_one code lab None answer told = refl
told_one code lab (Some own) answer told = ap (λ (one : List ℕ). one ∷ []) told

pub after_own_one : (code : List ℕ) (lab : Option Lab) (found : Option Own) →
    after_one code lab found ≡ alone_after code lab (cons_option found [])
after_own_one code lab None = refl
after_own_one code lab (Some own) = refl

-- one event, from what it makes of each laboratory
record IsOne (old new : World) (one : Handled) : Type 0 where
  each : IsAnswer old.may_refuse one
  told : (start : Meaning) → HoldsMeaning old start → (code : List ℕ) →
      Told code (start code) (own_in code one) one.answer
  keeps : (start : Meaning) → HoldsMeaning old start → (code : List ℕ) →
      Follows Keeps (start code) (after_one code (start code) (own_in code one))
  after : (start : Meaning) → HoldsMeaning old start → new.is_live → (code : List ℕ) →
      new.meaning code ≡ after_one code (start code) (own_in code one)

one_run : (old new : World) (one : Handled) → IsOne old new one → IsRun old new (one ∷ [])
one_run old new one is = record {
  each = All-cons (IsAnswer old.may_refuse) one [] is.each (All-nil (IsAnswer old.may_refuse));
  alone = λ start tells code. told_one code (start code) (own_in code one) one.answer
      (is.told start tells code);
  keeps = λ start tells. (
    λ code. subst (Follows Keeps (start code))
        (after_own_one code (start code) (own_in code one)) (is.keeps start tells code),
    tt,
  );
  after = λ start tells live code. is.after start tells live code
      ∙ after_own_one code (start code) (own_in code one);
}

-- a laboratory of another code
pub other_code : (named code : List ℕ) → bytes_eq named code ≡ false → code ≢ named
other_code named code differs same =
    false≢true (sym differs ∙ (bytes_eq-Decides named code).1 (sym same))

-- a founding that was refused, and a call that was refused, leave every laboratory
left_alone : (old new : World) (start : Meaning) → (new.is_live → old.is_live) → HoldsMeaning old start →
    Leaves old new → new.is_live → (code : List ℕ) → new.meaning code ≡ start code
left_alone old new start back tells left live code = left live code ∙ tells (back live) code

-- ---- a founding

founding_told : (old new : World) (start : Meaning) (lab code : List ℕ) (tick : Tick)
    (body answer : List ℕ) (b : Bool) → bytes_eq lab code ≡ b → HoldsMeaning old start →
    TakesFounding old new lab tick (founding_in body) answer →
    Told code (start code) (cond b (Some (Founds tick body)) None) answer
founding_told old new start lab code tick body answer true names tells takes =
    let same : lab ≡ code = (bytes_eq-Decides lab code).0 names in
    subst (λ (named : List ℕ). answer
    ≡ line_of named (born_of (start named) named tick (founding_in body))) same
    (takes.answered ∙ ap (line_of lab)
    (born_seen (founding_in body) (old.meaning lab) (start lab) lab tick
    (λ reads. tells (takes.lives reads).0 lab)))
founding_told old new start lab code tick body answer false names tells takes = tt

founding_after : (old new : World) (start : Meaning) (lab code : List ℕ) (tick : Tick)
    (body answer : List ℕ) (b : Bool) → bytes_eq lab code ≡ b → old.is_live → HoldsMeaning old start →
    TakesFounding old new lab tick (founding_in body) answer →
    new.meaning code ≡ after_one code (start code) (cond b (Some (Founds tick body)) None)
founding_after old new start lab code tick body answer true names live tells takes =
    let same : lab ≡ code = (bytes_eq-Decides lab code).0 names in
    subst (λ (named : List ℕ). new.meaning named
    ≡ after_birth (start named) (born_of (start named) named tick (founding_in body))) same
    (takes.after.here ∙ ap (λ (seen : Option Lab).
    after_birth seen (born_of seen lab tick (founding_in body))) (tells live lab))
founding_after old new start lab code tick body answer false names live tells takes =
    takes.after.others code (other_code lab code names) ∙ tells live code

founding_keeps : (start : Meaning) (code : List ℕ) (tick : Tick) (body : List ℕ) (b : Bool) →
    Follows Keeps (start code) (after_one code (start code) (cond b (Some (Founds tick body)) None))
founding_keeps start code tick body true =
    birth_follows (start code) code tick (founding_in body)
founding_keeps start code tick body false = follows_itself (start code)

founding_is : (old new : World) (lab : List ℕ) (tick : Tick) (body : List ℕ) (taken : Bool)
    (answer : List ℕ) → (new.is_live → old.is_live) →
    (taken ≡ true → TakesFounding old new lab tick (founding_in body) answer) →
    (taken ≡ false → RefusesFounding old new lab tick (founding_in body) answer) →
    IsOne old new (record { event = Founding lab tick body; taken = taken; answer = answer })
founding_is old new lab tick body true answer back takes refuses = record {
  each = tt;
  told = λ start tells code. founding_told old new start lab code tick body answer
      (bytes_eq lab code) refl tells (takes refl);
  keeps = λ start tells code. founding_keeps start code tick body (bytes_eq lab code);
  after = λ start tells live code.
      founding_after old new start lab code tick body answer (bytes_eq lab code) refl
      (back live) tells (takes refl);
}
founding_is old new lab tick body false answer back takes refuses = record {
  each = (refuses refl).answered;
  told = λ start tells code. tt;
  keeps = λ start tells code. follows_itself (start code);
  after = λ start tells live code.
      left_alone old new start back tells (refuses refl).same live code;
}

-- a founding, taken or refused, is a run
pub one_founding : (old new : World) (event : Event) (lab : List ℕ) (tick : Tick)
    (body read : List ℕ) (taken : Bool) (answer line : List ℕ) →
    event ≡ Found lab tick body → read ≡ body → answer ≡ line → (new.is_live → old.is_live) →
    (taken ≡ true → TakesFounding old new lab tick (founding_in read) line) →
    (taken ≡ false → RefusesFounding old new lab tick (founding_in read) line) →
    IsRun old new (record { event = happening event; taken = taken; answer = answer } ∷ [])
one_founding old new event lab tick body read taken answer line is reads lines back takes refuses =
    rw (is, lines, ← reads) (one_run old new
    (record { event = Founding lab tick read; taken = taken; answer = line })
    (founding_is old new lab tick read taken line back takes refuses))

-- ---- a call

call_told : (old new : World) (start : Meaning) (asked_here : Asked) (code : List ℕ) (tick : Tick)
    (answer : List ℕ) (b : Bool) → bytes_eq asked_here.lab code ≡ b → HoldsMeaning old start →
    TakesRequest old new tick (Ok asked_here) answer →
    Told code (start code) (cond b (Some (Obeys tick asked_here.instruction)) None) answer
call_told old new start asks code tick answer true names tells takes =
    let same : asks.lab ≡ code = (bytes_eq-Decides asks.lab code).0 names in
    subst (λ (named : List ℕ). answer
    ≡ reply_text tick (Replied (step (start named) tick asks.instruction).reply)) same
    (takes.replied ∙ ap (λ (seen : Option Lab).
    reply_text tick (Replied (step seen tick asks.instruction).reply))
    (tells (takes.lives refl).0 asks.lab))
call_told old new start asks code tick answer false names tells takes = tt

asks_told : (old new : World) (start : Meaning) (asks : AskedInBytes) (code : List ℕ) (tick : Tick)
    (answer : List ℕ) → HoldsMeaning old start → TakesRequest old new tick asks answer →
    Told code (start code) (own_call code tick asks) answer
asks_told old new start (Err refusal) code tick answer tells takes = tt
asks_told old new start (Ok asks) code tick answer tells takes =
    call_told old new start asks code tick answer (bytes_eq asks.lab code) refl tells takes

call_after : (old new : World) (start : Meaning) (asked_here : Asked) (code : List ℕ) (tick : Tick)
    (answer : List ℕ) (b : Bool) → bytes_eq asked_here.lab code ≡ b → old.is_live →
    HoldsMeaning old start → TakesRequest old new tick (Ok asked_here) answer →
    new.meaning code ≡ after_one code (start code)
    (cond b (Some (Obeys tick asked_here.instruction)) None)
call_after old new start asks code tick answer true names live tells takes =
    let same : asks.lab ≡ code = (bytes_eq-Decides asks.lab code).0 names in
    subst (λ (named : List ℕ). new.meaning named ≡ (step (start named) tick asks.instruction).after)
    same
    (takes.after.here ∙ ap (λ (seen : Option Lab). (step seen tick asks.instruction).after)
    (tells live asks.lab))
call_after old new start asks code tick answer false names live tells takes =
    takes.after.others code (other_code asks.lab code names) ∙ tells live code

asks_after : (old new : World) (start : Meaning) (asks : AskedInBytes) (code : List ℕ) (tick : Tick)
    (answer : List ℕ) → old.is_live → HoldsMeaning old start → TakesRequest old new tick asks answer →
    new.meaning code ≡ after_one code (start code) (own_call code tick asks)
asks_after old new start (Err refusal) code tick answer live tells takes =
    takes.after code ∙ tells live code
asks_after old new start (Ok asks) code tick answer live tells takes =
    call_after old new start asks code tick answer (bytes_eq asks.lab code) refl live tells takes

call_keeps : (old new : World) (start : Meaning) (asked_here : Asked) (code : List ℕ) (tick : Tick)
    (answer : List ℕ) (b : Bool) → AreWithin old → HoldsMeaning old start →
    TakesRequest old new tick (Ok asked_here) answer →
    Follows Keeps (start code)
    (after_one code (start code) (cond b (Some (Obeys tick asked_here.instruction)) None))
call_keeps old new start asks code tick answer true within tells takes =
    let live : old.is_live = (takes.lives refl).0 in
    step_follows (start code) tick asks.instruction
    (subst (WhereThere IsWithin) (tells live code) (within live code))
call_keeps old new start asks code tick answer false within tells takes =
    follows_itself (start code)

asks_keeps : (old new : World) (start : Meaning) (asks : AskedInBytes) (code : List ℕ) (tick : Tick)
    (answer : List ℕ) → AreWithin old → HoldsMeaning old start → TakesRequest old new tick asks answer →
    Follows Keeps (start code) (after_one code (start code) (own_call code tick asks))
asks_keeps old new start (Err refusal) code tick answer within tells takes =
    follows_itself (start code)
asks_keeps old new start (Ok asks) code tick answer within tells takes =
    call_keeps old new start asks code tick answer (bytes_eq asks.lab code) within tells takes

-- bytes that ask nothing are answered from themselves and the tick alone
nobodys : (old new : World) (tick : Tick) (asks : AskedInBytes) (answer : List ℕ) →
    TakesRequest old new tick asks answer → IsAnswerToNobody tick asks answer
nobodys old new tick (Err refusal) answer takes = takes.replied
nobodys old new tick (Ok asks) answer takes = tt

call_is : (old new : World) (tick : Tick) (asks : AskedInBytes) (taken : Bool) (answer : List ℕ) →
    (new.is_live → old.is_live) → AreWithin old →
    (taken ≡ true → TakesRequest old new tick asks answer) →
    (taken ≡ false → RefusesRequest old new tick asks answer) →
    IsOne old new (record { event = Request tick asks; taken = taken; answer = answer })
call_is old new tick asks true answer back within takes refuses = record {
  each = nobodys old new tick asks answer (takes refl);
  told = λ start tells code. asks_told old new start asks code tick answer tells (takes refl);
  keeps = λ start tells code. asks_keeps old new start asks code tick answer within tells
      (takes refl);
  after = λ start tells live code.
      asks_after old new start asks code tick answer (back live) tells (takes refl);
}
call_is old new tick asks false answer back within takes refuses = record {
  each = (refuses refl).replied;
  told = λ start tells code. tt;
  keeps = λ start tells code. follows_itself (start code);
  after = λ start tells live code.
      left_alone old new start back tells (refuses refl).same live code;
}

-- a request, taken or refused, is a run
pub one_request : (old new : World) (tick : Tick) (asks : AskedInBytes) (taken : Bool) (answer : List ℕ) →
    (new.is_live → old.is_live) → AreWithin old →
    (taken ≡ true → TakesRequest old new tick asks answer) →
    (taken ≡ false → RefusesRequest old new tick asks answer) →
    IsRun old new (record { event = Request tick asks; taken = taken; answer = answer } ∷ [])
one_request old new tick asks taken answer back within takes refuses =
    one_run old new (record { event = Request tick asks; taken = taken; answer = answer })
    (call_is old new tick asks taken answer back within takes refuses)

-- so is a call
pub one_call : (old new : World) (event : Event) (tick : Tick) (bytes read : List ℕ) (taken : Bool)
    (answer reply : List ℕ) →
    event ≡ Call tick bytes → read ≡ bytes → answer ≡ reply → (new.is_live → old.is_live) →
    AreWithin old →
    (taken ≡ true → TakesRequest old new tick (asked read) reply) →
    (taken ≡ false → RefusesRequest old new tick (asked read) reply) →
    IsRun old new (record { event = happening event; taken = taken; answer = answer } ∷ [])
one_call old new event tick bytes read taken answer reply is reads replies back within takes
    refuses =
    rw (is, replies, ← reads)
    (one_request old new tick (asked read) taken reply back within takes refuses)

-- ---- what a run leaves true

own_releasing : (code : List ℕ) (lab : Option Lab) (own : Own) → WhereThere IsReleasing lab →
    WhereThere IsReleasing (after_own code lab own)
own_releasing code lab (Founds tick body) is = birth_releasing lab code tick (founding_in body) is
own_releasing code lab (Obeys tick instruction) is =
    step_there IsReleasing lab tick instruction (step_releasing tick instruction) is

pub alone_releasing : (code : List ℕ) (lab : Option Lab) (owns : List Own) →
    WhereThere IsReleasing lab → WhereThere IsReleasing (alone_after code lab owns)
alone_releasing code lab [] is = is
alone_releasing code lab (own ∷ owns) is =
    alone_releasing code (after_own code lab own) owns (own_releasing code lab own is)

-- every laboratory is bound and under dual control at the end of a run
pub run_releasing : (old new : World) (handled : List Handled) → (new.is_live → old.is_live) →
    IsRun old new handled → AreReleasing old → AreReleasing new
run_releasing old new handled back is holds = λ live code.
    let same : new.meaning code ≡ after_run old.meaning handled code =
    is.after old.meaning (λ there one. refl) live code in
    subst (WhereThere IsReleasing) (sym same)
    (alone_releasing code (old.meaning code) (own_events code handled) (holds (back live) code))

-- ---- what is told and written

-- what went out, from the clauses of sending
pub sent_as : (answer : List ℕ) (sent : Result (Unit {0}) WriteFault)
    (before after : Option (List ℕ)) → OnOk sent (Appends before after answer) →
    IfErr sent (λ fault. Appends before after (take fault.sent answer)) →
    IfErr sent (λ fault. fault.sent < length answer) → SendsAnswer answer sent before after
sent_as answer (Ok done) before after whole cut short = whole
sent_as answer (Err fault) before after whole cut short = (cut, short)

-- no event was handled yet
pub runs_none : (world : World) (events : List Happening) (contents : Option (List ℕ)) →
    Runs world world (take 0 events) [] contents contents
runs_none world events contents = record {
  handled = [];
  told = record { events_are = refl; taken_are = refl };
  run = no_run world;
  written = Appends-nil contents;
}

-- one event more is told
pub told_more : (events : List Happening) (at : ℕ) (taken : List Bool) (handled : List Handled)
    (one : Handled) → one.event ≡ get_or events at one.event → at < length events →
    IsAccountOf (take at events) taken handled →
    IsAccountOf (take (at + 1) events) (taken ++ one.taken ∷ []) (handled ++ one ∷ [])
told_more events at taken handled one is within told = record {
  events_are =
      map-append (λ (h : Handled). h.event) handled (one ∷ [])
      ∙ ap (λ (es : List Happening). es ++ one.event ∷ []) told.events_are
      ∙ ap (λ (last : Happening). take at events ++ last ∷ []) is
      ∙ sym (take_more events at one.event within);
  taken_are = map-append (λ (h : Handled). h.taken) handled (one ∷ [])
      ∙ ap (λ (ts : List Bool). ts ++ one.taken ∷ []) told.taken_are;
}

-- a run so far, and one event more that comes next
pub record GoesOn (old mid new : World) (events : List Happening) (at : ℕ) (taken : List Bool)
    (before between : Option (List ℕ)) (one : Handled) : Type 0 where
  pub so_far : Runs old mid (take at events) taken before between
  pub passes : mid.may_refuse → old.may_refuse
  pub next : IsRun mid new (one ∷ [])
  pub is : one.event ≡ get_or events at one.event
  pub within : at < length events

-- the answers so far, and one more
answers_more : (handled : List Handled) (one : Handled) →
    answers_of handled ++ one.answer ≡ answers_of (handled ++ one ∷ [])
answers_more handled one =
    sym (ap concat (map-append (λ (h : Handled). h.answer) handled (one ∷ []))
    ∙ concat-append (map (λ (h : Handled). h.answer) handled) (one.answer ∷ [])
    ∙ ap (λ (last : List ℕ). answers_of handled ++ last) (append-nil one.answer))

-- a run goes on by an event whose answer went out whole
pub run_more : (old mid new : World) (events : List Happening) (at : ℕ) (taken : List Bool)
    (before between after : Option (List ℕ)) (one : Handled) →
    GoesOn old mid new events at taken before between one → Appends between after one.answer →
    Runs old new (take (at + 1) events) (taken ++ one.taken ∷ []) before after
run_more old mid new events at taken before between after one on sent = record {
  handled = on.so_far.handled ++ one ∷ [];
  told = told_more events at taken on.so_far.handled one on.is on.within on.so_far.told;
  run = run_then old mid new on.so_far.handled (one ∷ []) on.passes on.so_far.run on.next;
  written = subst (Appends before after) (answers_more on.so_far.handled one)
      (Appends-trans before between after _ _ on.so_far.written sent);
}

-- and ends by one whose answer was cut
pub run_cut : (old mid new : World) (events : List Happening) (at : ℕ) (taken told : List Bool)
    (before between after : Option (List ℕ)) (one : Handled) (sent : ℕ) →
    GoesOn old mid new events at taken before between one → told ≡ taken ++ one.taken ∷ [] →
    length told ≡ at + 1 →
    Appends between after (take sent one.answer) × (sent < length one.answer) →
    RunsCut old new events told sent before after
run_cut old mid new events at taken told before between after one sent on pushed counted out =
    record {
      handled = on.so_far.handled;
      last = one;
      told = rw (counted, pushed) (told_more events at taken on.so_far.handled one on.is on.within
          on.so_far.told);
      run = run_then old mid new on.so_far.handled (one ∷ []) on.passes on.so_far.run on.next;
      written = Appends-trans before between after _ _ on.so_far.written out.0;
      short = out.1;
    }
