-- What a step tells, by how far its instruction gets.
use Rattle.std.proofs.Common.{◌≡◌, ℕ, ◌+◌, Bool, true, false, cond, List, [], ◌∷◌, ◌++◌, length, Option, Some, None, refl, sym, ◌∙◌, ap, subst, inl, inr}
use Rattle.std.specs.Prelude.{nat_le, nat_lt, option_map, IsTrue}
use Rattle.lab_forms_texts.specs.declared.tick.Tick.{Tick}
use Rattle.lab_people_access.specs.declared.persons.Person.{Person}
use Rattle.lab_people_access.specs.declared.sessions.Session.{Session}
use Rattle.lab_people_access.specs.declared.refusals.Failure.{Failure}
use Rattle.lab_people_access.specs.declared.refusals.PeopleRefusal.{PeopleRefusal}
use Rattle.lab_people_access.specs.declared.refusals.PeopleRefusal.TheVariants.{Credentials, LabFull}
use Rattle.lab_people_access.specs.Persons.{person_of}
use Rattle.lab_people_access.specs.Policy.{denial}
use Rattle.lab_people_access.specs.Sessions.{is_live, touched_session}
use Rattle.lab_records_kept.specs.declared.labs.Lab.{Lab}
use Rattle.lab_records_kept.specs.declared.trails.Deed.{Deed}
use Rattle.lab_records_kept.specs.declared.trails.Occasion.{Occasion}
use Rattle.lab_records_kept.specs.Changes.{with_session}
use Rattle.lab_records_kept.specs.Limits.{count_limit}
use Rattle.lab_records_kept.specs.Lookups.{person_at, caller_of}
use Rattle.lab_records_kept.specs.Trails.{trail_row_of}
use Rattle.lab_records_rules.specs.declared.refusals.Refusal.{Refusal}
use Rattle.lab_records_rules.specs.declared.refusals.Refusal.TheVariants.{ClockBehind, People}
use Rattle.lab_records_machine.specs.declared.commands.Command.{Command}
use Rattle.lab_records_machine.specs.declared.commands.Command.TheVariants.{Card, Open, In}
use Rattle.lab_records_machine.specs.declared.commands.SessionCommand.{SessionCommand}
use Rattle.lab_records_machine.specs.declared.commands.Instruction.{Instruction}
use Rattle.lab_records_machine.specs.declared.passages.Passage.TheVariants.{Stranger}
use Rattle.lab_records_machine.specs.declared.replies.Reply.{Reply}
use Rattle.lab_records_machine.specs.declared.replies.Reply.TheVariants.{Refused}
use Rattle.lab_records_machine.specs.Cases.{Case, Refuses, Fails, Reads, Makes, told, failed}
use Rattle.lab_records_machine.specs.Own.{own, opening_case}
use Rattle.lab_records_machine.specs.Policy.{rule_of}
use Rattle.lab_records_machine.specs.Machine.{Stepped, stays, ended, touched, at_moment, opened, answered_in, answered, allowed_passage, passage, named_session, step}
use Rattle.lab_records_laws.specs.Stepping.{HoldsOf}
use Rattle.lab_records_laws.proofs.KeepPersons.{found_code}
use Rattle.lab_records_laws.specs.Telling.{giver_of, is_accepted, is_told, rows_in_room, TellsWhere, AcceptedTells, FailureTells, TellsNothing, RefusedTells}
use Rattle.lab_records_laws.proofs.Rooms.{failed_tells}
use Rattle.lab_records_laws.proofs.Others.{is_other, other_is, denial_other}
use Rattle.lab_records_laws.proofs.Cases.{IsFailureOf, IsDeedOf, CaseTells, opening_tells, own_tells}

-- ---- both clauses at once

pub record StepTells (old : Lab) (moment : ℕ) (instruction : Instruction) (stepped : Stepped)
    : Type 0 where
  pub accepted : IsTrue (is_accepted stepped.reply)
      → HoldsOf (AcceptedTells old moment instruction stepped.reply) stepped.after
  pub refused : (refusal : Refusal) → stepped.reply ≡ Refused refusal
      → HoldsOf (RefusedTells old moment instruction refusal) stepped.after

-- a refusal that tells nothing
refused_tells : (old after : Lab) (moment : ℕ) (instruction : Instruction) (refusal : Refusal)
    → is_other refusal ≡ true → TellsNothing old after
    → StepTells old moment instruction (stays after (Refused refusal))
refused_tells old after moment instruction refusal other nothing = record {
  accepted = λ is. absurd (cc);
  refused = λ one h.
      let is : refusal ≡ one = cc in
      inr (other_is one (subst (λ it. is_other it ≡ true) is other), nothing);
}

-- an accepted reply
accepted_tells : (old after : Lab) (moment : ℕ) (instruction : Instruction) (reply : Reply)
    → is_accepted reply ≡ true → AcceptedTells old moment instruction reply after
    → StepTells old moment instruction (stays after reply)
accepted_tells old after moment instruction reply accepted tells = record {
  accepted = λ is. tells;
  refused = λ refusal h.
      let none : false ≡ true = subst (λ one. is_accepted one ≡ true) h accepted in
      absurd (cc);
}

-- a failed password
failure_tells : (old after : Lab) (moment : ℕ) (instruction : Instruction)
    → FailureTells old moment instruction after
    → StepTells old moment instruction (stays after (Refused (People Credentials)))
failure_tells old after moment instruction tells = record {
  accepted = λ is. absurd (cc);
  refused = λ one h.
      let is : People Credentials ≡ one = cc in
      inl (sym is, tells);
}

-- ---- a case of a command that somebody gave

-- a laboratory that was there, at another moment and with other sessions
abbrev noted : Lab → ℕ → List Session → Lab
noted old last sessions = record old { last = last; sessions = sessions }

nothing_noted : (old : Lab) (last : ℕ) (sessions : List Session)
    → TellsNothing old (noted old last sessions)
nothing_noted old last sessions = record { trail = refl; persons = refl; strays = refl }

failed_step : (old : Lab) (last : ℕ) (sessions : List Session) (moment : ℕ)
    (instruction : Instruction) (code : List ℕ) (occasion : Occasion) (failure : Failure)
    → giver_of old instruction ≡ Some code
    → IsFailureOf (person_at old code) moment code instruction.command occasion failure
    → StepTells old moment instruction
    (stays (failed (noted old last sessions) moment occasion failure) (Refused (People Credentials)))
failed_step old last sessions moment instruction code occasion failure by is =
    failure_tells old _ moment instruction (record {
      person = code;
      by = by;
      occasion = occasion;
      asked = is.asked;
      rows = failed_tells (noted old last sessions) moment occasion failure code is.of
          ∙ ap (λ deeds. old.trail ++ rows_in_room (length old.trail) moment code deeds) is.told;
    })

made_by : (full : Bool) (old before after : Lab) (moment : ℕ) (instruction : Instruction)
    (code : List ℕ) (reply : Reply) (deed : Deed) → TellsNothing old before
    → giver_of old instruction ≡ Some code
    → IsDeedOf old.trail code instruction.command reply deed after
    → StepTells old moment instruction (cond full (stays before (Refused (People LabFull)))
    (stays (told moment (Some code) deed after) reply))
made_by true old before after moment instruction code reply deed nothing by is =
    refused_tells old before moment instruction (People LabFull) refl nothing
made_by false old before after moment instruction code reply deed nothing by is =
    accepted_tells old (told moment (Some code) deed after) moment instruction reply is.accepted
    (subst (λ telling. TellsWhere telling old moment instruction reply
    (told moment (Some code) deed after)) (sym is.told)
    (record {
      person = code;
      by = by;
      deed = deed;
      done = is.done;
      row = ap (λ rows. rows ++ trail_row_of (length rows + 1) moment (Some code) deed ∷ []) is.same;
    }))

read_tells : (old after : Lab) (moment : ℕ) (instruction : Instruction) (reply : Reply)
    → is_told instruction.command ≡ false → is_accepted reply ≡ true → after.trail ≡ old.trail
    → StepTells old moment instruction (stays after reply)
read_tells old after moment instruction reply reads accepted same =
    accepted_tells old after moment instruction reply accepted
    (subst (λ telling. TellsWhere telling old moment instruction reply after) (sym reads) same)

ended_tells : (old : Lab) (last : ℕ) (sessions : List Session) (moment : ℕ)
    (instruction : Instruction) (code : List ℕ) (case : Case)
    → giver_of old instruction ≡ Some code
    → CaseTells (person_at old code) old.trail moment code instruction.command case
    → StepTells old moment instruction (ended (noted old last sessions) moment code case)
ended_tells old last sessions moment instruction code (Refuses refusal) by tells =
    refused_tells old (noted old last sessions) moment instruction refusal tells
    (nothing_noted old last sessions)
ended_tells old last sessions moment instruction code (Fails occasion failure) by tells =
    failed_step old last sessions moment instruction code occasion failure by tells
ended_tells old last sessions moment instruction code (Reads reply) by tells =
    read_tells old (noted old last sessions) moment instruction reply tells.0 tells.1 refl
ended_tells old last sessions moment instruction code (Makes reply deed after) by tells =
    made_by (nat_le count_limit (length old.trail)) old (noted old last sessions) after moment
    instruction code reply deed (nothing_noted old last sessions) by tells

-- ---- openings

opened_tells : (old : Lab) (moment : ℕ) (instruction : Instruction) (code : List ℕ) (case : Case)
    → giver_of old instruction ≡ Some code
    → CaseTells (person_at old code) old.trail moment code instruction.command case
    → StepTells old moment instruction (opened old moment code case)
opened_tells old moment instruction code (Refuses refusal) by tells =
    refused_tells old old moment instruction refusal tells
    (record { trail = refl; persons = refl; strays = refl })
opened_tells old moment instruction code (Fails occasion failure) by tells =
    failed_step old moment old.sessions moment instruction code occasion failure by tells
opened_tells old moment instruction code (Reads reply) by tells =
    read_tells old old moment instruction reply tells.0 tells.1 refl
opened_tells old moment instruction code (Makes reply deed after) by tells =
    made_by (nat_le count_limit (length old.trail)) old old (at_moment moment after) moment
    instruction code reply deed (record { trail = refl; persons = refl; strays = refl }) by
    (record { told = tells.told; accepted = tells.accepted; done = tells.done; same = tells.same })

-- ---- in a session

allowed_tells : (old : Lab) (tick : Tick) (token : Option (List ℕ)) (command : SessionCommand)
    (session : Session) (caller : Person) (denied : Option PeopleRefusal)
    → ((refusal : PeopleRefusal) → denied ≡ Some refusal → is_other (People refusal) ≡ true)
    → caller_of old (named_session old token) ≡ Some caller
    → person_of old.persons caller.code ≡ Some caller
    → StepTells old tick.moment (record { token = token; command = In command })
    (answered_in old tick command (allowed_passage session caller denied))
allowed_tells old tick token command session caller (Some refusal) others found known =
    refused_tells old (touched old tick.moment session) tick.moment _ (People refusal)
    (others refusal refl)
    (nothing_noted old tick.moment (with_session (touched_session tick.moment session) old.sessions))
allowed_tells old tick token command session caller None others found known =
    let after = touched old tick.moment session in
    let now = touched_session tick.moment session in
    ended_tells old tick.moment (with_session now old.sessions) tick.moment
    (record { token = token; command = In command }) caller.code
    (own after tick now caller command)
    (ap (λ one. option_map (λ (person : Person). person.code) one) found)
    (subst (λ holder. CaseTells holder old.trail tick.moment caller.code (In command)
    (own after tick now caller command)) (sym known) (own_tells after tick now caller command))

stranger_tells : (old : Lab) (tick : Tick) (token : Option (List ℕ)) (command : SessionCommand)
    → StepTells old tick.moment (record { token = token; command = In command })
    (answered_in old tick command Stranger)
stranger_tells old tick token command =
    refused_tells old old tick.moment _ _ refl (record { trail = refl; persons = refl; strays = refl })

live_tells : (live : Bool) (old : Lab) (tick : Tick) (token : Option (List ℕ))
    (command : SessionCommand) (session : Session) (caller : Person) (denied : Option PeopleRefusal)
    → ((refusal : PeopleRefusal) → denied ≡ Some refusal → is_other (People refusal) ≡ true)
    → caller_of old (named_session old token) ≡ Some caller
    → person_of old.persons caller.code ≡ Some caller
    → StepTells old tick.moment (record { token = token; command = In command })
    (answered_in old tick command (cond live (allowed_passage session caller denied) Stranger))
live_tells true old tick token command session caller denied others found known =
    allowed_tells old tick token command session caller denied others found known
live_tells false old tick token command session caller denied others found known =
    stranger_tells old tick token command

session_tells : (old : Lab) (tick : Tick) (token : Option (List ℕ)) (command : SessionCommand)
    (session : Option Session) (caller : Option Person)
    → caller_of old (named_session old token) ≡ caller
    → ((one : Person) → caller ≡ Some one → person_of old.persons one.code ≡ Some one)
    → StepTells old tick.moment (record { token = token; command = In command })
    (answered_in old tick command (passage session caller tick.moment (rule_of command)))
session_tells old tick token command None caller found known =
    stranger_tells old tick token command
session_tells old tick token command (Some session) None found known =
    stranger_tells old tick token command
session_tells old tick token command (Some session) (Some caller) found known =
    live_tells (is_live session tick.moment) old tick token command session caller
    (denial caller (rule_of command) tick.moment)
    (λ refusal h. denial_other caller (rule_of command) tick.moment refusal h) found
    (known caller refl)

own_code : (persons : List Person) (code : List ℕ) (person : Person)
    → person_of persons code ≡ Some person → person_of persons person.code ≡ Some person
own_code persons code person h =
    subst (λ it. person_of persons it ≡ Some person) (sym (found_code persons code person h)) h

caller_known : (lab : Lab) (session : Option Session) (caller : Person)
    → caller_of lab session ≡ Some caller → person_of lab.persons caller.code ≡ Some caller
caller_known lab None caller h = absurd (cc)
caller_known lab (Some session) caller h = own_code lab.persons session.person caller h

-- ---- a step

answer_tells : (old : Lab) (tick : Tick) (token : Option (List ℕ)) (command : Command)
    → StepTells old tick.moment (record { token = token; command = command })
    (answered old tick (named_session old token) command)
answer_tells old tick token Card = read_tells old old tick.moment _ _ refl refl refl
answer_tells old tick token (Open code password) =
    opened_tells old tick.moment (record { token = token; command = Open code password }) code
    (opening_case old tick code password) refl (opening_tells old tick code password)
answer_tells old tick token (In command) =
    let session = named_session old token in
    session_tells old tick token command session (caller_of old session) refl
    (caller_known old session)

timely_tells : (early : Bool) (old : Lab) (moment : ℕ) (instruction : Instruction) (other : Stepped)
    → StepTells old moment instruction other
    → StepTells old moment instruction (cond early (stays old (Refused ClockBehind)) other)
timely_tells true old moment instruction other tells =
    refused_tells old old moment instruction ClockBehind refl
    (record { trail = refl; persons = refl; strays = refl })
timely_tells false old moment instruction other tells = tells

pub step_tells : (lab : Lab) (tick : Tick) (instruction : Instruction)
    → StepTells lab tick.moment instruction (step (Some lab) tick instruction)
step_tells lab tick instruction =
    timely_tells (nat_lt tick.moment lab.last) lab tick.moment instruction
    (answered lab tick (named_session lab instruction.token) instruction.command)
    (answer_tells lab tick instruction.token instruction.command)
