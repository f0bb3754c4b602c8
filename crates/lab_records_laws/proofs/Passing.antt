-- How far a command gets on a part is how far it gets on the laboratory, and what is decided then is
-- the step.
use Rattle.std.proofs.Common.{◌≡◌, ◌≤◌, inr, ℕ, Bool, true, false, cond, List, [], length, Option, Some, None, refl, sym, subst, nat_lt}
use Rattle.std.specs.Prelude.{option_map}
use Rattle.sha2.specs.Sha256.{sha256}
use Rattle.lab_forms_texts.specs.declared.tick.Tick.{Tick}
use Rattle.lab_people_access.specs.declared.persons.Person.{Person}
use Rattle.lab_people_access.specs.declared.policy.Rule.{Rule}
use Rattle.lab_people_access.specs.declared.sessions.Session.{Session}
use Rattle.lab_people_access.specs.declared.refusals.PeopleRefusal.{PeopleRefusal}
use Rattle.lab_people_access.specs.Openings.{opening, token_digest}
use Rattle.lab_people_access.specs.Persons.{person_of}
use Rattle.lab_people_access.specs.Policy.{denial}
use Rattle.lab_people_access.specs.Sessions.{session_of, is_live, touched_session}
use Rattle.lab_records_kept.specs.declared.labs.Lab.{Lab}
use Rattle.lab_records_kept.specs.Limits.{stray_limit}
use Rattle.lab_records_kept.specs.Lookups.{session_at, person_at, caller_of}
use Rattle.lab_records_kept.specs.Parts.{part}
use Rattle.lab_records_rules.specs.declared.refusals.Refusal.TheVariants.{ClockBehind}
use Rattle.lab_records_machine.specs.declared.replies.Reply.TheVariants.{Refused}
use Rattle.lab_records_machine.specs.Policy.{rule_of}
use Rattle.lab_records_machine.specs.declared.commands.Command.{Command}
use Rattle.lab_records_machine.specs.declared.commands.Command.TheVariants.{Card, Open, In}
use Rattle.lab_records_machine.specs.declared.commands.SessionCommand.{SessionCommand}
use Rattle.lab_records_machine.specs.declared.commands.Instruction.{Instruction}
use Rattle.lab_records_machine.specs.declared.passages.Passage.{Passage}
use Rattle.lab_records_machine.specs.declared.passages.Passage.TheVariants.{Stranger, Barred, Passes}
use Rattle.lab_records_machine.specs.Needs.{token_in, need_of}
use Rattle.lab_records_machine.specs.Machine.{named_session, allowed_passage, passage, Stepped, stays, touched, at_moment, opened, ended, answered_in, answered, step}
use Rattle.lab_records_laws.specs.Asking.{IsCommandFormed}
use Rattle.lab_records_laws.proofs.FitAccounts.{own_code}
use Rattle.lab_records_laws.proofs.LimitParts.{session_set, session_token}
use Rattle.lab_records_machine.specs.Done.{done_of, opened_done}
use Rattle.lab_records_laws.specs.declared.outcome.Outcome.{Outcome}
use Rattle.lab_records_laws.specs.Deciding.{outcome, end_on, noted_end, opening_end, decided_in, decided_by, decided}
use Rattle.lab_records_laws.proofs.OwnCases.{slice_for, opened_is}
use Rattle.lab_records_laws.proofs.RuleCases.{own_is}
use Rattle.lab_records_laws.proofs.RuleFits.{own_fits}
use Rattle.lab_records_laws.proofs.OpenFits.{open_fits, opened_takes}
use Rattle.lab_records_laws.proofs.SessionOnce.{own_sets}
use Rattle.lab_records_laws.proofs.EndLemmas.{Matches, noted_is, ended_is, opened_ended}

-- no more strays were counted than may be, and a form that is to be made is one
abbrev Premise : Lab → Command → Type 0
Premise lab command = (lab.strays ≤ stray_limit) × IsCommandFormed command

-- ---- in a session

-- a session that a command passes with, or is barred with, is one of the laboratory's, and so is the
-- person
abbrev IsPassageOf : Lab → Passage → Type 0
IsPassageOf lab Stranger = Unit {0}
IsPassageOf lab (Barred session refusal) = session_of lab.sessions session.token ≡ Some session
IsPassageOf lab (Passes session caller) =
    (session_of lab.sessions session.token ≡ Some session)
    × (person_of lab.persons caller.code ≡ Some caller)

passed_is : (lab : Lab) (digest : Option (List ℕ)) (tick : Tick) (command : SessionCommand)
    (session : Session) (caller : Person)
    → session_of lab.sessions session.token ≡ Some session
    → person_of lab.persons caller.code ≡ Some caller
    → Matches (Premise lab (In command)) lab (answered_in lab tick command (Passes session caller))
    (decided_in (slice_for lab digest (In command)) tick command (Passes session caller))
passed_is lab digest tick command session caller found there =
    let now = touched lab tick.moment session in
    let noted = touched_session tick.moment session in
    let done = done_of (slice_for lab digest (In command)) tick noted caller command in
    let fits = own_fits (Premise lab (In command)) lab digest session tick noted caller command
    (λ given. given.1) (session_set noted session lab.sessions found) there in
    subst (λ case. Matches (Premise lab (In command)) lab (ended now tick.moment caller.code case)
    (noted_end lab.last tick.moment session
    (end_on (slice_for lab digest (In command)) tick.moment caller.code done)))
    (sym (own_is lab digest session tick noted caller command))
    (ended_is (Premise lab (In command)) lab digest (In command) tick.moment session caller.code
    done (λ given. given.0) found fits
    (own_sets (slice_for lab digest (In command)) tick noted caller command))

answer_is : (lab : Lab) (digest : Option (List ℕ)) (tick : Tick) (command : SessionCommand)
    (reached : Passage) → IsPassageOf lab reached
    → Matches (Premise lab (In command)) lab (answered_in lab tick command reached)
    (decided_in (slice_for lab digest (In command)) tick command reached)
answer_is lab digest tick command Stranger is =
    record { reply = refl; fits = λ given. tt; after = refl }
answer_is lab digest tick command (Barred session refusal) is =
    noted_is (Premise lab (In command)) lab tick.moment session
    (stays (touched lab tick.moment session) (Refused refusal)) (outcome (Refused refusal) []) is
    (inr refl) (record { reply = refl; fits = λ given. tt; after = refl })
answer_is lab digest tick command (Passes session caller) is =
    passed_is lab digest tick command session caller is.0 is.1

-- ---- how far a command in a session gets

abbrev IsSessionOf : Lab → Option Session → Type 0
IsSessionOf lab None = Unit {0}
IsSessionOf lab (Some session) = session_of lab.sessions session.token ≡ Some session

found_is : (lab : Lab) (digest : List ℕ) (found : Option Session)
    → session_of lab.sessions digest ≡ found → IsSessionOf lab found
found_is lab digest None is = tt
found_is lab digest (Some session) is =
    subst (λ d. session_of lab.sessions d ≡ Some session)
    (sym (session_token digest session lab.sessions is)) is

allowed_is : (lab : Lab) (session : Session) (caller : Person) (denied : Option PeopleRefusal)
    → session_of lab.sessions session.token ≡ Some session
    → person_of lab.persons caller.code ≡ Some caller
    → IsPassageOf lab (allowed_passage session caller denied)
allowed_is lab session caller None found there = (found, there)
allowed_is lab session caller (Some refusal) found there = found

live_is : (live : Bool) (lab : Lab) (reached : Passage) → IsPassageOf lab reached
    → IsPassageOf lab (cond live reached Stranger)
live_is true lab reached is = is
live_is false lab reached is = tt

session_is : (lab : Lab) (session : Option Session) (caller : Option Person) (moment : ℕ)
    (rule : Rule) → IsSessionOf lab session → caller_of lab session ≡ caller
    → IsPassageOf lab (passage session caller moment rule)
session_is lab None caller moment rule is of_it = tt
session_is lab (Some session) None moment rule is of_it = tt
session_is lab (Some session) (Some caller) moment rule is of_it =
    live_is (is_live session moment) lab
    (allowed_passage session caller (denial caller rule moment))
    (allowed_is lab session caller (denial caller rule moment) is
    (own_code lab session.person caller of_it))

-- the passage of a command that comes by a session
abbrev passage_by : Lab → Tick → SessionCommand → Option Session → Passage
passage_by lab tick command session =
    passage session (caller_of lab session) tick.moment (rule_of command)

by_session : (lab : Lab) (digest : Option (List ℕ)) (tick : Tick) (command : SessionCommand)
    (session : Option Session) → IsSessionOf lab session
    → Matches (Premise lab (In command)) lab
    (answered_in lab tick command (passage_by lab tick command session))
    (decided_in (slice_for lab digest (In command)) tick command
    (passage_by lab tick command session))
by_session lab digest tick command session is =
    answer_is lab digest tick command (passage_by lab tick command session)
    (session_is lab session (caller_of lab session) tick.moment (rule_of command) is refl)

-- by the session of a token
by_token : (lab : Lab) (tick : Tick) (token : Option (List ℕ)) (command : SessionCommand)
    → Matches (Premise lab (In command)) lab
    (answered lab tick (named_session lab token) (In command))
    (decided_by (slice_for lab (option_map sha256 token) (In command)) tick (In command))
by_token lab tick None command = by_session lab None tick command None tt
by_token lab tick (Some token) command =
    by_session lab (Some (sha256 token)) tick command (session_at lab (sha256 token))
    (found_is lab (sha256 token) (session_at lab (sha256 token)) refl)

-- ---- an opening

open_is : (lab : Lab) (tick : Tick) (code password : List ℕ) (named : Option Session)
    → Matches (Premise lab (Open code password)) lab
    (answered lab tick named (Open code password))
    (decided_by (slice_for lab (Some (token_digest tick)) (Open code password)) tick
    (Open code password))
open_is lab tick code password named =
    let digest : Option (List ℕ) = Some (token_digest tick) in
    let result = opening code (person_at lab code) password tick (length lab.sessions)
    (session_at lab (token_digest tick)) in
    let now = at_moment tick.moment lab in
    subst (λ case. Matches (Premise lab (Open code password)) lab (opened lab tick.moment code case)
    (opening_end (slice_for lab digest (Open code password)) tick.moment code
    (opened_done result)))
    (sym (opened_is lab result))
    (opened_ended (Premise lab (Open code password)) lab digest (Open code password) tick.moment
    code (opened_done result) (λ given. given.0)
    (open_fits (Premise lab (Open code password)) now code password tick)
    (opened_takes lab tick.moment result))

-- ---- each command

answered_is : (lab : Lab) (tick : Tick) (token : Option (List ℕ)) (command : Command)
    → Matches (Premise lab command) lab
    (answered lab tick (named_session lab token) command)
    (decided_by (slice_for lab (token_in tick token command) command) tick command)
answered_is lab tick token Card = record { reply = refl; fits = λ given. tt; after = refl }
answered_is lab tick token (Open code password) =
    open_is lab tick code password (named_session lab token)
answered_is lab tick token (In command) = by_token lab tick token command

-- where the clock is behind, and where it isn't
timely_is : (early : Bool) (Given : Type 0) (lab : Lab) (stepped : Stepped) (decided : Outcome)
    → Matches Given lab stepped decided
    → Matches Given lab (cond early (stays lab (Refused ClockBehind)) stepped)
    (cond early (outcome (Refused ClockBehind) []) decided)
timely_is true Given lab stepped decided is =
    record { reply = refl; fits = λ given. tt; after = refl }
timely_is false Given lab stepped decided is = is

pub decided_is : (lab : Lab) (tick : Tick) (instruction : Instruction)
    → Matches (Premise lab instruction.command) lab (step (Some lab) tick instruction)
    (decided (part (need_of tick instruction) lab) tick instruction.command)
decided_is lab tick instruction =
    timely_is (nat_lt tick.moment lab.last) (Premise lab instruction.command) lab
    (answered lab tick (named_session lab instruction.token) instruction.command)
    (decided_by (part (need_of tick instruction) lab) tick instruction.command)
    (answered_is lab tick instruction.token instruction.command)
