-- A step leaves a laboratory within its limits.
use Rattle.std.proofs.Common.{◌≡◌, ◌<◌, ℕ, Bool, true, false, cond, List, length, Option, Some, None, refl, sym, subst, nat_lt, nat_le}
use Rattle.std.proofs.lemmas.Bool.{leb-false}
use Rattle.sha2.specs.Sha256.{sha256}
use Rattle.lab_forms_texts.specs.declared.tick.Tick.{Tick}
use Rattle.lab_people_access.specs.declared.persons.Person.{Person}
use Rattle.lab_people_access.specs.declared.policy.Rule.{Rule}
use Rattle.lab_people_access.specs.declared.sessions.Session.{Session}
use Rattle.lab_people_access.specs.declared.refusals.PeopleRefusal.{PeopleRefusal}
use Rattle.lab_people_access.specs.Attempts.{attempt_of, signing_attempt}
use Rattle.lab_people_access.specs.Openings.{opening, token_digest}
use Rattle.lab_people_access.specs.Policy.{denial}
use Rattle.lab_people_access.specs.Sessions.{session_of, is_live, touched_session}
use Rattle.lab_people.specs.Accounts.{changing, enrolling, setting_roles, retiring, unlocking}
use Rattle.lab_people.specs.Issues.{asking, confirming}
use Rattle.lab_records_kept.specs.declared.labs.Lab.{Lab}
use Rattle.lab_records_kept.specs.declared.trails.Deed.{Deed}
use Rattle.lab_people_access.specs.Persons.{person_limit}
use Rattle.lab_records_kept.specs.Limits.{IsWithin, count_limit}
use Rattle.lab_records_kept.specs.Lookups.{last_form, exact_form, record_of, record_about}
use Rattle.lab_records_kept.specs.Lookups.{person_at, session_at, caller_of}
use Rattle.lab_records_rules.specs.declared.refusals.Refusal.TheVariants.{ClockBehind, CodeWanted}
use Rattle.lab_records_rules.specs.Making.{making, opening_record}
use Rattle.lab_records_versions.specs.Entering.{entering, amending}
use Rattle.lab_records_rules.specs.Reading.{reading_form, reading_record, reading_version}
use Rattle.lab_records_versions.specs.Signing.{is_code_wanted}
use Rattle.lab_records_machine.specs.declared.commands.Command.{Command}
use Rattle.lab_records_machine.specs.declared.commands.Command.TheVariants.{Card, Open, In}
use Rattle.lab_records_machine.specs.declared.commands.SessionCommand.{SessionCommand}
use Rattle.lab_records_machine.specs.declared.commands.SessionCommand.TheVariants.{OnAccount, OnRecord, Reading}
use Rattle.lab_records_machine.specs.declared.commands.AccountCommand.TheVariants.{Close, ChangePassword, Enrol, AskIssue, ConfirmIssue, SetRoles, Retire, Unlock}
use Rattle.lab_records_machine.specs.declared.commands.RecordCommand.TheVariants.{MakeForm, OpenRecord, Enter, Amend, Sign}
use Rattle.lab_records_machine.specs.declared.commands.ReadingCommand.TheVariants.{ReadPersons, ReadForm, ReadRecord, ReadVersion, ReadRecords, ReadTrail, TakeCopy}
use Rattle.lab_records_machine.specs.declared.commands.Instruction.{Instruction}
use Rattle.lab_records_machine.specs.declared.passages.Passage.{Passage}
use Rattle.lab_records_machine.specs.declared.passages.Passage.TheVariants.{Stranger, Barred, Passes}
use Rattle.lab_records_machine.specs.declared.replies.Reply.{Reply}
use Rattle.lab_records_machine.specs.declared.replies.Reply.TheVariants.{Refused, FormRead, RecordRead, VersionRead}
use Rattle.lab_records_machine.specs.Policy.{rule_of}
use Rattle.lab_records_machine.specs.Cases.{Case, Refuses, Fails, Reads, Makes, told}
use Rattle.lab_records_machine.specs.Own.{own_on_account, own_on_record, own_reading, own, opening_case, asked_case, confirmed_case, roles_case, retired_case, unlocked_case, form_case, record_case, entry_case, amendment_case, signing_by}
use Rattle.lab_records_machine.specs.Machine.{Stepped, named_session, allowed_passage, passage, stays, made, ended, touched, at_moment, opened, answered_in, answered, step}
use Rattle.lab_records_laws.specs.Asking.{IsCommandRight, IsAskedRightly}
use Rattle.lab_records_laws.specs.Stepping.{WhereThere}
use Rattle.lab_records_laws.proofs.LimitParts.{session_set, session_token}
use Rattle.lab_records_laws.proofs.LimitKept.{moment_within, session_within, told_within, failed_within}
use Rattle.lab_records_laws.proofs.LimitCases.{IsCaseWithin, then_case_within, then_person_within, then_read_within, closing_within, opening_within, changing_within, enrolling_within, person_closed_within, form_within, record_opened_within, entry_within, amendment_within, signing_within}

-- ---- each command

signing_unless : (wanted : Bool) (lab : Lab) (case : Case) → IsCaseWithin lab case
    → IsCaseWithin lab (cond wanted (Refuses CodeWanted) case)
signing_unless true lab case within = record {}
signing_unless false lab case within = within

pub own_within : (lab : Lab) (tick : Tick) (session : Session) (caller : Person)
    (command : SessionCommand)
    → IsCommandRight (In command) → session_of lab.sessions session.token ≡ Some session → IsWithin lab
    → IsCaseWithin lab (own lab tick session caller command)
unfolding own_on_account own_on_record own_reading changing enrolling
own_within lab tick session caller (OnAccount Close) right found within =
    closing_within lab session found within
own_within lab tick session caller (OnAccount (ChangePassword old new)) right found within =
    changing_within lab (attempt_of (Some caller) old tick.moment) session old new tick found within
own_within lab tick session caller (OnAccount (Enrol code name roles)) right found within =
    enrolling_within (nat_le person_limit (length lab.persons)) lab code name roles
    (person_at lab code) refl refl within
own_within lab tick session caller (Reading ReadPersons) right found within = record {}
own_within lab tick session caller (OnAccount (AskIssue code)) right found within =
    then_person_within lab (asking caller.code (person_at lab code) tick) (asked_case lab)
    (λ issued is. (person_closed_within lab issued.person issued.closing within, refl))
own_within lab tick session caller (OnAccount (ConfirmIssue code)) right found within =
    then_person_within lab (confirming caller.code (person_at lab code) tick) (confirmed_case lab)
    (λ issued is. (person_closed_within lab issued.person issued.closing within, refl))
own_within lab tick session caller (OnAccount (SetRoles code roles)) right found within =
    then_person_within lab (setting_roles caller.code (person_at lab code) roles) (roles_case lab)
    (λ effect is. (person_closed_within lab effect.person effect.closing within, refl))
own_within lab tick session caller (OnAccount (Retire code)) right found within =
    then_person_within lab (retiring caller.code (person_at lab code)) (retired_case lab)
    (λ effect is. (person_closed_within lab effect.person effect.closing within, refl))
own_within lab tick session caller (OnAccount (Unlock code)) right found within =
    then_person_within lab (unlocking caller.code (person_at lab code)) (unlocked_case lab)
    (λ effect is. (person_closed_within lab effect.person effect.closing within, refl))
own_within lab tick session caller (OnRecord (MakeForm code form)) right found within =
    then_case_within lab (making code form (last_form lab.forms code)) (form_case lab)
    (λ made is. form_within lab code form made is right within)
own_within lab tick session caller (Reading (ReadForm code version)) right found within =
    then_read_within lab (reading_form (exact_form lab.forms code version)) FormRead
own_within lab tick session caller (OnRecord (OpenRecord form sample)) right found within =
    then_case_within lab (opening_record (last_form lab.forms form)
    (record_about lab.records form sample) sample caller.code tick.moment (length lab.records))
    (record_case lab)
    (λ made is. record_opened_within lab form sample caller.code tick.moment made is within)
own_within lab tick session caller (OnRecord (Enter number item reason)) right found within =
    then_case_within lab (entering lab.code (record_of lab.records number) item reason caller.code
    tick.moment) (entry_case lab)
    (λ made is. entry_within lab number item reason caller.code tick.moment made is within)
own_within lab tick session caller (OnRecord (Amend number reason altered)) right found within =
    then_case_within lab (amending lab.code (record_of lab.records number) reason altered
    caller.code tick.moment) (amendment_case lab)
    (λ made is. amendment_within lab number reason altered caller.code tick.moment made is within)
own_within lab tick session caller (OnRecord (Sign number version digest signing password code)) right found
    within =
    signing_unless (is_code_wanted session code) lab
    (signing_by lab tick.moment session number version digest signing
    (signing_attempt caller code password tick.moment))
    (signing_within lab tick.moment session number version digest signing
    (signing_attempt caller code password tick.moment) found within)
own_within lab tick session caller (Reading (ReadRecord number)) right found within =
    then_read_within lab (reading_record lab.code (record_of lab.records number)) RecordRead
own_within lab tick session caller (Reading (ReadVersion number version)) right found within =
    then_read_within lab (reading_version lab.code (record_of lab.records number) version)
    VersionRead
own_within lab tick session caller (Reading (ReadRecords from to)) right found within = record {}
own_within lab tick session caller (Reading (ReadTrail from to)) right found within = record {}
own_within lab tick session caller (Reading (TakeCopy from to)) right found within = record {}

pub opening_case_within : (lab : Lab) (tick : Tick) (code password : List ℕ) → IsWithin lab
    → IsCaseWithin lab (opening_case lab tick code password)
unfolding opening
opening_case_within lab tick code password within =
    opening_within lab (attempt_of (person_at lab code) password tick.moment) code tick
    (session_at lab (token_digest tick)) within

-- ---- the end of a command

abbrev IsStepWithin : Stepped → Type 0
IsStepWithin stepped = WhereThere IsWithin stepped.after

made_case : (full : Bool) (before after : Lab) (moment : ℕ) (person : List ℕ) (reply : Reply)
    (refused : Reply) (deed : Deed) → nat_le count_limit (length before.trail) ≡ full
    → IsWithin before → IsWithin after → after.trail ≡ before.trail
    → IsStepWithin (cond full (stays before refused)
    (stays (told moment (Some person) deed after) reply))
made_case true before after moment person reply refused deed is within made_within same = within
made_case false before after moment person reply refused deed is within made_within same =
    told_within after moment (Some person) deed (subst (λ rows. length rows < count_limit)
    (sym same) (leb-false count_limit (length before.trail) is)) made_within

made_is_within : (before after : Lab) (moment : ℕ) (person : List ℕ) (reply : Reply) (deed : Deed)
    → IsWithin before → IsWithin after → after.trail ≡ before.trail
    → IsStepWithin (made before after moment person reply deed)
made_is_within before after moment person reply deed within made_within same =
    made_case (nat_le count_limit (length before.trail)) before after moment person reply _ deed
    refl within made_within same

ended_within : (lab : Lab) (moment : ℕ) (person : List ℕ) (case : Case) → IsWithin lab
    → IsCaseWithin lab case → IsStepWithin (ended lab moment person case)
ended_within lab moment person (Refuses refusal) within case_within = within
ended_within lab moment person (Fails occasion failure) within case_within =
    failed_within lab moment occasion failure within
ended_within lab moment person (Reads reply) within case_within = within
ended_within lab moment person (Makes reply deed after) within case_within =
    made_is_within lab after moment person reply deed within case_within.0 case_within.1

opened_within : (lab : Lab) (moment : ℕ) (code : List ℕ) (case : Case) → IsWithin lab
    → IsCaseWithin lab case → IsStepWithin (opened lab moment code case)
opened_within lab moment code (Refuses refusal) within case_within = within
opened_within lab moment code (Fails occasion failure) within case_within =
    failed_within (at_moment moment lab) moment occasion failure (moment_within lab moment within)
opened_within lab moment code (Reads reply) within case_within = within
opened_within lab moment code (Makes reply deed after) within case_within =
    made_is_within lab (at_moment moment after) moment code reply deed within
    (moment_within after moment case_within.0) case_within.1

-- ---- how far a command in a session gets

-- a session that a command passes with, or is barred with, is one of the laboratory's
abbrev IsPassageOf : Lab → Passage → Type 0
IsPassageOf lab (Barred session refusal) = session_of lab.sessions session.token ≡ Some session
IsPassageOf lab (Passes session caller) = session_of lab.sessions session.token ≡ Some session
IsPassageOf lab _ = Unit {0}

abbrev IsSessionOf : Lab → Option Session → Type 0
IsSessionOf lab None = Unit {0}
IsSessionOf lab (Some session) = session_of lab.sessions session.token ≡ Some session

named_is : (lab : Lab) (digest : List ℕ) (found : Option Session)
    → session_of lab.sessions digest ≡ found → IsSessionOf lab found
named_is lab digest None is = record {}
named_is lab digest (Some session) is =
    subst (λ d. session_of lab.sessions d ≡ Some session)
    (sym (session_token digest session lab.sessions is)) is

named_session_is : (lab : Lab) (token : Option (List ℕ)) → IsSessionOf lab (named_session lab token)
named_session_is lab None = record {}
named_session_is lab (Some token) =
    named_is lab (sha256 token) (session_of lab.sessions (sha256 token)) refl

allowed_is : (lab : Lab) (session : Session) (caller : Person) (denied : Option PeopleRefusal)
    → session_of lab.sessions session.token ≡ Some session
    → IsPassageOf lab (allowed_passage session caller denied)
allowed_is lab session caller None is = is
allowed_is lab session caller (Some refusal) is = is

live_is : (live : Bool) (lab : Lab) (reached : Passage) → IsPassageOf lab reached
    → IsPassageOf lab (cond live reached Stranger)
live_is true lab reached is = is
live_is false lab reached is = record {}

pub passage_is : (lab : Lab) (session : Option Session) (caller : Option Person) (moment : ℕ)
    (rule : Rule) → IsSessionOf lab session
    → IsPassageOf lab (passage session caller moment rule)
passage_is lab None caller moment rule is = record {}
passage_is lab (Some session) None moment rule is = record {}
passage_is lab (Some session) (Some caller) moment rule is =
    live_is (is_live session moment) lab
    (allowed_passage session caller (denial caller rule moment))
    (allowed_is lab session caller (denial caller rule moment) is)

-- ---- one step

pub touched_within : (lab : Lab) (moment : ℕ) (session : Session)
    → session_of lab.sessions session.token ≡ Some session → IsWithin lab
    → IsWithin (touched lab moment session)
touched_within lab moment session found within =
    session_within (record lab { last = moment }) (touched_session moment session) session found
    refl (moment_within lab moment within)

in_within : (lab : Lab) (tick : Tick) (command : SessionCommand) (reached : Passage)
    → IsCommandRight (In command) → IsPassageOf lab reached → IsWithin lab
    → IsStepWithin (answered_in lab tick command reached)
in_within lab tick command Stranger right is within = within
in_within lab tick command (Barred session refusal) right is within =
    touched_within lab tick.moment session is within
in_within lab tick command (Passes session caller) right is within =
    let now : IsWithin (touched lab tick.moment session) =
    touched_within lab tick.moment session is within in
    ended_within (touched lab tick.moment session) tick.moment caller.code
    (own (touched lab tick.moment session) tick (touched_session tick.moment session) caller
    command)
    now (own_within (touched lab tick.moment session) tick (touched_session tick.moment session)
    caller command right
    (session_set (touched_session tick.moment session) session lab.sessions is) now)

answer_within : (lab : Lab) (tick : Tick) (session : Option Session) (command : Command)
    → IsCommandRight command → IsSessionOf lab session → IsWithin lab
    → IsStepWithin (answered lab tick session command)
answer_within lab tick session Card right is within = within
answer_within lab tick session (Open code password) right is within =
    opened_within lab tick.moment code (opening_case lab tick code password) within
    (opening_case_within lab tick code password within)
answer_within lab tick session (In command) right is within =
    in_within lab tick command
    (passage session (caller_of lab session) tick.moment (rule_of command)) right
    (passage_is lab session (caller_of lab session) tick.moment (rule_of command) is) within

timely_within : (early : Bool) (lab : Lab) (reply : Reply) (other : Stepped) → IsWithin lab
    → IsStepWithin other → IsStepWithin (cond early (stays lab reply) other)
timely_within true lab reply other within is = within
timely_within false lab reply other within is = is

pub step_within : (lab : Lab) (tick : Tick) (instruction : Instruction) → IsWithin lab
    → IsAskedRightly instruction → WhereThere IsWithin (step (Some lab) tick instruction).after
step_within lab tick instruction within right =
    let session = named_session lab instruction.token in
    timely_within (nat_lt tick.moment lab.last) lab (Refused ClockBehind)
    (answered lab tick session instruction.command) within
    (answer_within lab tick session instruction.command right
    (named_session_is lab instruction.token) within)
