-- A step keeps what was, by how far its instruction gets.
use Rattle.std.proofs.Common.{◌≡◌, ◌⊎◌, ℕ, ◌+◌, Bool, true, false, cond, List, [], ◌∷◌, ◌++◌, length, Option, Some, None, refl, sym, ap, subst, inl, inr}
use Rattle.std.specs.Prelude.{nat_le, nat_lt, IsSome}
use Rattle.lab_forms_texts.specs.declared.tick.Tick.{Tick}
use Rattle.lab_people_access.specs.declared.persons.Person.{Person}
use Rattle.lab_people_access.specs.declared.policy.Rule.{Rule}
use Rattle.lab_people_access.specs.declared.sessions.Session.{Session}
use Rattle.lab_people_access.specs.declared.sessions.Closing.TheVariants.{All}
use Rattle.lab_people_access.specs.declared.refusals.Failure.{Failure}
use Rattle.lab_people_access.specs.declared.refusals.Failure.TheVariants.{Counted, Locking, AlreadyLocked, Stray}
use Rattle.lab_people_access.specs.declared.refusals.PeopleRefusal.{PeopleRefusal}
use Rattle.lab_people_access.specs.declared.refusals.PeopleRefusal.TheVariants.{LabFull}
use Rattle.lab_people_access.specs.Persons.{person_of}
use Rattle.lab_people_access.specs.Policy.{denial}
use Rattle.lab_people_access.specs.Sessions.{session_of, sessions_after, is_live, touched_session}
use Rattle.lab_people.specs.Accounts.{enrolling, setting_roles, retiring, unlocking}
use Rattle.lab_people.specs.Issues.{asking, confirming}
use Rattle.lab_records_kept.specs.declared.labs.Lab.{Lab}
use Rattle.lab_records_kept.specs.declared.trails.Deed.{Deed}
use Rattle.lab_records_kept.specs.declared.trails.Deed.TheVariants.{Refuse, Lock}
use Rattle.lab_records_kept.specs.declared.trails.Occasion.{Occasion}
use Rattle.lab_records_kept.specs.declared.trails.TrailRow.{TrailRow}
use Rattle.lab_records_kept.specs.Limits.{AreFormsNumbered, count_limit}
use Rattle.lab_records_kept.specs.Lookups.{last_form, exact_form, record_of, record_about}
use Rattle.lab_records_kept.specs.Lookups.{person_at, caller_of}
use Rattle.lab_records_kept.specs.Trails.{trail_row_of}
use Rattle.lab_records_kept.specs.Changes.{IsKnown, with_person, with_session}
use Rattle.lab_records_kept.specs.Keeping.{Extends, IsPrefix, KeepsPersons, KeepsSession, KeepsRecord, IsToldOnce, Keeps}
use Rattle.lab_records_rules.specs.Making.{making, opening_record}
use Rattle.lab_records_versions.specs.Entering.{entering, amending}
use Rattle.lab_records_rules.specs.Reading.{reading_form, reading_record, reading_version}
use Rattle.lab_records_rules.specs.declared.refusals.Refusal.TheVariants.{ClockBehind, People}
use Rattle.lab_records_machine.specs.declared.commands.Command.{Command}
use Rattle.lab_records_machine.specs.declared.commands.Command.TheVariants.{Card, Open, In}
use Rattle.lab_records_machine.specs.declared.commands.SessionCommand.{SessionCommand}
use Rattle.lab_records_machine.specs.declared.commands.SessionCommand.TheVariants.{OnAccount, OnRecord, Reading}
use Rattle.lab_records_machine.specs.declared.commands.AccountCommand.TheVariants.{Close, ChangePassword, Enrol, AskIssue, ConfirmIssue, SetRoles, Retire, Unlock}
use Rattle.lab_records_machine.specs.declared.commands.RecordCommand.TheVariants.{MakeForm, OpenRecord, Enter, Amend, Sign}
use Rattle.lab_records_machine.specs.declared.commands.ReadingCommand.TheVariants.{ReadPersons, ReadForm, ReadRecord, ReadVersion, ReadRecords, ReadTrail, TakeCopy}
use Rattle.lab_records_machine.specs.declared.commands.Instruction.{Instruction}
use Rattle.lab_records_machine.specs.declared.passages.Passage.TheVariants.{Stranger}
use Rattle.lab_records_machine.specs.declared.replies.Reply.{Reply}
use Rattle.lab_records_machine.specs.declared.replies.Reply.TheVariants.{Refused, FormRead, RecordRead, VersionRead}
use Rattle.lab_records_machine.specs.Policy.{rule_of}
use Rattle.lab_records_machine.specs.Cases.{Case, Refuses, Fails, Reads, Makes, told, told_if_room, failed, more_strays}
use Rattle.lab_records_machine.specs.Own.{own_on_account, own_on_record, own_reading, own, opening_case, enrolled_case, asked_case, confirmed_case, roles_case, retired_case, unlocked_case, form_case, record_case, entry_case, amendment_case}
use Rattle.lab_records_machine.specs.Machine.{Stepped, stays, made, ended, touched, at_moment, opened, answered_in, answered, allowed_passage, passage, named_session, step}
use Rattle.lab_records_laws.specs.Stepping.{WhereThere}
use Rattle.lab_records_laws.proofs.KeepLists.{prefix_itself, prefix_more, prefix_on}
use Rattle.lab_records_laws.proofs.KeepPersons.{set_keeps, persons_itself, found_code, sessions_itself, sessions_on, with_session_keeps, with_session_found, closed_keep, found_token}
use Rattle.lab_records_laws.proofs.KeepForms.{forms_itself}
use Rattle.lab_records_laws.proofs.KeepRecords.{records_itself}
use Rattle.lab_records_laws.proofs.KeepCases.{KeepsRest, IsDoneBy, IsMade, FailureKeeps, CaseKeeps, after_case, after_person, after_read, opening_keeps, closing_keeps, changing_keeps, enrolled_keeps, with_closed_keeps, asked_about, confirmed_about, roles_about, retired_about, unlocked_about}
use Rattle.lab_records_laws.proofs.KeepMade.{form_keeps, record_keeps, entry_keeps, amendment_keeps, signing_keeps}

-- ---- each command

is_known : (lab : Lab) (caller : Person) → person_of lab.persons caller.code ≡ Some caller
    → IsKnown lab caller.code
is_known lab caller known = subst IsSome (sym known) refl

own_keeps : (lab : Lab) (tick : Tick) (session : Session) (caller : Person) (command : SessionCommand)
    → session_of lab.sessions session.token ≡ Some session
    → person_of lab.persons caller.code ≡ Some caller → AreFormsNumbered [] lab.forms
    → CaseKeeps lab tick.moment caller.code (own lab tick session caller command)
unfolding own_on_account own_on_record own_reading
own_keeps lab tick session caller (OnAccount Close) there known numbered =
    closing_keeps lab session tick.moment caller.code there
own_keeps lab tick session caller (OnAccount (ChangePassword old new)) there known numbered =
    changing_keeps lab caller.code caller session old new tick known there
own_keeps lab tick session caller (OnAccount (Enrol code name roles)) there known numbered =
    after_person lab tick.moment caller.code
    (enrolling code name roles (person_at lab code) (length lab.persons)) (enrolled_case lab)
    (enrolled_keeps lab code name roles (length lab.persons) tick.moment caller.code)
own_keeps lab tick session caller (Reading ReadPersons) there known numbered = tt
own_keeps lab tick session caller (OnAccount (AskIssue code)) there known numbered =
    after_person lab tick.moment caller.code (asking caller.code (person_at lab code) tick)
    (asked_case lab) (λ issued h.
    with_closed_keeps lab code issued.person issued.closing _ tick.moment caller.code
    (asked_about caller.code (person_at lab code) tick issued h))
own_keeps lab tick session caller (OnAccount (ConfirmIssue code)) there known numbered =
    after_person lab tick.moment caller.code (confirming caller.code (person_at lab code) tick)
    (confirmed_case lab) (λ issued h.
    with_closed_keeps lab code issued.person issued.closing _ tick.moment caller.code
    (confirmed_about caller.code (person_at lab code) tick issued h))
own_keeps lab tick session caller (OnAccount (SetRoles code roles)) there known numbered =
    after_person lab tick.moment caller.code (setting_roles caller.code (person_at lab code) roles)
    (roles_case lab) (λ effect h.
    with_closed_keeps lab code effect.person effect.closing _ tick.moment caller.code
    (roles_about caller.code (person_at lab code) roles effect h))
own_keeps lab tick session caller (OnAccount (Retire code)) there known numbered =
    after_person lab tick.moment caller.code (retiring caller.code (person_at lab code))
    (retired_case lab) (λ effect h.
    with_closed_keeps lab code effect.person effect.closing _ tick.moment caller.code
    (retired_about caller.code (person_at lab code) effect h))
own_keeps lab tick session caller (OnAccount (Unlock code)) there known numbered =
    after_person lab tick.moment caller.code (unlocking caller.code (person_at lab code))
    (unlocked_case lab) (λ effect h.
    with_closed_keeps lab code effect.person effect.closing _ tick.moment caller.code
    (unlocked_about caller.code (person_at lab code) effect h))
own_keeps lab tick session caller (OnRecord (MakeForm code form)) there known numbered =
    after_case lab tick.moment caller.code (making code form (last_form lab.forms code))
    (form_case lab) (λ made h. form_keeps lab code form made tick.moment caller.code numbered h)
own_keeps lab tick session caller (Reading (ReadForm code version)) there known numbered =
    after_read lab tick.moment caller.code (reading_form (exact_form lab.forms code version))
    FormRead
own_keeps lab tick session caller (OnRecord (OpenRecord form sample)) there known numbered =
    after_case lab tick.moment caller.code
    (opening_record (last_form lab.forms form) (record_about lab.records form sample) sample
    caller.code tick.moment (length lab.records)) (record_case lab) (λ kept h.
    record_keeps lab (last_form lab.forms form) (record_about lab.records form sample) sample
    caller.code tick.moment (length lab.records) kept (is_known lab caller known) h)
own_keeps lab tick session caller (OnRecord (Enter number item reason)) there known numbered =
    after_case lab tick.moment caller.code
    (entering lab.code (record_of lab.records number) item reason caller.code tick.moment)
    (entry_case lab)
    (λ made h. entry_keeps lab number item reason caller.code tick.moment made
    (is_known lab caller known) h)
own_keeps lab tick session caller (OnRecord (Amend number reason altered)) there known numbered =
    after_case lab tick.moment caller.code
    (amending lab.code (record_of lab.records number) reason altered caller.code tick.moment)
    (amendment_case lab)
    (λ made h. amendment_keeps lab number reason altered caller.code tick.moment made
    (is_known lab caller known) h)
own_keeps lab tick session caller (OnRecord (Sign number version digest signing password code)) there known
    numbered =
    signing_keeps lab tick.moment session caller number version digest signing password code known
    there
own_keeps lab tick session caller (Reading (ReadRecord number)) there known numbered =
    after_read lab tick.moment caller.code
    (reading_record lab.code (record_of lab.records number)) RecordRead
own_keeps lab tick session caller (Reading (ReadVersion number version)) there known numbered =
    after_read lab tick.moment caller.code
    (reading_version lab.code (record_of lab.records number) version) VersionRead
own_keeps lab tick session caller (Reading (ReadRecords from to)) there known numbered = tt
own_keeps lab tick session caller (Reading (ReadTrail from to)) there known numbered = tt
own_keeps lab tick session caller (Reading (TakeCopy from to)) there known numbered = tt

-- ---- laboratories whose records are as they were

record IsFrame (old new : Lab) : Type 0 where
  pub rest : KeepsRest old new
  pub records : new.records ≡ old.records
  pub trail : IsPrefix old.trail new.trail

frame_keeps : (old new : Lab) → IsFrame old new → Keeps old new
frame_keeps old new frame = record {
  code = frame.rest.code;
  name = frame.rest.name;
  persons = frame.rest.persons;
  sessions = frame.rest.sessions;
  forms = frame.rest.forms;
  records = subst (λ records. Extends KeepsRecord old.records records) (sym frame.records)
      (records_itself old.records);
  trail = frame.trail;
  told = inl frame.records;
}

-- another moment, other persons, sessions and strays
frame_of : (lab : Lab) (last strays : ℕ) (persons : List Person) (sessions : List Session)
    → KeepsPersons lab.persons persons → Extends KeepsSession lab.sessions sessions
    → IsFrame lab (record lab {
      last = last;
      strays = strays;
      persons = persons;
      sessions = sessions;
    })
frame_of lab last strays persons sessions kept stay = record {
  rest = record {
    code = refl;
    name = refl;
    persons = kept;
    sessions = stay;
    forms = forms_itself lab.forms;
  };
  records = refl;
  trail = prefix_itself lab.trail;
}

keeps_itself : (lab : Lab) → Keeps lab lab
keeps_itself lab =
    frame_keeps lab lab (frame_of lab lab.last lab.strays lab.persons lab.sessions
    (persons_itself lab.persons) (sessions_itself lab.sessions))

-- with one row more in the trail
told_frame : (old new : Lab) (moment : ℕ) (person : Option (List ℕ)) (deed : Deed) → IsFrame old new
    → IsFrame old (told moment person deed new)
told_frame old new moment person deed frame =
    let row = trail_row_of (length new.trail + 1) moment person deed in
    record {
      rest = record {
        code = frame.rest.code;
        name = frame.rest.name;
        persons = frame.rest.persons;
        sessions = frame.rest.sessions;
        forms = frame.rest.forms;
      };
      records = frame.records;
      trail = prefix_on old.trail new.trail (new.trail ++ row ∷ []) frame.trail
          (prefix_more new.trail (row ∷ []));
    }

noted_by : (full : Bool) (old new : Lab) (moment : ℕ) (person : Option (List ℕ)) (deed : Deed)
    → IsFrame old new → IsFrame old (cond full new (told moment person deed new))
noted_by true old new moment person deed frame = frame
noted_by false old new moment person deed frame = told_frame old new moment person deed frame

noted_frame : (old new : Lab) (moment : ℕ) (person : List ℕ) (deed : Deed) → IsFrame old new
    → IsFrame old (told_if_room moment person deed new)
noted_frame old new moment person deed frame =
    noted_by (nat_le count_limit (length new.trail)) old new moment (Some person) deed frame

-- ---- what comes of a case

failed_frame : (lab : Lab) (moment : ℕ) (occasion : Occasion) (failure : Failure)
    → FailureKeeps lab.persons failure → IsFrame lab (failed lab moment occasion failure)
failed_frame lab moment occasion (Counted person) set =
    let after = record lab { persons = with_person person lab.persons } in
    noted_frame lab after moment person.code (Refuse occasion)
    (frame_of lab lab.last lab.strays (with_person person lab.persons) lab.sessions
    (set_keeps lab.persons person set) (sessions_itself lab.sessions))
failed_frame lab moment occasion (Locking person) set =
    let sessions = sessions_after All person.code lab.sessions in
    let after = record lab { persons = with_person person lab.persons; sessions = sessions } in
    noted_frame lab (told_if_room moment person.code (Refuse occasion) after) moment person.code
    (Lock person.code)
    (noted_frame lab after moment person.code (Refuse occasion)
    (frame_of lab lab.last lab.strays (with_person person lab.persons) sessions
    (set_keeps lab.persons person set) (closed_keep All person.code lab.sessions)))
failed_frame lab moment occasion (AlreadyLocked person) set =
    noted_frame lab lab moment person.code (Refuse occasion)
    (frame_of lab lab.last lab.strays lab.persons lab.sessions (persons_itself lab.persons)
    (sessions_itself lab.sessions))
failed_frame lab moment occasion Stray set =
    frame_of lab lab.last (more_strays lab.strays) lab.persons lab.sessions
    (persons_itself lab.persons) (sessions_itself lab.sessions)

done_told : (lab after : Lab) (deed : Deed) (moment : ℕ) (person : List ℕ)
    → after.trail ≡ lab.trail → after.last ≡ moment
    → (after.records ≡ lab.records) ⊎ IsDoneBy lab after.records deed moment person
    → (after.records ≡ lab.records) ⊎ IsToldOnce lab (told moment (Some person) deed after)
done_told lab after deed moment person trail active (inl same) = inl same
done_told lab after deed moment person trail active (inr done) = inr (record {
  deed = deed;
  moment = moment;
  person = person;
  told = ap (λ (rows : List TrailRow).
      rows ++ trail_row_of (length rows + 1) moment (Some person) deed ∷ []) trail;
  at = sym active;
  by = done.0;
  done = done.1;
})

-- a laboratory that was made, once the trail tells of it
told_keeps : (lab after : Lab) (deed : Deed) (moment : ℕ) (person : List ℕ)
    → IsMade moment lab after deed moment person → Keeps lab (told moment (Some person) deed after)
told_keeps lab after deed moment person made =
    let row = trail_row_of (length after.trail + 1) moment (Some person) deed in
    record {
      code = made.rest.code;
      name = made.rest.name;
      persons = made.rest.persons;
      sessions = made.rest.sessions;
      forms = made.rest.forms;
      records = made.records;
      trail = subst (λ rows. IsPrefix rows (after.trail ++ row ∷ [])) made.trail
          (prefix_more after.trail (row ∷ []));
      told = done_told lab after deed moment person made.trail made.active made.done;
    }

made_by : (full : Bool) (lab after : Lab) (moment : ℕ) (person : List ℕ) (reply : Reply)
    (deed : Deed)
    → IsMade moment lab after deed moment person
    → WhereThere (Keeps lab) (cond full (stays lab (Refused (People LabFull)))
    (stays (told moment (Some person) deed after) reply)).after
made_by true lab after moment person reply deed made = keeps_itself lab
made_by false lab after moment person reply deed made =
    told_keeps lab after deed moment person made

made_keeps : (lab after : Lab) (moment : ℕ) (person : List ℕ) (reply : Reply) (deed : Deed)
    → IsMade moment lab after deed moment person
    → WhereThere (Keeps lab) (made lab after moment person reply deed).after
made_keeps lab after moment person reply deed is =
    made_by (nat_le count_limit (length lab.trail)) lab after moment person reply deed is

ended_keeps : (lab : Lab) (moment : ℕ) (person : List ℕ) (case : Case) → lab.last ≡ moment
    → CaseKeeps lab moment person case → WhereThere (Keeps lab) (ended lab moment person case).after
ended_keeps lab moment person (Refuses refusal) active keeps = keeps_itself lab
ended_keeps lab moment person (Fails occasion failure) active keeps =
    frame_keeps lab (failed lab moment occasion failure)
    (failed_frame lab moment occasion failure keeps)
ended_keeps lab moment person (Reads reply) active keeps = keeps_itself lab
ended_keeps lab moment person (Makes reply deed after) active keeps =
    made_keeps lab after moment person reply deed
    (subst (λ last. IsMade last lab after deed moment person) active keeps)

-- ---- a moment and a request before

told_before : (lab new : Lab) (last : ℕ) (sessions : List Session)
    → (new.records ≡ lab.records) ⊎ IsToldOnce (record lab { last = last; sessions = sessions }) new
    → (new.records ≡ lab.records) ⊎ IsToldOnce lab new
told_before lab new last sessions (inl same) = inl same
told_before lab new last sessions (inr once) = inr (record {
  deed = once.deed;
  moment = once.moment;
  person = once.person;
  told = once.told;
  at = once.at;
  by = once.by;
  done = once.done;
})

-- what is kept after a moment and sessions were noted is kept from before
kept_before : (lab : Lab) (last : ℕ) (sessions : List Session) (new : Lab)
    → Extends KeepsSession lab.sessions sessions
    → Keeps (record lab { last = last; sessions = sessions }) new → Keeps lab new
kept_before lab last sessions new stay keeps = record {
  code = keeps.code;
  name = keeps.name;
  persons = keeps.persons;
  sessions = sessions_on lab.sessions sessions new.sessions stay keeps.sessions;
  forms = keeps.forms;
  records = keeps.records;
  trail = keeps.trail;
  told = told_before lab new last sessions keeps.told;
}

where_before : (lab : Lab) (last : ℕ) (sessions : List Session) (new : Option Lab)
    → Extends KeepsSession lab.sessions sessions
    → WhereThere (Keeps (record lab { last = last; sessions = sessions })) new
    → WhereThere (Keeps lab) new
where_before lab last sessions None stay keeps = tt
where_before lab last sessions (Some new) stay keeps = kept_before lab last sessions new stay keeps

moment_made : (lab after : Lab) (deed : Deed) (moment : ℕ) (person : List ℕ)
    → IsMade lab.last lab after deed moment person
    → IsMade moment lab (at_moment moment after) deed moment person
moment_made lab after deed moment person made = record {
  rest = record {
    code = made.rest.code;
    name = made.rest.name;
    persons = made.rest.persons;
    sessions = made.rest.sessions;
    forms = made.rest.forms;
  };
  records = made.records;
  trail = made.trail;
  active = refl;
  done = made.done;
}

opened_keeps : (lab : Lab) (moment : ℕ) (code : List ℕ) (case : Case)
    → CaseKeeps lab moment code case → WhereThere (Keeps lab) (opened lab moment code case).after
opened_keeps lab moment code (Refuses refusal) keeps = keeps_itself lab
opened_keeps lab moment code (Fails occasion failure) keeps =
    let after = at_moment moment lab in
    kept_before lab moment lab.sessions (failed after moment occasion failure)
    (sessions_itself lab.sessions)
    (frame_keeps after (failed after moment occasion failure)
    (failed_frame after moment occasion failure keeps))
opened_keeps lab moment code (Reads reply) keeps = keeps_itself lab
opened_keeps lab moment code (Makes reply deed after) keeps =
    made_keeps lab (at_moment moment after) moment code reply deed
    (moment_made lab after deed moment code keeps)

-- ---- sessions that were found

own_token : (sessions : List Session) (token : List ℕ) (session : Session)
    → session_of sessions token ≡ Some session
    → session_of sessions session.token ≡ Some session
own_token sessions token session h =
    subst (λ it. session_of sessions it ≡ Some session) (sym (found_token sessions token session h))
    h

named_there : (lab : Lab) (token : Option (List ℕ)) (session : Session)
    → named_session lab token ≡ Some session → session_of lab.sessions session.token ≡ Some session
named_there lab None session h = absurd (cc)
named_there lab (Some token) session h = own_token lab.sessions _ session h

own_code : (persons : List Person) (code : List ℕ) (person : Person)
    → person_of persons code ≡ Some person → person_of persons person.code ≡ Some person
own_code persons code person h =
    subst (λ it. person_of persons it ≡ Some person) (sym (found_code persons code person h)) h

touching : (lab : Lab) (moment : ℕ) (session : Session)
    → session_of lab.sessions session.token ≡ Some session
    → Extends KeepsSession lab.sessions (with_session (touched_session moment session) lab.sessions)
touching lab moment session there =
    with_session_keeps lab.sessions (touched_session moment session) session there
    (record { same = record { number = refl; person = refl; token = refl; opened = refl }; closed = λ is. is })

allowed_keeps : (lab : Lab) (tick : Tick) (command : SessionCommand) (session : Session)
    (caller : Person)
    (denied : Option PeopleRefusal) → AreFormsNumbered [] lab.forms
    → session_of lab.sessions session.token ≡ Some session
    → person_of lab.persons caller.code ≡ Some caller
    → WhereThere (Keeps lab)
    (answered_in lab tick command (allowed_passage session caller denied)).after
allowed_keeps lab tick command session caller (Some refusal) numbered there known =
    kept_before lab tick.moment (with_session (touched_session tick.moment session) lab.sessions)
    (touched lab tick.moment session) (touching lab tick.moment session there)
    (keeps_itself (touched lab tick.moment session))
allowed_keeps lab tick command session caller None numbered there known =
    let after = touched lab tick.moment session in
    let now = touched_session tick.moment session in
    let case = own after tick now caller command in
    where_before lab tick.moment (with_session now lab.sessions)
    (ended after tick.moment caller.code case).after (touching lab tick.moment session there)
    (ended_keeps after tick.moment caller.code case refl
    (own_keeps after tick now caller command (with_session_found lab.sessions now session there)
    known numbered))

live_keeps : (live : Bool) (lab : Lab) (tick : Tick) (command : SessionCommand) (session : Session)
    (caller : Person) (denied : Option PeopleRefusal) → AreFormsNumbered [] lab.forms
    → session_of lab.sessions session.token ≡ Some session
    → person_of lab.persons caller.code ≡ Some caller
    → WhereThere (Keeps lab) (answered_in lab tick command
    (cond live (allowed_passage session caller denied) Stranger)).after
live_keeps true lab tick command session caller denied numbered there known =
    allowed_keeps lab tick command session caller denied numbered there known
live_keeps false lab tick command session caller denied numbered there known = keeps_itself lab

session_keeps : (lab : Lab) (tick : Tick) (command : SessionCommand) (session : Option Session)
    (caller : Option Person) (rule : Rule) → AreFormsNumbered [] lab.forms
    → ((one : Session) → session ≡ Some one → session_of lab.sessions one.token ≡ Some one)
    → ((one : Person) → caller ≡ Some one → person_of lab.persons one.code ≡ Some one)
    → WhereThere (Keeps lab)
    (answered_in lab tick command (passage session caller tick.moment rule)).after
session_keeps lab tick command None caller rule numbered there known = keeps_itself lab
session_keeps lab tick command (Some session) None rule numbered there known = keeps_itself lab
session_keeps lab tick command (Some session) (Some caller) rule numbered there known =
    live_keeps (is_live session tick.moment) lab tick command session caller
    (denial caller rule tick.moment) numbered (there session refl) (known caller refl)

caller_known : (lab : Lab) (session : Option Session) (caller : Person)
    → caller_of lab session ≡ Some caller → person_of lab.persons caller.code ≡ Some caller
caller_known lab None caller h = absurd (cc)
caller_known lab (Some session) caller h = own_code lab.persons session.person caller h

answer_keeps : (lab : Lab) (tick : Tick) (token : Option (List ℕ)) (command : Command)
    → AreFormsNumbered [] lab.forms
    → WhereThere (Keeps lab) (answered lab tick (named_session lab token) command).after
answer_keeps lab tick token Card numbered = keeps_itself lab
answer_keeps lab tick token (Open code password) numbered =
    opened_keeps lab tick.moment code (opening_case lab tick code password)
    (opening_keeps lab tick code password)
answer_keeps lab tick token (In command) numbered =
    let session = named_session lab token in
    session_keeps lab tick command session (caller_of lab session) (rule_of command) numbered
    (named_there lab token) (caller_known lab session)

timely_keeps : (early : Bool) (lab : Lab) (reply : Reply) (other : Stepped)
    → WhereThere (Keeps lab) other.after
    → WhereThere (Keeps lab) (cond early (stays lab reply) other).after
timely_keeps true lab reply other keeps = keeps_itself lab
timely_keeps false lab reply other keeps = keeps

-- a step keeps what was
pub step_keeps : (lab : Lab) (tick : Tick) (instruction : Instruction)
    → AreFormsNumbered [] lab.forms
    → WhereThere (Keeps lab) (step (Some lab) tick instruction).after
step_keeps lab tick instruction numbered =
    timely_keeps (nat_lt tick.moment lab.last) lab (Refused ClockBehind)
    (answered lab tick (named_session lab instruction.token) instruction.command)
    (answer_keeps lab tick instruction.token instruction.command numbered)
