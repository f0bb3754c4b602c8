-- What each command's own case keeps: persons, attempts, accounts and sessions.
use Rattle.std.proofs.Common.{◌≡◌, ◌⊎◌, ℕ, ◌+◌, Bool, true, false, cond, not, List, [], ◌∷◌, ◌++◌, length, Option, Some, None, is_some, Result, Ok, Err, refl, subst, inl}
use Rattle.lab_forms_texts.specs.declared.tick.Tick.{Tick}
use Rattle.lab_people_access.specs.declared.roles.Roles.{Roles}
use Rattle.lab_people_access.specs.declared.persons.Person.{Person}
use Rattle.lab_people_access.specs.declared.persons.Ask.{Ask}
use Rattle.lab_people_access.specs.declared.sessions.Session.{Session}
use Rattle.lab_people_access.specs.declared.sessions.Closing.{Closing}
use Rattle.lab_people_access.specs.declared.sessions.Closing.TheVariants.{Nothing, All}
use Rattle.lab_people_access.specs.declared.openings.Opened.{Opened}
use Rattle.lab_people_access.specs.declared.refusals.Failure.{Failure}
use Rattle.lab_people_access.specs.declared.refusals.Failure.TheVariants.{Counted, Locking, AlreadyLocked, Stray}
use Rattle.lab_people_access.specs.declared.refusals.PeopleFault.TheVariants.{Refused}
use Rattle.lab_people_access.specs.declared.refusals.PeopleRefusal.{PeopleRefusal}
use Rattle.lab_people_access.specs.declared.refusals.PeopleRefusal.TheVariants.{BadPassword, SamePassword, CodeTaken, LabFull, OwnIssue, NoSuchPerson, IssueOpen, SamePerson as IsSamePerson, RandomRepeated}
use Rattle.lab_people_access.specs.Persons.{newcomer, person_of, is_locked, unlocked_person, standing_ask}
use Rattle.lab_people_access.specs.Passwords.{is_set, accepts, is_password}
use Rattle.lab_people_access.specs.Sessions.{session_of, sessions_after, closed_session}
use Rattle.lab_people_access.specs.Attempts.{failure_count, failures_to_lock, counted_person, locked_person, attempt_by, attempt_of}
use Rattle.lab_people_access.specs.Openings.{numbered_opening, new_opening, opening_by, opening, token_digest}
use Rattle.lab_forms_texts.specs.Ordinals.{ordinal_of}
use Rattle.lab_people.specs.declared.accounts.Effect.{Effect}
use Rattle.lab_people.specs.declared.issues.Issued.{Issued}
use Rattle.lab_people.specs.Accounts.{enrolling, person_meant, meant_then, setting_roles, retiring, unlocking, changing_by, changing, with_new_password}
use Rattle.lab_people.specs.Issues.{asking, confirming, confirming_of, is_anothers, with_ask, with_one_time_word}
use Rattle.std.specs.Prelude.{bytes_eq, ◌||◌, ◌&&◌, nat_lt, nat_le}
use Rattle.lab_records_kept.specs.declared.labs.Lab.{Lab}
use Rattle.lab_records_kept.specs.declared.trails.Deed.{Deed}
use Rattle.lab_records_kept.specs.Lookups.{person_at, session_at}
use Rattle.lab_records_kept.specs.declared.records.Record.{Record as KeptRecord}
use Rattle.lab_records_kept.specs.Changes.{IsKnown, with_person, with_session, added_person}
use Rattle.lab_records_kept.specs.Keeping.{Extends, KeepsPerson, KeepsPersons, KeepsSession, KeepsForms, KeepsRecord, IsDoneTo}
use Rattle.lab_records_rules.specs.declared.refusals.Refusal.{Refusal}
use Rattle.lab_records_machine.specs.Cases.{Case, Refuses, Fails, Reads, Makes}
use Rattle.lab_records_machine.specs.Own.{then_case, then_person, then_read, opened_case, opening_case, closing_case, changed_case, enrolled_case, with_person_closed, with_opened}
use Rattle.lab_records_machine.specs.declared.replies.Reply.{Reply}
use Rattle.lab_records_laws.proofs.KeepPersons.{IsSet, set_from, set_keeps, added_keeps, persons_itself, sessions_itself, sessions_on, with_session_keeps, closed_keep}
use Rattle.lab_records_laws.proofs.KeepLists.{extends_more}
use Rattle.lab_records_laws.proofs.KeepPersons.{session_itself}
use Rattle.lab_records_laws.proofs.KeepForms.{forms_itself}
use Rattle.lab_records_laws.proofs.KeepRecords.{records_itself}

-- ---- what a case keeps

-- all but records and the trail is kept
pub record KeepsRest (old new : Lab) : Type 0 where
  pub code : new.code ≡ old.code
  pub name : new.name ≡ old.name
  pub persons : KeepsPersons old.persons new.persons
  pub sessions : Extends KeepsSession old.sessions new.sessions
  pub forms : KeepsForms old.forms new.forms

-- records became others by a deed of somebody of the laboratory
abbrev pub IsDoneBy : Lab → List KeptRecord → Deed → ℕ → List ℕ → Type 0
IsDoneBy lab records deed moment person =
    IsKnown lab person × IsDoneTo deed lab.persons lab.records records moment person

-- another laboratory is made by a deed, which the trail doesn't tell yet; it was last active then
pub record IsMade (last : ℕ) (lab after : Lab) (deed : Deed) (moment : ℕ) (person : List ℕ)
    : Type 0 where
  pub rest : KeepsRest lab after
  pub records : Extends KeepsRecord lab.records after.records
  pub trail : after.trail ≡ lab.trail
  pub active : after.last ≡ last
  pub done : (after.records ≡ lab.records) ⊎ IsDoneBy lab after.records deed moment person

-- whom a failed password counts for is somebody there
abbrev pub FailureKeeps : List Person → Failure → Type 0
FailureKeeps persons (Counted person) = IsSet persons person
FailureKeeps persons (Locking person) = IsSet persons person
FailureKeeps persons (AlreadyLocked person) = Unit {0}
FailureKeeps persons Stray = Unit {0}

abbrev pub CaseKeeps : Lab → ℕ → List ℕ → Case → Type 0
CaseKeeps lab moment person (Refuses refusal) = Unit {0}
CaseKeeps lab moment person (Fails occasion failure) = FailureKeeps lab.persons failure
CaseKeeps lab moment person (Reads reply) = Unit {0}
CaseKeeps lab moment person (Makes reply deed after) =
    IsMade lab.last lab after deed moment person

pub after_case : {A : Type 0} (lab : Lab) (moment : ℕ) (person : List ℕ) (result : Result A Refusal)
    (next : A → Case) → ((value : A) → result ≡ Ok value → CaseKeeps lab moment person (next value))
    → CaseKeeps lab moment person (then_case result next)
after_case lab moment person (Err refusal) next keeps = tt
after_case lab moment person (Ok value) next keeps = keeps value refl

pub after_person : {A : Type 0} (lab : Lab) (moment : ℕ) (person : List ℕ)
    (result : Result A PeopleRefusal) (next : A → Case)
    → ((value : A) → result ≡ Ok value → CaseKeeps lab moment person (next value))
    → CaseKeeps lab moment person (then_person result next)
after_person lab moment person (Err refusal) next keeps = tt
after_person lab moment person (Ok value) next keeps = keeps value refl

pub after_read : {A : Type 0} (lab : Lab) (moment : ℕ) (person : List ℕ) (result : Result A Refusal)
    (next : A → Reply) → CaseKeeps lab moment person (then_read result next)
after_read lab moment person (Err refusal) next = tt
after_read lab moment person (Ok value) next = tt

-- persons and sessions alone are others
persons_made : (lab : Lab) (persons : List Person) (sessions : List Session) (deed : Deed)
    (moment : ℕ) (person : List ℕ) → KeepsPersons lab.persons persons
    → Extends KeepsSession lab.sessions sessions
    → IsMade lab.last lab (record lab { persons = persons; sessions = sessions }) deed moment person
persons_made lab persons sessions deed moment person kept stay = record {
  rest = record {
    code = refl;
    name = refl;
    persons = kept;
    sessions = stay;
    forms = forms_itself lab.forms;
  };
  records = records_itself lab.records;
  trail = refl;
  active = refl;
  done = inl refl;
}

-- ---- passwords

abbrev LeavesSame : Person → Failure → Type 0
LeavesSame person (Counted one) = KeepsPerson person one
LeavesSame person (Locking one) = KeepsPerson person one
LeavesSame person (AlreadyLocked one) = Unit {0}
LeavesSame person Stray = Unit {0}

-- what comes of a password that was given is about the same person
abbrev pub IsAttemptOf : Person → Result Person Failure → Type 0
IsAttemptOf person (Ok one) = KeepsPerson person one
IsAttemptOf person (Err failure) = LeavesSame person failure

tests_same : (stray locked accepted few : Bool) (person : Person) (count moment : ℕ)
    → IsAttemptOf person (cond stray (Err Stray) (cond locked (Err (AlreadyLocked person))
    (cond accepted (Ok (unlocked_person person))
    (Err (cond few (Counted (counted_person count person))
    (Locking (locked_person moment person)))))))
tests_same true locked accepted few person count moment = tt
tests_same false true accepted few person count moment = tt
tests_same false false true few person count moment = record { same = record { code = refl; name = refl }; retired = λ is. is }
tests_same false false false true person count moment = record { same = record { code = refl; name = refl }; retired = λ is. is }
tests_same false false false false person count moment = record { same = record { code = refl; name = refl }; retired = λ is. is }

pub attempt_same : (person : Person) (is_own : Bool) (text : List ℕ) (moment : ℕ)
    → IsAttemptOf person (attempt_by person is_own text moment)
unfolding attempt_by
attempt_same person is_own text moment =
    let count = failure_count person.locked person.failures + 1 in
    tests_same (person.retired || not (is_set person.password)) (is_locked person.locked moment)
    (is_own && accepts person.password text moment) (nat_lt count failures_to_lock) person count
    moment

pub failure_keeps : (persons : List Person) (code : List ℕ) (person : Person) (failure : Failure)
    → person_of persons code ≡ Some person → LeavesSame person failure
    → FailureKeeps persons failure
failure_keeps persons code person (Counted one) there same =
    set_from persons code person one there same
failure_keeps persons code person (Locking one) there same =
    set_from persons code person one there same
failure_keeps persons code person (AlreadyLocked one) there same = tt
failure_keeps persons code person Stray there same = tt

-- ---- openings

opened_keeps : (lab : Lab) (opened : Opened) (deed : Deed) (moment : ℕ) (person : List ℕ)
    → IsSet lab.persons opened.person → IsMade lab.last lab (with_opened lab opened) deed moment person
opened_keeps lab opened deed moment person set =
    persons_made lab (with_person opened.person lab.persons) (lab.sessions ++ opened.session ∷ [])
    deed moment person (set_keeps lab.persons opened.person set)
    (extends_more KeepsSession session_itself lab.sessions (opened.session ∷ []))

opened_by : (repeated : Bool) (number : Option ℕ) (lab : Lab) (moment : ℕ) (code : List ℕ)
    (tick : Tick) (one : Person) → IsSet lab.persons one
    → CaseKeeps lab moment code (opened_case lab (cond repeated (Err (Refused RandomRepeated))
    (numbered_opening number code tick one)))
opened_by true number lab moment code tick one set = tt
opened_by false None lab moment code tick one set = tt
opened_by false (Some number) lab moment code tick one set =
    opened_keeps lab (new_opening number code tick one) _ moment code set

opening_by_keeps : (lab : Lab) (moment : ℕ) (code : List ℕ) (tick : Tick) (person : Person)
    (attempt : Result Person Failure) (sessions : ℕ) (repeated : Option Session)
    → person_of lab.persons code ≡ Some person → IsAttemptOf person attempt
    → CaseKeeps lab moment code (opened_case lab (opening_by attempt code tick sessions repeated))
opening_by_keeps lab moment code tick person (Err failure) sessions repeated there same =
    failure_keeps lab.persons code person failure there same
opening_by_keeps lab moment code tick person (Ok one) sessions repeated there same =
    opened_by (is_some repeated) (ordinal_of (sessions + 1)) lab moment code tick one
    (set_from lab.persons code person one there same)

opening_found : (lab : Lab) (moment : ℕ) (code password : List ℕ) (tick : Tick)
    (found : Option Person) (sessions : ℕ) (repeated : Option Session)
    → person_of lab.persons code ≡ found
    → CaseKeeps lab moment code
    (opened_case lab
    (opening_by (attempt_of found password tick.moment) code tick sessions repeated))
opening_found lab moment code password tick None sessions repeated there = tt
opening_found lab moment code password tick (Some person) sessions repeated there =
    opening_by_keeps lab moment code tick person (attempt_by person true password tick.moment)
    sessions repeated there (attempt_same person true password tick.moment)

pub opening_keeps : (lab : Lab) (tick : Tick) (code password : List ℕ)
    → CaseKeeps lab tick.moment code (opening_case lab tick code password)
unfolding opening
opening_keeps lab tick code password =
    opening_found lab tick.moment code password tick (person_at lab code) (length lab.sessions)
    (session_at lab (token_digest tick)) refl

-- ---- sessions and the own password

pub closing_keeps : (lab : Lab) (session : Session) (moment : ℕ) (person : List ℕ)
    → session_of lab.sessions session.token ≡ Some session
    → CaseKeeps lab moment person (closing_case lab session)
closing_keeps lab session moment person there =
    persons_made lab lab.persons (with_session (closed_session session) lab.sessions) _ moment
    person (persons_itself lab.persons)
    (with_session_keeps lab.sessions (closed_session session) session there
    (record { same = record { number = refl; person = refl; token = refl; opened = refl }; closed = λ is. refl }))

changed_by : (bad same : Bool) (lab : Lab) (moment : ℕ) (code : List ℕ) (one : Person)
    (session : Session) (new : List ℕ) (tick : Tick) → IsSet lab.persons one
    → session_of lab.sessions session.token ≡ Some session
    → CaseKeeps lab moment code (changed_case lab moment (cond bad (Err (Refused BadPassword))
    (cond same (Err (Refused SamePassword)) (Ok (with_new_password one session new tick)))))
changed_by true same lab moment code one session new tick set there = tt
changed_by false true lab moment code one session new tick set there = tt
changed_by false false lab moment code one session new tick set there =
    let changed = with_new_password one session new tick in
    let sessions = with_session changed.session lab.sessions in
    let renewed : IsSet lab.persons changed.person = record {
      old = set.old;
      there = set.there;
      same = record {
        same = record { code = set.same.same.code; name = set.same.same.name };
        retired = set.same.retired;
      };
    } in
    persons_made lab (with_person changed.person lab.persons)
    (sessions_after changed.closing changed.person.code sessions) _ moment code
    (set_keeps lab.persons changed.person renewed)
    (sessions_on lab.sessions sessions (sessions_after changed.closing changed.person.code sessions)
    (with_session_keeps lab.sessions changed.session session there
    (record { same = record { number = refl; person = refl; token = refl; opened = refl }; closed = λ is. is }))
    (closed_keep changed.closing changed.person.code sessions))

changing_by_keeps : (lab : Lab) (code : List ℕ) (caller : Person) (session : Session)
    (attempt : Result Person Failure) (old new : List ℕ) (tick : Tick)
    → person_of lab.persons caller.code ≡ Some caller
    → session_of lab.sessions session.token ≡ Some session → IsAttemptOf caller attempt
    → CaseKeeps lab tick.moment code
    (changed_case lab tick.moment (changing_by attempt session old new tick))
changing_by_keeps lab code caller session (Err failure) old new tick known there same =
    failure_keeps lab.persons caller.code caller failure known same
changing_by_keeps lab code caller session (Ok one) old new tick known there same =
    changed_by (not (is_password new)) (bytes_eq new old) lab tick.moment code one session new tick
    (set_from lab.persons caller.code caller one known same) there

pub changing_keeps : (lab : Lab) (code : List ℕ) (caller : Person) (session : Session)
    (old new : List ℕ) (tick : Tick) → person_of lab.persons caller.code ≡ Some caller
    → session_of lab.sessions session.token ≡ Some session
    → CaseKeeps lab tick.moment code
    (changed_case lab tick.moment (changing caller session old new tick))
unfolding changing
changing_keeps lab code caller session old new tick known there =
    changing_by_keeps lab code caller session (attempt_by caller true old tick.moment) old new tick
    known there (attempt_same caller true old tick.moment)

-- ---- accounts

enrolled_by : (taken full : Bool) (newcomer person : Person)
    → cond taken (Err CodeTaken) (cond full (Err LabFull) (Ok newcomer)) ≡ Ok person
    → (taken ≡ false) × (newcomer ≡ person)
enrolled_by true full newcomer person h = absurd (cc)
enrolled_by false true newcomer person h = absurd (cc)
enrolled_by false false newcomer person h = (refl, cc)

none_some : {A : Type 0} (found : Option A) → is_some found ≡ false → found ≡ None
none_some None h = refl
none_some (Some one) h = absurd (cc)

-- who is enrolled has a code that nobody had
enrolled_free : (lab : Lab) (code name : List ℕ) (roles : Roles) (persons : ℕ) (person : Person)
    → enrolling code name roles (person_at lab code) persons ≡ Ok person
    → person_of lab.persons person.code ≡ None
unfolding enrolling
enrolled_free lab code name roles persons person h =
    let is = enrolled_by (is_some (person_at lab code)) (nat_le 500 persons)
    (newcomer code name roles) person h in
    subst (λ one. person_of lab.persons one.code ≡ None) is.1 (none_some (person_at lab code) is.0)

pub enrolled_keeps : (lab : Lab) (code name : List ℕ) (roles : Roles) (persons moment : ℕ)
    (caller : List ℕ) (person : Person)
    → enrolling code name roles (person_at lab code) persons ≡ Ok person
    → CaseKeeps lab moment caller (enrolled_case lab person)
enrolled_keeps lab code name roles persons moment caller person h =
    persons_made lab (added_person person lab.persons) lab.sessions _ moment caller
    (added_keeps lab.persons person (enrolled_free lab code name roles persons person h))
    (sessions_itself lab.sessions)

-- somebody is meant, of whom something comes
record IsMeant {A : Type 0} (holder : Option Person) (next : Person → Result A PeopleRefusal)
    (value : A) : Type 0 where
  pub found : Person
  pub there : holder ≡ Some found
  pub comes : next found ≡ Ok value

meant_by : {A : Type 0} (retired own : Bool) (person : Person)
    (next : Person → Result A PeopleRefusal)
    (value : A)
    → meant_then (cond retired (Err NoSuchPerson) (cond own (Err OwnIssue) (Ok person))) next
    ≡ Ok value
    → next person ≡ Ok value
meant_by true own person next value h = absurd (cc)
meant_by false true person next value h = absurd (cc)
meant_by false false person next value h = h

meant : {A : Type 0} (caller : List ℕ) (holder : Option Person)
    (next : Person → Result A PeopleRefusal) (value : A)
    → meant_then (person_meant caller holder) next ≡ Ok value → IsMeant holder next value
meant caller None next value h = absurd (cc)
meant caller (Some person) next value h = record {
  found = person;
  there = refl;
  comes = meant_by person.retired (bytes_eq person.code caller) person next value h;
}

-- the person as set is the one who was meant
pub record IsAbout (holder : Option Person) (person : Person) : Type 0 where
  pub found : Person
  pub there : holder ≡ Some found
  pub same : KeepsPerson found person

pub with_closed_keeps : (lab : Lab) (code : List ℕ) (person : Person) (closing : Closing)
    (deed : Deed)
    (moment : ℕ) (caller : List ℕ) → IsAbout (person_at lab code) person
    → IsMade lab.last lab (with_person_closed lab person closing) deed moment caller
with_closed_keeps lab code person closing deed moment caller about =
    persons_made lab (with_person person lab.persons)
    (sessions_after closing person.code lab.sessions)
    deed moment caller
    (set_keeps lab.persons person
    (set_from lab.persons code about.found person about.there about.same))
    (closed_keep closing person.code lab.sessions)

abbrev roles_set : Roles → Person → Effect
roles_set roles found = record { person = record found { roles = roles }; closing = Nothing }

abbrev retired_set : Person → Effect
retired_set found = record { person = record found { retired = true }; closing = All }

abbrev unlocked_set : Person → Effect
unlocked_set found = record { person = unlocked_person found; closing = Nothing }

pub roles_about : (caller : List ℕ) (holder : Option Person) (roles : Roles) (effect : Effect)
    → setting_roles caller holder roles ≡ Ok effect → IsAbout holder effect.person
unfolding setting_roles
roles_about caller holder roles effect h =
    let m = meant caller holder (λ found. Ok (roles_set roles found)) effect h in
    let is : roles_set roles m.found ≡ effect = cc (m.comes) in
    record {
      found = m.found;
      there = m.there;
      same = subst (λ one. KeepsPerson m.found one.person) is (record { same = record { code = refl; name = refl }; retired = λ is. is });
    }

pub retired_about : (caller : List ℕ) (holder : Option Person) (effect : Effect)
    → retiring caller holder ≡ Ok effect → IsAbout holder effect.person
unfolding retiring
retired_about caller holder effect h =
    let m = meant caller holder (λ found. Ok (retired_set found)) effect h in
    let is : retired_set m.found ≡ effect = cc (m.comes) in
    record {
      found = m.found;
      there = m.there;
      same = subst (λ one. KeepsPerson m.found one.person) is (record { same = record { code = refl; name = refl }; retired = λ is. refl });
    }

pub unlocked_about : (caller : List ℕ) (holder : Option Person) (effect : Effect)
    → unlocking caller holder ≡ Ok effect → IsAbout holder effect.person
unfolding unlocking
unlocked_about caller holder effect h =
    let m = meant caller holder (λ found. Ok (unlocked_set found)) effect h in
    let is : unlocked_set m.found ≡ effect = cc (m.comes) in
    record {
      found = m.found;
      there = m.there;
      same = subst (λ one. KeepsPerson m.found one.person) is (record { same = record { code = refl; name = refl }; retired = λ is. is });
    }

asked_by : (other : Bool) (made issued : Issued) → cond other (Err IssueOpen) (Ok made) ≡ Ok issued
    → made ≡ issued
asked_by true made issued h = absurd (cc)
asked_by false made issued h = cc

pub asked_about : (caller : List ℕ) (holder : Option Person) (tick : Tick) (issued : Issued)
    → asking caller holder tick ≡ Ok issued → IsAbout holder issued.person
unfolding asking
asked_about caller holder tick issued h =
    let m = meant caller holder (λ found.
    cond (is_anothers caller (standing_ask found.ask tick.moment)) (Err IssueOpen)
    (Ok (with_ask caller tick found))) issued h in
    let is = asked_by (is_anothers caller (standing_ask m.found.ask tick.moment))
    (with_ask caller tick m.found) issued m.comes in
    record {
      found = m.found;
      there = m.there;
      same = subst (λ one. KeepsPerson m.found one.person) is (record { same = record { code = refl; name = refl }; retired = λ is. is });
    }

own_by : (own : Bool) (made issued : Issued) → cond own (Err IsSamePerson) (Ok made) ≡ Ok issued
    → made ≡ issued
own_by true made issued h = absurd (cc)
own_by false made issued h = cc

confirmed_same : (caller : List ℕ) (tick : Tick) (found : Person) (ask : Option Ask)
    (issued : Issued)
    → confirming_of caller tick found ask ≡ Ok issued → KeepsPerson found issued.person
confirmed_same caller tick found None issued h = absurd (cc)
confirmed_same caller tick found (Some ask) issued h =
    let is = own_by (bytes_eq ask.asker caller) (with_one_time_word tick ask found) issued h in
    subst (λ one. KeepsPerson found one.person) is (record { same = record { code = refl; name = refl }; retired = λ is. is })

pub confirmed_about : (caller : List ℕ) (holder : Option Person) (tick : Tick) (issued : Issued)
    → confirming caller holder tick ≡ Ok issued → IsAbout holder issued.person
unfolding confirming
confirmed_about caller holder tick issued h =
    let m = meant caller holder
    (λ found. confirming_of caller tick found (standing_ask found.ask tick.moment)) issued h in
    record {
      found = m.found;
      there = m.there;
      same =
          confirmed_same caller tick m.found (standing_ask m.found.ask tick.moment) issued m.comes;
    }
