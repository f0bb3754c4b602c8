-- A session that a request's own changes set isn't set by the note before them: what they set has
-- the moment already, and so the changes come to the same.
use Rattle.std.proofs.Common.{◌≡◌, inl, inr, ℕ, ◌+◌, Bool, true, false, cond, ◌||◌, List, [], ◌∷◌, ◌++◌, Option, Some, None, MatchOption, Result, Ok, Err, refl, sym, ◌∙◌, ap, subst, append_assoc, not, nat_le}
use Rattle.std.specs.Prelude.{◌⊎◌, map, bytes_eq}
use Rattle.std.specs.List.{list_any}
use Rattle.std.proofs.lemmas.List.Folds.{list_any-append}
use Rattle.lab_forms_texts.specs.declared.tick.Tick.{Tick}
use Rattle.lab_people_access.specs.declared.persons.Person.{Person}
use Rattle.lab_people_access.specs.declared.persons.Ask.{Ask}
use Rattle.lab_people_access.specs.declared.sessions.Session.{Session}
use Rattle.lab_people_access.specs.declared.sessions.Closing.{Closing}
use Rattle.lab_people_access.specs.declared.sessions.Closing.TheVariants.{Nothing, All, Others}
use Rattle.lab_people_access.specs.declared.refusals.Failure.{Failure}
use Rattle.lab_people_access.specs.declared.refusals.Failure.TheVariants.{Counted, Locking, AlreadyLocked, Stray}
use Rattle.lab_people_access.specs.declared.refusals.PeopleFault.TheVariants.{Refused as IsRefused}
use Rattle.lab_people_access.specs.declared.refusals.PeopleRefusal.{PeopleRefusal}
use Rattle.lab_people_access.specs.declared.refusals.PeopleRefusal.TheVariants.{BadPassword, SamePassword, LabFull}
use Rattle.lab_people_access.specs.Attempts.{attempt_of, signing_attempt}
use Rattle.lab_people_access.specs.Passwords.{is_password}
use Rattle.lab_people_access.specs.Persons.{person_of}
use Rattle.lab_people_access.specs.Sessions.{session_of, touched_session, closed_session, signed_session}
use Rattle.lab_people.specs.Accounts.{with_new_password, changing_by, changing, enrolling, setting_roles, retiring, unlocking}
use Rattle.lab_people.specs.Issues.{asking, confirming}
use Rattle.lab_records_kept.specs.declared.labs.Lab.{Lab}
use Rattle.lab_records_kept.specs.declared.needs.Slice.{Slice}
use Rattle.lab_records_kept.specs.declared.changes.Change.{Change}
use Rattle.lab_records_kept.specs.declared.changes.Change.TheVariants.{PersonSet, SessionSet, SignatureAdded, SessionsClosed, TrailAdded}
use Rattle.lab_records_kept.specs.declared.trails.Deed.TheVariants.{Refuse, Lock}
use Rattle.lab_records_kept.specs.declared.trails.Occasion.{Occasion}
use Rattle.lab_records_kept.specs.declared.trails.TrailRow.{TrailRow}
use Rattle.lab_records_kept.specs.Changes.{SamePerson, SameSession, IsAskKnown, IsKnownIfAny, Fits, AllFit, change, changed, with_session}
use Rattle.lab_records_kept.specs.Limits.{count_limit}
use Rattle.lab_records_kept.specs.Trails.{trail_row_of}
use Rattle.lab_records_rules.specs.declared.outcomes.Signing.{Signing}
use Rattle.lab_records_rules.specs.declared.refusals.Refusal.{Refusal}
use Rattle.lab_records_rules.specs.declared.refusals.Refusal.TheVariants.{People, CodeWanted}
use Rattle.lab_records_rules.specs.Making.{making, opening_record}
use Rattle.lab_records_rules.specs.Reading.{reading_form, reading_record, reading_version}
use Rattle.lab_records_versions.specs.Entering.{entering, amending}
use Rattle.lab_records_versions.specs.Signing.{is_code_wanted, signing_record}
use Rattle.lab_records_machine.specs.declared.commands.SessionCommand.{SessionCommand}
use Rattle.lab_records_machine.specs.declared.commands.SessionCommand.TheVariants.{OnAccount, OnRecord, Reading}
use Rattle.lab_records_machine.specs.declared.commands.AccountCommand.TheVariants.{Close, ChangePassword, Enrol, AskIssue, ConfirmIssue, SetRoles, Retire, Unlock}
use Rattle.lab_records_machine.specs.declared.commands.RecordCommand.TheVariants.{MakeForm, OpenRecord, Enter, Amend, Sign}
use Rattle.lab_records_machine.specs.declared.commands.ReadingCommand.TheVariants.{ReadPersons, ReadForm, ReadRecord, ReadVersion, ReadRecords, ReadTrail, TakeCopy}
use Rattle.lab_records_machine.specs.declared.replies.Reply.{Reply}
use Rattle.lab_records_machine.specs.declared.replies.Reply.TheVariants.{Refused as ToldRefused, FormRead, RecordRead, VersionRead}
use Rattle.lab_records_machine.specs.declared.done.Done.{Done}
use Rattle.lab_records_machine.specs.declared.done.Done.TheVariants.{Refused, Failed, Read, Made}
use Rattle.lab_records_machine.specs.Done.{then_done, then_person_done, then_read_done, changed_done, person_changes, enrolled_done, asked_done, confirmed_done, roles_done, retired_done, unlocked_done, form_done, record_done, entry_done, amendment_done, signature_done, signing_done, done_on_account, done_on_record, done_reading, done_of}
use Rattle.lab_records_laws.proofs.Failing.{BecomesWhere}
use Rattle.lab_records_laws.proofs.FitPersons.{session_fits}
use Rattle.lab_records_laws.proofs.LimitLists.{same_bytes}
use Rattle.lab_records_laws.specs.Deciding.{trail_row_if_room, failure_changes, outcome, end_by, is_session_set}

-- ---- which own changes set a session

-- after persons the session is set, and is as it was opened
pub record SetsSession (session : Session) (own : List Change) : Type 0 where
  pub persons : List Person
  pub set : Session
  pub rest : List Change
  pub is : own ≡ map PersonSet persons ++ SessionSet set ∷ rest
  pub same : SameSession session set

-- no other session is set
abbrev pub SetsNoOther : Session → List Change → Type 0
SetsNoOther session own = SetsSession session own ⊎ (list_any is_session_set own ≡ false)

abbrev pub SetsNoOtherDone : Session → Done → Type 0
SetsNoOtherDone session (Refused refusal) = Unit {0}
SetsNoOtherDone session (Failed occasion failure) = Unit {0}
SetsNoOtherDone session (Read reply) = Unit {0}
SetsNoOtherDone session (Made reply deed own) = SetsNoOther session own

-- ---- each command

then_done_sets : {A : Type 0} (session : Session) (result : Result A Refusal) (next : A → Done)
    → ((value : A) → SetsNoOtherDone session (next value))
    → SetsNoOtherDone session (then_done result next)
then_done_sets session (Err refusal) next sets = tt
then_done_sets session (Ok value) next sets = sets value

then_person_sets : {A : Type 0} (session : Session) (result : Result A PeopleRefusal)
    (next : A → Done) → ((value : A) → SetsNoOtherDone session (next value))
    → SetsNoOtherDone session (then_person_done result next)
then_person_sets session (Err refusal) next sets = tt
then_person_sets session (Ok value) next sets = sets value

then_read_sets : {A : Type 0} (session : Session) (result : Result A Refusal) (reply : A → Reply)
    → SetsNoOtherDone session (then_read_done result reply)
then_read_sets session (Err refusal) reply = tt
then_read_sets session (Ok value) reply = tt

-- an account is set, with none of its sessions closed, or some
person_sets : (session : Session) (person : Person) (closing : Closing)
    → SetsNoOther session (person_changes person closing)
person_sets session person Nothing = inr refl
person_sets session person All = inr refl
person_sets session person (Others number) = inr refl

-- the own password
changed_tests : (bad same : Bool) (session : Session) (person : Person) (new : List ℕ) (tick : Tick)
    → SetsNoOtherDone session (changed_done tick.moment (cond bad (Err (IsRefused BadPassword))
    (cond same (Err (IsRefused SamePassword)) (Ok (with_new_password person session new tick)))))
changed_tests true same session person new tick = tt
changed_tests false true session person new tick = tt
changed_tests false false session person new tick =
    let made = with_new_password person session new tick in
    inl (record {
      persons = made.person ∷ [];
      set = made.session;
      rest = SessionsClosed made.person.code made.closing ∷ [];
      is = refl;
      same = record { number = refl; person = refl; token = refl; opened = refl };
    })

changed_by : (session : Session) (old new : List ℕ) (tick : Tick) (result : Result Person Failure)
    → SetsNoOtherDone session (changed_done tick.moment (changing_by result session old new tick))
changed_by session old new tick (Err failure) = tt
changed_by session old new tick (Ok person) =
    changed_tests (not (is_password new)) (bytes_eq new old) session person new tick

changing_sets : (session : Session) (caller : Person) (old new : List ℕ) (tick : Tick)
    → SetsNoOtherDone session (changed_done tick.moment (changing caller session old new tick))
unfolding changing
changing_sets session caller old new tick =
    changed_by session old new tick (attempt_of (Some caller) old tick.moment)

-- a signature
signing_sets : (slice : Slice) (moment : ℕ) (session : Session) (version : ℕ) (digest : List ℕ)
    (signing : Signing) (result : Result Person Failure)
    → SetsNoOtherDone session (signing_done slice moment session version digest signing result)
signing_sets slice moment session version digest signing (Err failure) = tt
signing_sets slice moment session version digest signing (Ok person) =
    then_done_sets session
    (signing_record slice.code slice.filed version digest signing person moment)
    (signature_done session person) (λ made. inl (record {
      persons = person ∷ [];
      set = signed_session session;
      rest = SignatureAdded made.number made.version made.signature ∷ [];
      is = refl;
      same = record { number = refl; person = refl; token = refl; opened = refl };
    }))

wanted_sets : (wanted : Bool) (session : Session) (refusal : Refusal) (done : Done)
    → SetsNoOtherDone session done → SetsNoOtherDone session (cond wanted (Refused refusal) done)
wanted_sets true session refusal done sets = tt
wanted_sets false session refusal done sets = sets

pub own_sets : (slice : Slice) (tick : Tick) (session : Session) (caller : Person)
    (command : SessionCommand)
    → SetsNoOtherDone session (done_of slice tick session caller command)
unfolding done_on_account done_on_record done_reading
own_sets slice tick session caller (OnAccount Close) = inl (record {
  persons = [];
  set = closed_session session;
  rest = [];
  is = refl;
  same = record { number = refl; person = refl; token = refl; opened = refl };
})
own_sets slice tick session caller (OnAccount (ChangePassword old new)) =
    changing_sets session caller old new tick
own_sets slice tick session caller (OnAccount (Enrol code name roles)) =
    then_person_sets session (enrolling code name roles slice.person slice.counts.persons)
    enrolled_done (λ person. inr refl)
own_sets slice tick session caller (OnAccount (AskIssue code)) =
    then_person_sets session (asking caller.code slice.person tick) asked_done
    (λ issued. person_sets session issued.person issued.closing)
own_sets slice tick session caller (OnAccount (ConfirmIssue code)) =
    then_person_sets session (confirming caller.code slice.person tick) confirmed_done
    (λ issued. person_sets session issued.person issued.closing)
own_sets slice tick session caller (OnAccount (SetRoles code roles)) =
    then_person_sets session (setting_roles caller.code slice.person roles) roles_done
    (λ effect. person_sets session effect.person effect.closing)
own_sets slice tick session caller (OnAccount (Retire code)) =
    then_person_sets session (retiring caller.code slice.person) retired_done
    (λ effect. person_sets session effect.person effect.closing)
own_sets slice tick session caller (OnAccount (Unlock code)) =
    then_person_sets session (unlocking caller.code slice.person) unlocked_done
    (λ effect. person_sets session effect.person effect.closing)
own_sets slice tick session caller (OnRecord (MakeForm code form)) =
    then_done_sets session (making code form slice.form) form_done (λ made. inr refl)
own_sets slice tick session caller (OnRecord (OpenRecord form sample)) =
    then_done_sets session (opening_record slice.form slice.filed sample caller.code tick.moment
    slice.counts.records) record_done (λ kept. inr refl)
own_sets slice tick session caller (OnRecord (Enter number item reason)) =
    then_done_sets session (entering slice.code slice.filed item reason caller.code tick.moment)
    entry_done (λ made. inr refl)
own_sets slice tick session caller (OnRecord (Amend number reason altered)) =
    then_done_sets session (amending slice.code slice.filed reason altered caller.code tick.moment)
    amendment_done (λ made. inr refl)
own_sets slice tick session caller (OnRecord (Sign number version digest signing password code)) =
    wanted_sets (is_code_wanted session code) session CodeWanted
    (signing_done slice tick.moment session version digest signing
    (signing_attempt caller code password tick.moment))
    (signing_sets slice tick.moment session version digest signing
    (signing_attempt caller code password tick.moment))
own_sets slice tick session caller (Reading ReadPersons) = tt
own_sets slice tick session caller (Reading (ReadForm code version)) =
    then_read_sets session (reading_form slice.form) FormRead
own_sets slice tick session caller (Reading (ReadRecord number)) =
    then_read_sets session (reading_record slice.code slice.filed) RecordRead
own_sets slice tick session caller (Reading (ReadVersion number version)) =
    then_read_sets session (reading_version slice.code slice.filed version) VersionRead
own_sets slice tick session caller (Reading (ReadRecords from to)) = tt
own_sets slice tick session caller (Reading (ReadTrail from to)) = tt
own_sets slice tick session caller (Reading (TakeCopy from to)) = tt

-- ---- the end of a command

-- a row of the trail sets none
row_sets : (full : Bool) (row : TrailRow) (others : List Change)
    → list_any is_session_set others ≡ false
    → list_any is_session_set (cond full [] (TrailAdded row ∷ others)) ≡ false
row_sets true row others none = refl
row_sets false row others none = none

-- nor does a failed password
failure_sets : (rows strays moment : ℕ) (occasion : Occasion) (failure : Failure)
    → list_any is_session_set (failure_changes rows strays moment occasion failure) ≡ false
failure_sets rows strays moment occasion (Counted person) =
    row_sets (nat_le count_limit rows)
    (trail_row_of (rows + 1) moment (Some person.code) (Refuse occasion)) [] refl
failure_sets rows strays moment occasion (Locking person) =
    row_sets (nat_le count_limit rows)
    (trail_row_of (rows + 1) moment (Some person.code) (Refuse occasion))
    (trail_row_if_room (rows + 1) moment person.code (Lock person.code))
    (row_sets (nat_le count_limit (rows + 1))
    (trail_row_of (rows + 1 + 1) moment (Some person.code) (Lock person.code)) [] refl)
failure_sets rows strays moment occasion (AlreadyLocked person) =
    row_sets (nat_le count_limit rows)
    (trail_row_of (rows + 1) moment (Some person.code) (Refuse occasion)) [] refl
failure_sets rows strays moment occasion Stray = refl

told_sets : (session : Session) (own : List Change) (row : TrailRow) → SetsNoOther session own
    → SetsNoOther session (own ++ TrailAdded row ∷ [])
told_sets session own row (inl sets) = inl (record {
  persons = sets.persons;
  set = sets.set;
  rest = sets.rest ++ TrailAdded row ∷ [];
  is = ap (λ changes. changes ++ TrailAdded row ∷ []) sets.is
      ∙ append_assoc (map PersonSet sets.persons) (SessionSet sets.set ∷ sets.rest)
      (TrailAdded row ∷ []);
  same = sets.same;
})
told_sets session own row (inr none) =
    inr (list_any-append is_session_set own (TrailAdded row ∷ []) ∙ ap (λ any. any || false) none)

made_sets : (full : Bool) (session : Session) (reply refused : Reply) (own : List Change)
    (row : TrailRow) → SetsNoOther session own
    → SetsNoOther session
    (cond full (outcome refused []) (outcome reply (own ++ TrailAdded row ∷ []))).changes
made_sets true session reply refused own row sets = inr refl
made_sets false session reply refused own row sets = told_sets session own row sets

pub end_sets : (rows strays moment : ℕ) (person : List ℕ) (session : Session) (done : Done)
    → SetsNoOtherDone session done
    → SetsNoOther session (end_by rows strays moment person done).changes
end_sets rows strays moment person session (Refused refusal) sets = inr refl
end_sets rows strays moment person session (Failed occasion failure) sets =
    inr (failure_sets rows strays moment occasion failure)
end_sets rows strays moment person session (Read reply) sets = inr refl
end_sets rows strays moment person session (Made reply deed own) sets =
    made_sets (nat_le count_limit rows) session reply (ToldRefused (People LabFull)) own
    (trail_row_of (rows + 1) moment (Some person) deed) sets

-- ---- a session that is set, and then the one of the same token

again_case : (test : Bool) (first second one : Session) (others : List Session)
    → first.token ≡ second.token → bytes_eq one.token first.token ≡ test
    → with_session second (with_session first others) ≡ with_session second others
    → with_session second (cond test (first ∷ others) (one ∷ with_session first others))
    ≡ with_session second (one ∷ others)
again_case true first second one others same tested next =
    let own : bytes_eq first.token second.token ≡ true =
    ap (λ token. bytes_eq first.token token) (sym same) ∙ same_bytes first.token in
    let its : bytes_eq one.token second.token ≡ true =
    ap (λ token. bytes_eq one.token token) (sym same) ∙ tested in
    ap (λ test. cond test (second ∷ others) (first ∷ with_session second others)) own
    ∙ sym (ap (λ test. cond test (second ∷ others) (one ∷ with_session second others)) its)
again_case false first second one others same tested next =
    let its : bytes_eq one.token second.token ≡ false =
    ap (λ token. bytes_eq one.token token) (sym same) ∙ tested in
    ap (λ test. cond test (second ∷ with_session first others)
    (one ∷ with_session second (with_session first others))) its
    ∙ ap (λ rest. one ∷ rest) next
    ∙ sym (ap (λ test. cond test (second ∷ others) (one ∷ with_session second others)) its)

set_again : (first second : Session) (sessions : List Session) → first.token ≡ second.token
    → with_session second (with_session first sessions) ≡ with_session second sessions
set_again first second [] same = refl
set_again first second (one ∷ others) same =
    again_case (bytes_eq one.token first.token) first second one others same refl
    (set_again first second others same)

-- ---- a person who is set fits whatever the sessions are

known_beside : (lab : Lab) (sessions : List Session) (asker : Option (List ℕ))
    → IsKnownIfAny (record lab { sessions = sessions }) asker → IsKnownIfAny lab asker
known_beside lab sessions None known = tt
known_beside lab sessions (Some code) known = known

asked_beside : (lab : Lab) (sessions : List Session) (old new : Option Ask)
    → IsAskKnown (record lab { sessions = sessions }) old new → IsAskKnown lab old new
asked_beside lab sessions old new (inl same) = inl same
asked_beside lab sessions old None (inr known) = inr tt
asked_beside lab sessions old (Some ask) (inr known) = inr known

person_case : (found : Option Person) (lab : Lab) (sessions : List Session) (person : Person)
    → MatchOption found ⊥ (λ old. SamePerson old person
    × IsAskKnown (record lab { sessions = sessions }) old.ask person.ask)
    → MatchOption found ⊥ (λ old. SamePerson old person × IsAskKnown lab old.ask person.ask)
person_case None lab sessions person fits = absurd fits
person_case (Some old) lab sessions person fits =
    (fits.0, asked_beside lab sessions old.ask person.ask fits.1)

person_beside : (lab : Lab) (sessions : List Session) (person : Person)
    → Fits (record lab { sessions = sessions }) (PersonSet person) → Fits lab (PersonSet person)
person_beside lab sessions person fits =
    person_case (person_of lab.persons person.code) lab sessions person fits

-- ---- own changes that set the session

once_after : (persons : List Person) (lab : Lab) (moment : ℕ) (session set : Session)
    (rest : List Change)
    → session_of lab.sessions session.token ≡ Some session
    → SameSession (touched_session moment session) set
    → BecomesWhere (AllFit (change lab (SessionSet (touched_session moment session)))
    (map PersonSet persons ++ SessionSet set ∷ rest)) lab
    (map PersonSet persons ++ SessionSet set ∷ rest)
    (changed (change lab (SessionSet (touched_session moment session)))
    (map PersonSet persons ++ SessionSet set ∷ rest))
once_after [] lab moment session set rest found same =
    let again : with_session set (with_session (touched_session moment session) lab.sessions)
    ≡ with_session set lab.sessions =
    set_again (touched_session moment session) set lab.sessions (sym same.token) in
    record {
      fits = λ fit. (
        session_fits lab set session
            (subst (λ token. session_of lab.sessions token ≡ Some session) (sym same.token) found)
            (record {
              number = same.number;
              person = same.person;
              token = same.token;
              opened = same.opened;
            }),
        subst (λ sessions. AllFit (record lab { sessions = sessions }) rest) again fit.1,
      );
      comes = ap (λ sessions. changed (record lab { sessions = sessions }) rest) (sym again);
    }
once_after (person ∷ others) lab moment session set rest found same =
    let sessions = with_session (touched_session moment session) lab.sessions in
    let next = once_after others (change lab (PersonSet person)) moment session set rest found same
    in record {
      fits = λ fit. (person_beside lab sessions person fit.0, next.fits fit.1);
      comes = next.comes;
    }

pub once_is : (lab : Lab) (moment : ℕ) (session : Session) (own : List Change)
    → session_of lab.sessions session.token ≡ Some session
    → SetsSession (touched_session moment session) own
    → BecomesWhere (AllFit (change lab (SessionSet (touched_session moment session))) own) lab own
    (changed (change lab (SessionSet (touched_session moment session))) own)
once_is lab moment session own found sets =
    subst (λ changes. BecomesWhere
    (AllFit (change lab (SessionSet (touched_session moment session))) changes) lab changes
    (changed (change lab (SessionSet (touched_session moment session))) changes)) (sym sets.is)
    (once_after sets.persons lab moment session sets.set sets.rest found sets.same)
