-- Each command: what it comes to on the part is its own case on the laboratory after the request.
use Rattle.std.proofs.Common.{◌≡◌, ℕ, List, length, Option, Result, Ok, Err, refl}
use Rattle.lab_forms_texts.specs.declared.tick.Tick.{Tick}
use Rattle.lab_people_access.specs.declared.persons.Person.{Person}
use Rattle.lab_people_access.specs.declared.sessions.Session.{Session}
use Rattle.lab_people_access.specs.declared.refusals.Failure.{Failure}
use Rattle.lab_people_access.specs.Attempts.{signing_attempt}
use Rattle.lab_people.specs.Accounts.{changing, enrolling, setting_roles, retiring, unlocking}
use Rattle.lab_people.specs.Issues.{asking, confirming}
use Rattle.lab_records_kept.specs.declared.labs.Lab.{Lab}
use Rattle.lab_records_kept.specs.declared.trails.Deed.TheVariants.{Issue as IssueDeed, Confirm as ConfirmDeed, Roles as RolesDeed, Retire as RetireDeed, Unlock as UnlockDeed}
use Rattle.lab_records_kept.specs.Lookups.{last_form, exact_form, record_of, record_about, person_at}
use Rattle.lab_records_rules.specs.declared.outcomes.Signing.{Signing}
use Rattle.lab_records_rules.specs.declared.refusals.Refusal.TheVariants.{CodeWanted}
use Rattle.lab_records_rules.specs.Making.{making, opening_record}
use Rattle.lab_records_versions.specs.Entering.{entering, amending}
use Rattle.lab_records_rules.specs.Reading.{reading_form, reading_record, reading_version}
use Rattle.lab_records_versions.specs.Signing.{is_code_wanted, signing_record}
use Rattle.lab_records_machine.specs.declared.commands.Command.TheVariants.{In}
use Rattle.lab_records_machine.specs.declared.commands.SessionCommand.{SessionCommand}
use Rattle.lab_records_machine.specs.declared.commands.SessionCommand.TheVariants.{OnAccount, OnRecord, Reading}
use Rattle.lab_records_machine.specs.declared.commands.AccountCommand.TheVariants.{Close, ChangePassword, Enrol, AskIssue, ConfirmIssue, SetRoles, Retire, Unlock}
use Rattle.lab_records_machine.specs.declared.commands.RecordCommand.TheVariants.{MakeForm, OpenRecord, Enter, Amend, Sign}
use Rattle.lab_records_machine.specs.declared.commands.ReadingCommand.TheVariants.{ReadPersons, ReadForm, ReadRecord, ReadVersion, ReadRecords, ReadTrail, TakeCopy}
use Rattle.lab_records_machine.specs.declared.replies.Reply.TheVariants.{HalfTold, RolesSet, PersonDone, FormRead, RecordRead, VersionRead}
use Rattle.lab_records_machine.specs.Own.{own_on_account, own_on_record, own_reading, own, enrolled_case, asked_case, confirmed_case, roles_case, retired_case, unlocked_case, form_case, record_case, entry_case, amendment_case, signature_case, signing_by}
use Rattle.lab_records_machine.specs.Machine.{touched}
use Rattle.lab_records_machine.specs.Done.{done_on_account, done_on_record, done_reading, done_of, enrolled_done, asked_done, confirmed_done, roles_done, retired_done, unlocked_done, form_done, record_done, entry_done, amendment_done, signature_done, signing_done}
use Rattle.lab_records_laws.proofs.OwnCases.{case_of, slice_for, then_case_is, then_person_is, then_read_is, wanted_is, person_is, changed_is}

-- what follows the password of a signing
signing_is : (lab : Lab) (digest : Option (List ℕ)) (old : Session) (moment : ℕ) (session : Session)
    (number version : ℕ) (text : List ℕ) (signing : Signing) (password : List ℕ)
    (code : Option (List ℕ)) (result : Result Person Failure)
    → signing_by (touched lab moment old) moment session number version text signing result
    ≡ case_of (touched lab moment old)
    (signing_done (slice_for lab digest (In (OnRecord (Sign number version text signing password code)))) moment
    session version text signing result)
signing_is lab digest old moment session number version text signing password code (Err failure) =
    refl
signing_is lab digest old moment session number version text signing password code (Ok person) =
    let now = touched lab moment old in
    then_case_is now
    (signing_record lab.code (record_of lab.records number) version text signing person moment)
    (signature_case now session person) (signature_done session person) (λ made. refl)

pub own_is : (lab : Lab) (digest : Option (List ℕ)) (old : Session) (tick : Tick)
    (session : Session) (caller : Person) (command : SessionCommand)
    → own (touched lab tick.moment old) tick session caller command
    ≡ case_of (touched lab tick.moment old)
    (done_of (slice_for lab digest (In command)) tick session caller command)
unfolding own_on_account own_on_record own_reading done_on_account done_on_record done_reading
own_is lab digest old tick session caller (OnAccount Close) = refl
own_is lab digest old tick session caller (OnAccount (ChangePassword before after)) =
    changed_is (touched lab tick.moment old) tick.moment (changing caller session before after tick)
own_is lab digest old tick session caller (OnAccount (Enrol code name roles)) =
    let now = touched lab tick.moment old in
    then_person_is now (enrolling code name roles (person_at lab code) (length lab.persons))
    (enrolled_case now) enrolled_done (λ person. refl)
own_is lab digest old tick session caller (Reading ReadPersons) = refl
own_is lab digest old tick session caller (OnAccount (AskIssue code)) =
    let now = touched lab tick.moment old in
    then_person_is now (asking caller.code (person_at lab code) tick) (asked_case now) asked_done
    (λ issued. person_is now (HalfTold issued.half) (IssueDeed issued.person.code) issued.person
    issued.closing)
own_is lab digest old tick session caller (OnAccount (ConfirmIssue code)) =
    let now = touched lab tick.moment old in
    then_person_is now (confirming caller.code (person_at lab code) tick) (confirmed_case now)
    confirmed_done
    (λ issued. person_is now (HalfTold issued.half) (ConfirmDeed issued.person.code) issued.person
    issued.closing)
own_is lab digest old tick session caller (OnAccount (SetRoles code roles)) =
    let now = touched lab tick.moment old in
    then_person_is now (setting_roles caller.code (person_at lab code) roles) (roles_case now)
    roles_done
    (λ effect. person_is now (RolesSet effect.person.code effect.person.roles)
    (RolesDeed effect.person.code effect.person.roles) effect.person effect.closing)
own_is lab digest old tick session caller (OnAccount (Retire code)) =
    let now = touched lab tick.moment old in
    then_person_is now (retiring caller.code (person_at lab code)) (retired_case now) retired_done
    (λ effect. person_is now (PersonDone effect.person.code) (RetireDeed effect.person.code)
    effect.person effect.closing)
own_is lab digest old tick session caller (OnAccount (Unlock code)) =
    let now = touched lab tick.moment old in
    then_person_is now (unlocking caller.code (person_at lab code)) (unlocked_case now)
    unlocked_done
    (λ effect. person_is now (PersonDone effect.person.code) (UnlockDeed effect.person.code)
    effect.person effect.closing)
own_is lab digest old tick session caller (OnRecord (MakeForm code form)) =
    let now = touched lab tick.moment old in
    then_case_is now (making code form (last_form lab.forms code)) (form_case now) form_done
    (λ made. refl)
own_is lab digest old tick session caller (Reading (ReadForm code version)) =
    then_read_is (touched lab tick.moment old) (reading_form (exact_form lab.forms code version))
    FormRead
own_is lab digest old tick session caller (OnRecord (OpenRecord form sample)) =
    let now = touched lab tick.moment old in
    then_case_is now (opening_record (last_form lab.forms form)
    (record_about lab.records form sample) sample caller.code tick.moment (length lab.records))
    (record_case now) record_done (λ kept. refl)
own_is lab digest old tick session caller (OnRecord (Enter number item reason)) =
    let now = touched lab tick.moment old in
    then_case_is now
    (entering lab.code (record_of lab.records number) item reason caller.code tick.moment)
    (entry_case now) entry_done (λ made. refl)
own_is lab digest old tick session caller (OnRecord (Amend number reason altered)) =
    let now = touched lab tick.moment old in
    then_case_is now
    (amending lab.code (record_of lab.records number) reason altered caller.code tick.moment)
    (amendment_case now) amendment_done (λ made. refl)
own_is lab digest old tick session caller (OnRecord (Sign number version text signing password code)) =
    let now = touched lab tick.moment old in
    let result = signing_attempt caller code password tick.moment in
    wanted_is (is_code_wanted session code) now CodeWanted
    (signing_by now tick.moment session number version text signing result)
    (signing_done (slice_for lab digest (In (OnRecord (Sign number version text signing password code))))
    tick.moment session version text signing result)
    (signing_is lab digest old tick.moment session number version text signing password code result)
own_is lab digest old tick session caller (Reading (ReadRecord number)) =
    then_read_is (touched lab tick.moment old)
    (reading_record lab.code (record_of lab.records number)) RecordRead
own_is lab digest old tick session caller (Reading (ReadVersion number version)) =
    then_read_is (touched lab tick.moment old)
    (reading_version lab.code (record_of lab.records number) version) VersionRead
own_is lab digest old tick session caller (Reading (ReadRecords from to)) = refl
own_is lab digest old tick session caller (Reading (ReadTrail from to)) = refl
own_is lab digest old tick session caller (Reading (TakeCopy from to)) = refl
