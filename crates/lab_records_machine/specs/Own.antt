-- Each command's own case: what its rule says of what was looked up, and what that makes of the
-- laboratory. The rules of persons are those of lab_people_access and lab_people; nothing of them is said
-- here again.
use Rattle.std.specs.Prelude.{ℕ, Some, List, [], ◌∷◌, ◌++◌, length, map, Result, Ok, Err, if◌then◌else◌}
use Rattle.lab_forms_texts.specs.declared.tick.Tick.{Tick}
use Rattle.lab_people_access.specs.declared.persons.Person.{Person}
use Rattle.lab_people_access.specs.declared.sessions.Session.{Session}
use Rattle.lab_people_access.specs.declared.sessions.Closing.{Closing}
use Rattle.lab_people_access.specs.declared.openings.Opened.{Opened}
use Rattle.lab_people_access.specs.declared.refusals.Failure.{Failure}
use Rattle.lab_people_access.specs.declared.refusals.PeopleFault.{PeopleFault}
use Rattle.lab_people_access.specs.declared.refusals.PeopleFault.TheVariants.{Failed, Refused as IsRefused}
use Rattle.lab_people_access.specs.declared.refusals.PeopleRefusal.{PeopleRefusal}
use Rattle.lab_people_access.specs.Attempts.{signing_attempt}
use Rattle.lab_people_access.specs.Openings.{opening, token_digest}
use Rattle.lab_people_access.specs.Sessions.{closed_session, signed_session, sessions_after}
use Rattle.lab_people.specs.declared.accounts.PasswordChanged.{PasswordChanged}
use Rattle.lab_people.specs.declared.accounts.Effect.{Effect}
use Rattle.lab_people.specs.declared.issues.Issued.{Issued}
use Rattle.lab_people.specs.Accounts.{changing, enrolling, setting_roles, retiring, unlocking}
use Rattle.lab_people.specs.Issues.{asking, confirming}
use Rattle.lab_records_kept.specs.declared.labs.Lab.{Lab}
use Rattle.lab_records_kept.specs.declared.records.FormVersion.{FormVersion}
use Rattle.lab_records_kept.specs.declared.records.Record.{Record}
use Rattle.lab_records_kept.specs.declared.trails.Deed.TheVariants.{Open as OpenDeed, Close as CloseDeed, Password as PasswordDeed, Enrol as EnrolDeed, Issue as IssueDeed, Confirm as ConfirmDeed, Roles as RolesDeed, Retire as RetireDeed, Unlock as UnlockDeed, Form as FormDeed, Record as RecordDeed, Entry as EntryDeed, Amend as AmendDeed, Sign as SignDeed}
use Rattle.lab_records_kept.specs.declared.trails.Occasion.TheVariants.{Opening, Changing, Signing as AtSigning}
use Rattle.lab_records_kept.specs.Lookups.{last_form, exact_form, record_of, record_about}
use Rattle.lab_records_kept.specs.Lookups.{person_at, session_at, records_within, rows_within}
use Rattle.lab_records_copies.specs.declared.orders.CopyOrder.{CopyOrder}
use Rattle.lab_records_copies.specs.CopyLines.{copy_of}
use Rattle.lab_records_kept.specs.Changes.{with_person, with_session, added_person, added_form, in_record, entered_in, opened_in, signed_in}
use Rattle.lab_records_rules.specs.declared.outcomes.Signing.{Signing}
use Rattle.lab_records_machine.specs.declared.commands.SessionCommand.{SessionCommand}
use Rattle.lab_records_machine.specs.declared.commands.SessionCommand.TheVariants.{OnAccount, OnRecord, Reading}
use Rattle.lab_records_machine.specs.declared.commands.AccountCommand.{AccountCommand}
use Rattle.lab_records_machine.specs.declared.commands.AccountCommand.TheVariants.{Close, ChangePassword, Enrol, AskIssue, ConfirmIssue, SetRoles, Retire, Unlock}
use Rattle.lab_records_machine.specs.declared.commands.RecordCommand.{RecordCommand}
use Rattle.lab_records_machine.specs.declared.commands.RecordCommand.TheVariants.{MakeForm, OpenRecord, Enter, Amend, Sign}
use Rattle.lab_records_machine.specs.declared.commands.ReadingCommand.{ReadingCommand}
use Rattle.lab_records_machine.specs.declared.commands.ReadingCommand.TheVariants.{ReadPersons, ReadForm, ReadRecord, ReadVersion, ReadRecords, ReadTrail, TakeCopy}
use Rattle.lab_records_rules.specs.declared.refusals.Refusal.{Refusal}
use Rattle.lab_records_rules.specs.declared.refusals.Refusal.TheVariants.{People, CodeWanted}
use Rattle.lab_records_machine.specs.declared.replies.Reply.{Reply}
use Rattle.lab_records_machine.specs.declared.replies.Reply.TheVariants.{Opened as TellsOpened, Closed, PasswordChanged as TellsChanged, PersonDone, HalfTold, RolesSet, Persons, FormMade, FormRead, RecordRead, VersionRead, RecordOpened, Entered, Amended, Signed as TellsSigned, Records, Trail, Copied}
use Rattle.lab_records_rules.specs.declared.outcomes.EntryMade.{EntryMade}
use Rattle.lab_records_rules.specs.declared.outcomes.AmendmentMade.{AmendmentMade}
use Rattle.lab_records_rules.specs.declared.outcomes.SignatureMade.{SignatureMade}
use Rattle.lab_records_rules.specs.Making.{making, opening_record}
use Rattle.lab_records_versions.specs.Entering.{entering, amending}
use Rattle.lab_records_versions.specs.Signing.{is_code_wanted, signing_record}
use Rattle.lab_records_rules.specs.Reading.{reading_form, reading_record, reading_version, record_line, person_line}
use Rattle.lab_records_machine.specs.Cases.{Case, Refuses, Fails, Reads, Makes}

-- what follows a rule: its refusal, or what it gives
abbrev pub then_case : {A : Type 0} → Result A Refusal → (A → Case) → Case
then_case (Err refusal) next = Refuses refusal
then_case (Ok value) next = next value

-- what follows a rule on persons: its refusal, or what it gives
abbrev pub then_person : {A : Type 0} → Result A PeopleRefusal → (A → Case) → Case
then_person (Err refusal) next = Refuses (People refusal)
then_person (Ok value) next = next value

-- what is read
abbrev pub then_read : {A : Type 0} → Result A Refusal → (A → Reply) → Case
then_read (Err refusal) reply = Refuses refusal
then_read (Ok found) reply = Reads (reply found)

-- ---- sessions

-- a session is opened: its person has no failed password any more
abbrev pub with_opened : Lab → Opened → Lab
with_opened lab opened = record lab {
  persons = with_person opened.person lab.persons;
  sessions = lab.sessions ++ opened.session ∷ [];
}

abbrev pub opened_case : Lab → Result Opened PeopleFault → Case
opened_case lab (Err (Failed failure)) = Fails Opening failure
opened_case lab (Err (IsRefused refusal)) = Refuses (People refusal)
opened_case lab (Ok opened) =
    Makes (TellsOpened opened.session.number opened.token opened.due)
    (OpenDeed opened.session.number) (with_opened lab opened)

abbrev pub opening_case : Lab → Tick → List ℕ → List ℕ → Case
opening_case lab tick code password =
    opened_case lab (opening code (person_at lab code) password tick (length lab.sessions)
    (session_at lab (token_digest tick)))

-- a session is closed by its person
abbrev pub closing_case : Lab → Session → Case
closing_case lab session =
    Makes (Closed session.number) (CloseDeed session.number)
    (record lab { sessions = with_session (closed_session session) lab.sessions })

-- ---- accounts

-- the own password: the person's other sessions are closed, and this one is as before its first
-- signature
abbrev pub with_changed : Lab → PasswordChanged → Lab
with_changed lab changed = record lab {
  persons = with_person changed.person lab.persons;
  sessions = sessions_after changed.closing changed.person.code
      (with_session changed.session lab.sessions);
}

abbrev pub changed_case : Lab → ℕ → Result PasswordChanged PeopleFault → Case
changed_case lab moment (Err (Failed failure)) = Fails Changing failure
changed_case lab moment (Err (IsRefused refusal)) = Refuses (People refusal)
changed_case lab moment (Ok changed) =
    Makes (TellsChanged moment) (PasswordDeed changed.person.code) (with_changed lab changed)

-- a person is enrolled
abbrev pub enrolled_case : Lab → Person → Case
enrolled_case lab person =
    Makes (PersonDone person.code) (EnrolDeed person.code person.roles)
    (record lab { persons = added_person person lab.persons })

-- what an administrator does to an account, and which of its sessions are closed
abbrev pub with_person_closed : Lab → Person → Closing → Lab
with_person_closed lab person closing = record lab {
  persons = with_person person lab.persons;
  sessions = sessions_after closing person.code lab.sessions;
}

-- half of a one-time password is told to who asks for it, and the other to who confirms it
abbrev pub asked_case : Lab → Issued → Case
asked_case lab issued =
    Makes (HalfTold issued.half) (IssueDeed issued.person.code)
    (with_person_closed lab issued.person issued.closing)

abbrev pub confirmed_case : Lab → Issued → Case
confirmed_case lab issued =
    Makes (HalfTold issued.half) (ConfirmDeed issued.person.code)
    (with_person_closed lab issued.person issued.closing)

-- other roles, a person who left, and a lock that is taken away
abbrev pub roles_case : Lab → Effect → Case
roles_case lab effect =
    Makes (RolesSet effect.person.code effect.person.roles)
    (RolesDeed effect.person.code effect.person.roles)
    (with_person_closed lab effect.person effect.closing)

abbrev pub retired_case : Lab → Effect → Case
retired_case lab effect =
    Makes (PersonDone effect.person.code) (RetireDeed effect.person.code)
    (with_person_closed lab effect.person effect.closing)

abbrev pub unlocked_case : Lab → Effect → Case
unlocked_case lab effect =
    Makes (PersonDone effect.person.code) (UnlockDeed effect.person.code)
    (with_person_closed lab effect.person effect.closing)

-- ---- records

abbrev pub form_case : Lab → FormVersion → Case
form_case lab form =
    Makes (FormMade form.code form.version) (FormDeed form.code form.version)
    (record lab { forms = added_form form lab.forms })

abbrev pub record_case : Lab → Record → Case
record_case lab kept =
    Makes (RecordOpened kept.number 1) (RecordDeed kept.number)
    (record lab { records = lab.records ++ kept ∷ [] })

abbrev pub entry_case : Lab → EntryMade → Case
entry_case lab made =
    Makes (Entered made.number made.version made.rows made.digest)
    (EntryDeed made.number made.version made.row.key)
    (record lab { records = in_record made.number (entered_in made.row) lab.records })

abbrev pub amendment_case : Lab → AmendmentMade → Case
amendment_case lab made =
    Makes (Amended made.number made.version.origin.number made.digest)
    (AmendDeed made.number made.version.origin.number)
    (record lab { records = in_record made.number (opened_in made.version) lab.records })

-- a signature: the signer has no failed password any more, and the session bears the mark
abbrev pub with_signed : Lab → Session → Person → SignatureMade → Lab
with_signed lab session person made = record lab {
  persons = with_person person lab.persons;
  sessions = with_session (signed_session session) lab.sessions;
  records = in_record made.number (signed_in made.version made.signature) lab.records;
}

abbrev pub signature_case : Lab → Session → Person → SignatureMade → Case
signature_case lab session person made =
    Makes (TellsSigned made.signature made.state)
    (SignDeed made.number made.version made.signature.meaning)
    (with_signed lab session person made)

-- what follows the password of a signing
abbrev pub signing_by : Lab → ℕ → Session → ℕ → ℕ → List ℕ → Signing → Result Person Failure → Case
signing_by lab moment session number version digest signing (Err failure) = Fails AtSigning failure
signing_by lab moment session number version digest signing (Ok person) =
    then_case (signing_record lab.code (record_of lab.records number) version digest signing person
    moment) (signature_case lab session person)

-- ---- copies

-- of which records the copy is asked for, by whom and when
abbrev pub copy_order : ℕ → ℕ → List ℕ → ℕ → CopyOrder
copy_order from to person moment =
    record { from = from; to = to; person = Some person; moment = moment }

-- ---- each command

-- on a session or an account
unfoldable pub own_on_account : Lab → Tick → Session → Person → AccountCommand → Case
own_on_account lab tick session caller Close = closing_case lab session
own_on_account lab tick session caller (ChangePassword old new) =
    changed_case lab tick.moment (changing caller session old new tick)
own_on_account lab tick session caller (Enrol code name roles) =
    then_person (enrolling code name roles (person_at lab code) (length lab.persons))
    (enrolled_case lab)
own_on_account lab tick session caller (AskIssue code) =
    then_person (asking caller.code (person_at lab code) tick) (asked_case lab)
own_on_account lab tick session caller (ConfirmIssue code) =
    then_person (confirming caller.code (person_at lab code) tick) (confirmed_case lab)
own_on_account lab tick session caller (SetRoles code roles) =
    then_person (setting_roles caller.code (person_at lab code) roles) (roles_case lab)
own_on_account lab tick session caller (Retire code) =
    then_person (retiring caller.code (person_at lab code)) (retired_case lab)
own_on_account lab tick session caller (Unlock code) =
    then_person (unlocking caller.code (person_at lab code)) (unlocked_case lab)

-- on forms and records
unfoldable pub own_on_record : Lab → Tick → Session → Person → RecordCommand → Case
own_on_record lab tick session caller (MakeForm code form) =
    then_case (making code form (last_form lab.forms code)) (form_case lab)
own_on_record lab tick session caller (OpenRecord form sample) =
    then_case (opening_record (last_form lab.forms form) (record_about lab.records form sample)
    sample caller.code tick.moment (length lab.records)) (record_case lab)
own_on_record lab tick session caller (Enter number item reason) =
    then_case (entering lab.code (record_of lab.records number) item reason caller.code tick.moment)
    (entry_case lab)
own_on_record lab tick session caller (Amend number reason altered) =
    then_case (amending lab.code (record_of lab.records number) reason altered caller.code
    tick.moment) (amendment_case lab)
own_on_record lab tick session caller (Sign number version digest signing password code) =
    if is_code_wanted session code then Refuses CodeWanted
    else signing_by lab tick.moment session number version digest signing
    (signing_attempt caller code password tick.moment)

-- where it only reads
unfoldable pub own_reading : Lab → Tick → Person → ReadingCommand → Case
own_reading lab tick caller ReadPersons =
    Reads (Persons (map (person_line tick.moment) lab.persons))
own_reading lab tick caller (ReadForm code version) =
    then_read (reading_form (exact_form lab.forms code version)) FormRead
own_reading lab tick caller (ReadRecord number) =
    then_read (reading_record lab.code (record_of lab.records number)) RecordRead
own_reading lab tick caller (ReadVersion number version) =
    then_read (reading_version lab.code (record_of lab.records number) version) VersionRead
own_reading lab tick caller (ReadRecords from to) =
    Reads (Records (map record_line (records_within from to lab.records)))
own_reading lab tick caller (ReadTrail from to) = Reads (Trail (rows_within from to lab.trail))
own_reading lab tick caller (TakeCopy from to) =
    Reads (Copied (copy_of lab (copy_order from to caller.code tick.moment)))

-- in a session
abbrev pub own : Lab → Tick → Session → Person → SessionCommand → Case
own lab tick session caller (OnAccount command) = own_on_account lab tick session caller command
own lab tick session caller (OnRecord command) = own_on_record lab tick session caller command
own lab tick session caller (Reading command) = own_reading lab tick caller command
