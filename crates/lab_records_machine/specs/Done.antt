-- What each command comes to by its own case, on the part of a laboratory that it needs: a refusal,
-- a failed password, something read, or something made (a reply, what the trail tells, changes).
-- `Done` is to a part what `Case` of lab_records_machine is to the whole laboratory.
use Rattle.std.specs.Prelude.{ℕ, List, [], ◌∷◌, map, Result, Ok, Err, if◌then◌else◌}
use Rattle.lab_forms_texts.specs.declared.tick.Tick.{Tick}
use Rattle.lab_people_access.specs.declared.persons.Person.{Person}
use Rattle.lab_people_access.specs.declared.sessions.Session.{Session}
use Rattle.lab_people_access.specs.declared.sessions.Closing.{Closing}
use Rattle.lab_people_access.specs.declared.sessions.Closing.TheVariants.{Nothing}
use Rattle.lab_people_access.specs.declared.openings.Opened.{Opened}
use Rattle.lab_people_access.specs.declared.refusals.Failure.{Failure}
use Rattle.lab_people_access.specs.declared.refusals.PeopleFault.{PeopleFault}
use Rattle.lab_people_access.specs.declared.refusals.PeopleFault.TheVariants.{Failed as HasFailed, Refused as IsRefused}
use Rattle.lab_people_access.specs.declared.refusals.PeopleRefusal.{PeopleRefusal}
use Rattle.lab_people_access.specs.Attempts.{signing_attempt}
use Rattle.lab_people_access.specs.Sessions.{closed_session, signed_session}
use Rattle.lab_people.specs.declared.accounts.PasswordChanged.{PasswordChanged}
use Rattle.lab_people.specs.declared.accounts.Effect.{Effect}
use Rattle.lab_people.specs.declared.issues.Issued.{Issued}
use Rattle.lab_people.specs.Accounts.{changing, enrolling, setting_roles, retiring, unlocking}
use Rattle.lab_people.specs.Issues.{asking, confirming}
use Rattle.lab_records_copies.specs.CopyLines.{copy_rows}
use Rattle.lab_records_kept.specs.declared.needs.Slice.{Slice}
use Rattle.lab_records_kept.specs.declared.changes.Change.{Change}
use Rattle.lab_records_kept.specs.declared.changes.Change.TheVariants.{PersonAdded, PersonSet, SessionAdded, SessionSet, SessionsClosed, FormAdded, RecordAdded, RowAdded, VersionOpened, SignatureAdded}
use Rattle.lab_records_kept.specs.declared.records.FormVersion.{FormVersion}
use Rattle.lab_records_kept.specs.declared.records.Record.{Record}
use Rattle.lab_records_kept.specs.declared.trails.Deed.TheVariants.{Open as OpenDeed, Close as CloseDeed, Password as PasswordDeed, Enrol as EnrolDeed, Issue as IssueDeed, Confirm as ConfirmDeed, Roles as RolesDeed, Retire as RetireDeed, Unlock as UnlockDeed, Form as FormDeed, Record as RecordDeed, Entry as EntryDeed, Amend as AmendDeed, Sign as SignDeed}
use Rattle.lab_records_kept.specs.declared.trails.Occasion.TheVariants.{Opening, Changing, Signing as AtSigning}
use Rattle.lab_records_rules.specs.declared.outcomes.Signing.{Signing}
use Rattle.lab_records_rules.specs.declared.outcomes.EntryMade.{EntryMade}
use Rattle.lab_records_rules.specs.declared.outcomes.AmendmentMade.{AmendmentMade}
use Rattle.lab_records_rules.specs.declared.outcomes.SignatureMade.{SignatureMade}
use Rattle.lab_records_rules.specs.declared.refusals.Refusal.{Refusal}
use Rattle.lab_records_rules.specs.declared.refusals.Refusal.TheVariants.{People, CodeWanted}
use Rattle.lab_records_rules.specs.Making.{making, opening_record}
use Rattle.lab_records_versions.specs.Entering.{entering, amending}
use Rattle.lab_records_versions.specs.Signing.{is_code_wanted, signing_record}
use Rattle.lab_records_rules.specs.Reading.{reading_form, reading_record, reading_version, record_line, person_line}
use Rattle.lab_records_machine.specs.declared.commands.SessionCommand.{SessionCommand}
use Rattle.lab_records_machine.specs.declared.commands.SessionCommand.TheVariants.{OnAccount, OnRecord, Reading}
use Rattle.lab_records_machine.specs.declared.commands.AccountCommand.{AccountCommand}
use Rattle.lab_records_machine.specs.declared.commands.AccountCommand.TheVariants.{Close, ChangePassword, Enrol, AskIssue, ConfirmIssue, SetRoles, Retire, Unlock}
use Rattle.lab_records_machine.specs.declared.commands.RecordCommand.{RecordCommand}
use Rattle.lab_records_machine.specs.declared.commands.RecordCommand.TheVariants.{MakeForm, OpenRecord, Enter, Amend, Sign}
use Rattle.lab_records_machine.specs.declared.commands.ReadingCommand.{ReadingCommand}
use Rattle.lab_records_machine.specs.declared.commands.ReadingCommand.TheVariants.{ReadPersons, ReadForm, ReadRecord, ReadVersion, ReadRecords, ReadTrail, TakeCopy}
use Rattle.lab_records_machine.specs.declared.replies.Reply.{Reply}
use Rattle.lab_records_machine.specs.declared.replies.Reply.TheVariants.{Opened as TellsOpened, Closed, PasswordChanged as TellsChanged, PersonDone, HalfTold, RolesSet, Persons, FormMade, FormRead, RecordOpened, Entered, Amended, Signed as TellsSigned, RecordRead, VersionRead, Records, Trail, Copied}
use Rattle.lab_records_machine.specs.Own.{copy_order}
use Rattle.lab_records_machine.specs.declared.done.Done.{Done}
use Rattle.lab_records_machine.specs.declared.done.Done.TheVariants.{Refused, Failed, Read, Made}

-- ---- what each command comes to by its own case

-- what follows a rule: its refusal, or what it gives
abbrev pub then_done : {A : Type 0} → Result A Refusal → (A → Done) → Done
then_done (Err refusal) next = Refused refusal
then_done (Ok value) next = next value

-- what follows a rule on persons: its refusal, or what it gives
abbrev pub then_person_done : {A : Type 0} → Result A PeopleRefusal → (A → Done) → Done
then_person_done (Err refusal) next = Refused (People refusal)
then_person_done (Ok value) next = next value

-- what is read
abbrev pub then_read_done : {A : Type 0} → Result A Refusal → (A → Reply) → Done
then_read_done (Err refusal) reply = Refused refusal
then_read_done (Ok found) reply = Read (reply found)

-- sessions

abbrev pub opened_done : Result Opened PeopleFault → Done
opened_done (Err (HasFailed failure)) = Failed Opening failure
opened_done (Err (IsRefused refusal)) = Refused (People refusal)
opened_done (Ok opened) =
    Made (TellsOpened opened.session.number opened.token opened.due)
    (OpenDeed opened.session.number)
    (PersonSet opened.person ∷ SessionAdded opened.session ∷ [])

abbrev pub closed_done : Session → Done
closed_done session =
    Made (Closed session.number) (CloseDeed session.number)
    (SessionSet (closed_session session) ∷ [])

-- accounts

abbrev pub changed_done : ℕ → Result PasswordChanged PeopleFault → Done
changed_done moment (Err (HasFailed failure)) = Failed Changing failure
changed_done moment (Err (IsRefused refusal)) = Refused (People refusal)
changed_done moment (Ok changed) =
    Made (TellsChanged moment) (PasswordDeed changed.person.code)
    (PersonSet changed.person ∷ SessionSet changed.session
    ∷ SessionsClosed changed.person.code changed.closing ∷ [])

abbrev pub enrolled_done : Person → Done
enrolled_done person =
    Made (PersonDone person.code) (EnrolDeed person.code person.roles) (PersonAdded person ∷ [])

-- an account is set, and its sessions are closed, where some are to be
abbrev pub person_changes : Person → Closing → List Change
person_changes person Nothing = PersonSet person ∷ []
person_changes person closing = PersonSet person ∷ SessionsClosed person.code closing ∷ []

abbrev pub asked_done : Issued → Done
asked_done issued =
    Made (HalfTold issued.half) (IssueDeed issued.person.code)
    (person_changes issued.person issued.closing)

abbrev pub confirmed_done : Issued → Done
confirmed_done issued =
    Made (HalfTold issued.half) (ConfirmDeed issued.person.code)
    (person_changes issued.person issued.closing)

abbrev pub roles_done : Effect → Done
roles_done effect =
    Made (RolesSet effect.person.code effect.person.roles)
    (RolesDeed effect.person.code effect.person.roles)
    (person_changes effect.person effect.closing)

abbrev pub retired_done : Effect → Done
retired_done effect =
    Made (PersonDone effect.person.code) (RetireDeed effect.person.code)
    (person_changes effect.person effect.closing)

abbrev pub unlocked_done : Effect → Done
unlocked_done effect =
    Made (PersonDone effect.person.code) (UnlockDeed effect.person.code)
    (person_changes effect.person effect.closing)

-- records

abbrev pub form_done : FormVersion → Done
form_done form =
    Made (FormMade form.code form.version) (FormDeed form.code form.version) (FormAdded form ∷ [])

abbrev pub record_done : Record → Done
record_done kept =
    Made (RecordOpened kept.number 1) (RecordDeed kept.number) (RecordAdded kept ∷ [])

abbrev pub entry_done : EntryMade → Done
entry_done made =
    Made (Entered made.number made.version made.rows made.digest)
    (EntryDeed made.number made.version made.row.key) (RowAdded made.number made.row ∷ [])

abbrev pub amendment_done : AmendmentMade → Done
amendment_done made =
    Made (Amended made.number made.version.origin.number made.digest)
    (AmendDeed made.number made.version.origin.number)
    (VersionOpened made.number made.version ∷ [])

abbrev pub signature_done : Session → Person → SignatureMade → Done
signature_done session person made =
    Made (TellsSigned made.signature made.state)
    (SignDeed made.number made.version made.signature.meaning)
    (PersonSet person ∷ SessionSet (signed_session session)
    ∷ SignatureAdded made.number made.version made.signature ∷ [])

-- what follows the password of a signing
abbrev pub signing_done : Slice → ℕ → Session → ℕ → List ℕ → Signing → Result Person Failure
    → Done
signing_done slice moment session version digest signing (Err failure) = Failed AtSigning failure
signing_done slice moment session version digest signing (Ok person) =
    then_done (signing_record slice.code slice.filed version digest signing person moment)
    (signature_done session person)

-- Each command.

-- on a session or an account
unfoldable pub done_on_account : Slice → Tick → Session → Person → AccountCommand → Done
done_on_account slice tick session caller Close = closed_done session
done_on_account slice tick session caller (ChangePassword old new) =
    changed_done tick.moment (changing caller session old new tick)
done_on_account slice tick session caller (Enrol code name roles) =
    then_person_done (enrolling code name roles slice.person slice.counts.persons) enrolled_done
done_on_account slice tick session caller (AskIssue code) =
    then_person_done (asking caller.code slice.person tick) asked_done
done_on_account slice tick session caller (ConfirmIssue code) =
    then_person_done (confirming caller.code slice.person tick) confirmed_done
done_on_account slice tick session caller (SetRoles code roles) =
    then_person_done (setting_roles caller.code slice.person roles) roles_done
done_on_account slice tick session caller (Retire code) =
    then_person_done (retiring caller.code slice.person) retired_done
done_on_account slice tick session caller (Unlock code) =
    then_person_done (unlocking caller.code slice.person) unlocked_done

-- on forms and records
unfoldable pub done_on_record : Slice → Tick → Session → Person → RecordCommand → Done
done_on_record slice tick session caller (MakeForm code form) =
    then_done (making code form slice.form) form_done
done_on_record slice tick session caller (OpenRecord form sample) =
    then_done (opening_record slice.form slice.filed sample caller.code tick.moment
    slice.counts.records) record_done
done_on_record slice tick session caller (Enter number item reason) =
    then_done (entering slice.code slice.filed item reason caller.code tick.moment) entry_done
done_on_record slice tick session caller (Amend number reason altered) =
    then_done (amending slice.code slice.filed reason altered caller.code tick.moment)
    amendment_done
done_on_record slice tick session caller (Sign number version digest signing password code) =
    if is_code_wanted session code then Refused CodeWanted
    else signing_done slice tick.moment session version digest signing
    (signing_attempt caller code password tick.moment)

-- where it only reads
unfoldable pub done_reading : Slice → Tick → Person → ReadingCommand → Done
done_reading slice tick caller ReadPersons =
    Read (Persons (map (person_line tick.moment) slice.persons))
done_reading slice tick caller (ReadForm code version) =
    then_read_done (reading_form slice.form) FormRead
done_reading slice tick caller (ReadRecord number) =
    then_read_done (reading_record slice.code slice.filed) RecordRead
done_reading slice tick caller (ReadVersion number version) =
    then_read_done (reading_version slice.code slice.filed version) VersionRead
done_reading slice tick caller (ReadRecords from to) =
    Read (Records (map record_line slice.records))
done_reading slice tick caller (ReadTrail from to) = Read (Trail slice.trail)
done_reading slice tick caller (TakeCopy from to) =
    Read (Copied (copy_rows slice.code slice.name (copy_order from to caller.code tick.moment)
    slice.records))

-- in a session
abbrev pub done_of : Slice → Tick → Session → Person → SessionCommand → Done
done_of slice tick session caller (OnAccount command) =
    done_on_account slice tick session caller command
done_of slice tick session caller (OnRecord command) =
    done_on_record slice tick session caller command
done_of slice tick session caller (Reading command) = done_reading slice tick caller command
