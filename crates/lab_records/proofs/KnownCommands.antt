-- Values from outside, so that a wrong rule in the definitions does not check: what each command comes to, by
-- docs/PERSONS.md, docs/RECORDS.md and docs/REFUSALS.md. No password is stretched and no digest is computed:
-- where a password counts it is refused before it is looked at, and a digest stands as the `digest_of` a version.
use Rattle.std.proofs.Common.{◌≡◌, ℕ, Bool, true, false, List, [], ◌∷◌, Some, None, refl}
use Rattle.std.specs.Prelude.{codes, Ok}
use Rattle.std.specs.Str.{is_utf8, chars}
use lib.Utf8.{encode}
use Rattle.std.specs.Fmt.{digits}
use Rattle.lab_forms_texts.specs.Moment.{moment_text}
use Rattle.lab_forms_texts.specs.Calendar.{year_of, month_of, day_of_month, hour_of, minute_of, second_of, span_of, place_of, place_in_year}
use Rattle.lab_forms_texts.specs.Names.{is_note}
use Rattle.lab_forms_texts.specs.declared.tick.Tick.{Tick}
use Rattle.lab_seal_hashes.specs.declared.verifiers.VerifierParts.{VerifierParts}
use Rattle.lab_people_access.specs.declared.persons.Person.{Person}
use Rattle.lab_people_access.specs.declared.passwords.Password.TheVariants.{Chosen}
use Rattle.lab_people_access.specs.declared.roles.Role.{Role}
use Rattle.lab_people_access.specs.declared.roles.Role.TheVariants.{Analyst, Reviewer, Manager, Administrator, Inspector}
use Rattle.lab_people_access.specs.declared.sessions.Session.{Session}
use Rattle.lab_people_access.specs.declared.sessions.Closing.TheVariants.{Nothing, All, Others}
use Rattle.lab_people_access.specs.declared.openings.Opened.{Opened}
use Rattle.lab_people_access.specs.declared.refusals.Failure.TheVariants.{Counted, Locking, AlreadyLocked, Stray}
use Rattle.lab_people_access.specs.declared.refusals.PeopleRefusal.TheVariants.{CodeTaken, LabFull, OwnIssue, IssueOpen, SamePerson, NoIssue, NoSuchPerson}
use Rattle.lab_people_access.specs.Attempts.{attempt_by}
use Rattle.lab_people_access.specs.Openings.{opening}
use Rattle.lab_people_access.specs.Roles.{no_roles, with_role}
use Rattle.lab_people_access.specs.Persons.{newcomer}
use Rattle.lab_people.specs.Accounts.{changing, enrolling, setting_roles, retiring, unlocking}
use Rattle.lab_people.specs.Issues.{asking, confirming}
use Rattle.lab_forms.specs.declared.forms.Field.{Field}
use Rattle.lab_forms.specs.declared.kinds.Kind.TheVariants.{Number}
use Rattle.lab_forms.specs.Forms.{value_refusal}
use Rattle.lab_forms.specs.Numbers.{is_number, amount, is_unsigned_number, is_digits, without_sign, without_comparison, millionths_of, decimal_value}
use Rattle.lab_seal_versions.specs.declared.states.State.TheVariants.{Open as IsOpen, Signed as IsSigned}
use Rattle.lab_records_kept.specs.declared.needs.Slice.{Slice}
use Rattle.lab_records_kept.specs.declared.changes.Change.TheVariants.{PersonAdded, PersonSet, SessionAdded, SessionSet, SessionsClosed, FormAdded, RecordAdded, RowAdded, SignatureAdded}
use Rattle.lab_records_kept.specs.declared.records.FormVersion.{FormVersion}
use Rattle.lab_records_kept.specs.declared.records.Record.{Record}
use Rattle.lab_records_kept.specs.declared.records.Version.{Version}
use Rattle.lab_records_kept.specs.declared.records.Signature.{Signature}
use Rattle.lab_records_kept.specs.declared.trails.Deed.TheVariants as deed
use Rattle.lab_records_kept.specs.declared.trails.Occasion.TheVariants as occasion
use Rattle.lab_records_kept.specs.Digests.{digest_of}
use Rattle.lab_records_kept.proofs.KnownDefaults.{bare_entry, bare_field, bare_form, bare_record, bare_session}
use Rattle.lab_records_rules.specs.declared.items.Item.{Item}
use Rattle.lab_records_rules.specs.declared.outcomes.Signing.TheVariants.{Authorship, Review}
use Rattle.lab_records_rules.specs.declared.refusals.Refusal.TheVariants.{People, NoSuchForm, RecordExists, NoSuchRecord, NoSuchVersion, ReasonWanted, NothingAltered, AmendmentOpen, NotSigned, CodeWanted}
use Rattle.lab_records_rules.specs.Making.{first_version}
use Rattle.lab_records_machine.specs.declared.commands.SessionCommand.{SessionCommand}
use Rattle.lab_records_machine.specs.declared.commands.SessionCommand.TheVariants.{OnAccount, OnRecord, Reading}
use Rattle.lab_records_machine.specs.declared.commands.AccountCommand.TheVariants.{Close, ChangePassword, Enrol, AskIssue, ConfirmIssue, SetRoles, Retire, Unlock}
use Rattle.lab_records_machine.specs.declared.commands.RecordCommand.TheVariants.{MakeForm, OpenRecord, Enter, Amend, Sign}
use Rattle.lab_records_machine.specs.declared.commands.ReadingCommand.TheVariants.{ReadPersons, ReadForm, ReadRecord, ReadVersion, ReadRecords, ReadTrail, TakeCopy}
use Rattle.lab_records_machine.specs.declared.replies.Reply.TheVariants as reply
use Rattle.lab_records_machine.specs.declared.done.Done.{Done}
use Rattle.lab_records_machine.specs.declared.done.Done.TheVariants.{Refused, Failed, Read, Made}
use Rattle.lab_records_machine.specs.Done.{opened_done, changed_done, asked_done, confirmed_done, signature_done, signing_done, done_on_account, done_on_record, done_reading, done_of}
use Rattle.lab_records_machine.specs.Makings.{is_digest_made_by, makes_on_record, makes_reading, makes}

-- ---- a part of a laboratory, and who asks

abbrev account : List ℕ → List ℕ → Role → Person
account code name role = newcomer code name (with_role no_roles role)

abbrev ann : Person
ann = account (codes "ann") (codes "Ann Ames") Administrator

abbrev bob : Person
bob = account (codes "bob") (codes "Bob Bell") Administrator

abbrev dan : Person
dan = account (codes "dan") (codes "Dan Day") Analyst

abbrev gus : Person
gus = account (codes "gus") (codes "Gus Gray") Manager

abbrev hal : Person
hal = account (codes "hal") (codes "Hal Hill") Inspector

-- dan with a password that was chosen, and so many failed ones
abbrev failing : VerifierParts → ℕ → Person
failing verifier failures = record dan { password = Chosen verifier 500; failures = failures }

-- dan, who was locked at 1300
abbrev locked : VerifierParts → Person
locked verifier = record (failing verifier 5) { locked = Some 1300 }

-- a session of a person, in which nothing was signed
abbrev session : List ℕ → Session
session person = record bare_session { number = 7; person = person; opened = 900; last = 1100 }

abbrev lead : Field
lead = record bare_field {
  key = codes "lead";
  label = codes "Lead";
  required = true;
  kind = Number (codes "mg/L") 2 (Some (codes "0")) None;
}

-- a version of the form water
abbrev water : ℕ → Bool → FormVersion
water version approval = record bare_form {
  code = codes "water";
  version = version;
  form = record { fields = lead ∷ []; approval = approval };
}

-- version 1 of record 1, which dan opened: 7.50, and what comes with it
abbrev first : Version
first = record (first_version false (codes "dan") 1000) {
  rows =
      (record bare_entry { key = codes "lead"; value = codes "7.50"; unit = codes "mg/L"; person = codes "dan"; moment = 1100 })
      ∷ [];
}

abbrev corrected : Version
corrected = record (first_version false (codes "dan") 1000) {
  rows =
      (record bare_entry { key = codes "lead"; value = codes "7.50"; unit = codes "mg/L"; person = codes "dan"; moment = 1100 })
      ∷ (record bare_entry { key = codes "lead"; value = codes "7.5"; unit = codes "mg/L"; person = codes "dan"; moment = 1200; reason = Some (codes "misread scale") })
      ∷ [];
}

abbrev about : Version → Record
about version = record bare_record { number = 1; form = water 1 false; sample = codes "S1"; versions = version ∷ [] }

-- the part that a command needs which names nobody and nothing
abbrev slice : Slice
slice = record {
  code = codes "aqua";
  name = codes "Aqua Lab";
  last = 1100;
  strays = 0;
  counts = record { persons = 8; sessions = 7; records = 1; trail = 35 };
  session = None;
  caller = None;
  person = None;
  form = None;
  filed = None;
  persons = [];
  records = [];
  trail = [];
}

-- the part with somebody, with a version of a form, and with record 1
abbrev with_person : Person → Slice
with_person person = record slice { person = Some person }

abbrev with_form : FormVersion → Slice
with_form form = record slice { form = Some form }

abbrev with_record : Slice
with_record = record slice { filed = Some (about first) }

-- what a command comes to, by a person at a moment
abbrev asked : Slice → Tick → ℕ → Person → SessionCommand → Done
asked part tick moment person command =
    done_of part (record tick { moment = moment }) (session person.code) person command

-- ---- sessions and passwords

-- closing sets the session, and the trail tells its number
pub known_closing : (tick : Tick)
    → asked slice tick 1200 dan (OnAccount Close)
    ≡ Made (reply.Closed 7) (deed.Close 7) (SessionSet (record (session (codes "dan")) { closed = true }) ∷ [])
unfolding done_on_account
known_closing tick = refl

-- an unknown code is a stray password; a lock of 1300 stands at 3099, whatever the password
pub known_openings : (tick : Tick) (password : List ℕ) (verifier : VerifierParts)
    → (opened_done (opening (codes "zed") None password (record tick { moment = 1200 }) 7 None) ≡ Failed occasion.Opening Stray)
    × (opened_done (opening (codes "dan") (Some (locked verifier)) password (record tick { moment = 3099 }) 7 None)
    ≡ Failed occasion.Opening (AlreadyLocked (locked verifier)))
unfolding opening attempt_by
known_openings tick password verifier = (refl, refl)

-- an opening sets the person, and adds the session
pub known_opened : (opened : Opened)
    → opened_done (Ok opened)
    ≡ Made (reply.Opened opened.session.number opened.token opened.due) (deed.Open opened.session.number)
    (PersonSet opened.person ∷ SessionAdded opened.session ∷ [])
known_opened opened = refl

-- who is locked changes no password; a change closes the person's other sessions, after it set its own
pub known_changes : (tick : Tick) (old new : List ℕ) (verifier : VerifierParts) (person : Person)
    → (asked slice tick 3099 (locked verifier) (OnAccount (ChangePassword old new))
    ≡ Failed occasion.Changing (AlreadyLocked (locked verifier)))
    × (changed_done 1200 (Ok (record { person = person; session = session person.code; closing = Others 7 }))
    ≡ Made (reply.PasswordChanged 1200) (deed.Password person.code)
    (PersonSet person ∷ SessionSet (session person.code) ∷ SessionsClosed person.code (Others 7) ∷ []))
unfolding done_on_account changing attempt_by
known_changes tick old new verifier person = (refl, refl)

-- ---- accounts

-- a code that is there, the 501st person, and somebody new
pub known_enrolments : (tick : Tick)
    → (asked (with_person dan) tick 1200 ann (OnAccount (Enrol (codes "dan") (codes "Dan Dean") no_roles)) ≡ Refused (People CodeTaken))
    × (asked (record slice { counts = record { persons = 500; sessions = 7; records = 1; trail = 35 } }) tick 1200 ann
    (OnAccount (Enrol (codes "eve") (codes "Eve Ems") no_roles)) ≡ Refused (People LabFull))
    × (asked slice tick 1200 ann (OnAccount (Enrol (codes "eve") (codes "Eve Ems") (with_role no_roles Reviewer)))
    ≡ Made (reply.PersonDone (codes "eve")) (deed.Enrol (codes "eve") (with_role no_roles Reviewer))
    (PersonAdded (account (codes "eve") (codes "Eve Ems") Reviewer) ∷ []))
unfolding done_on_account enrolling
known_enrolments tick = (refl, refl, refl)

-- new roles close no session, and one's own are set by others
pub known_roles : (tick : Tick)
    → (asked (with_person ann) tick 1200 ann (OnAccount (SetRoles (codes "ann") no_roles)) ≡ Refused (People OwnIssue))
    × (asked (with_person dan) tick 1200 ann (OnAccount (SetRoles (codes "dan") (with_role no_roles Reviewer)))
    ≡ Made (reply.RolesSet (codes "dan") (with_role no_roles Reviewer)) (deed.Roles (codes "dan") (with_role no_roles Reviewer))
    (PersonSet (account (codes "dan") (codes "Dan Day") Reviewer) ∷ []))
unfolding done_on_account setting_roles
known_roles tick = (refl, refl)

-- who isn't there, or has left, isn't retired; who is loses all sessions
pub known_retirements : (tick : Tick)
    → (asked slice tick 1200 bob (OnAccount (Retire (codes "zed"))) ≡ Refused (People NoSuchPerson))
    × (asked (with_person (record dan { retired = true })) tick 1200 bob (OnAccount (Retire (codes "dan"))) ≡ Refused (People NoSuchPerson))
    × (asked (with_person dan) tick 1200 bob (OnAccount (Retire (codes "dan")))
    ≡ Made (reply.PersonDone (codes "dan")) (deed.Retire (codes "dan"))
    (PersonSet (record dan { retired = true }) ∷ SessionsClosed (codes "dan") All ∷ []))
unfolding done_on_account retiring
known_retirements tick = (refl, refl, refl)

-- an unlocking takes lock and failed passwords away, and closes no session
pub known_unlocking : (tick : Tick) (verifier : VerifierParts)
    → asked (with_person (locked verifier)) tick 1301 ann (OnAccount (Unlock (codes "dan")))
    ≡ Made (reply.PersonDone (codes "dan")) (deed.Unlock (codes "dan")) (PersonSet (failing verifier 0) ∷ [])
unfolding done_on_account unlocking
known_unlocking tick verifier = refl

-- dan, for whom ann asked at 100
abbrev asked_for : VerifierParts → Person
asked_for verifier = record dan { ask = Some (record { asker = codes "ann"; asked = 100; first = verifier }) }

-- what ann asked for bars bob for seven days, ann never confirms it, and after that nobody does
pub known_issues : (tick : Tick) (verifier : VerifierParts)
    → (asked (with_person (asked_for verifier)) tick 604900 bob (OnAccount (AskIssue (codes "dan"))) ≡ Refused (People IssueOpen))
    × (asked (with_person (asked_for verifier)) tick 604900 ann (OnAccount (ConfirmIssue (codes "dan"))) ≡ Refused (People SamePerson))
    × (asked (with_person (asked_for verifier)) tick 604901 bob (OnAccount (ConfirmIssue (codes "dan"))) ≡ Refused (People NoIssue))
unfolding done_on_account asking confirming
known_issues tick verifier = (refl, refl, refl)

-- an ask closes no session, a confirmation all; each tells its own half
pub known_halves : (person : Person) (half : List ℕ)
    → (asked_done (record { person = person; half = half; closing = Nothing })
    ≡ Made (reply.HalfTold half) (deed.Issue person.code) (PersonSet person ∷ []))
    × (confirmed_done (record { person = person; half = half; closing = All })
    ≡ Made (reply.HalfTold half) (deed.Confirm person.code) (PersonSet person ∷ SessionsClosed person.code All ∷ []))
known_halves person half = (refl, refl)

-- ---- forms and records

-- the first version of a form; the same again; and with an approval, which makes version 2
pub known_forms : (tick : Tick)
    → (asked slice tick 800 gus (OnRecord (MakeForm (codes "water") (record { fields = lead ∷ []; approval = false })))
    ≡ Made (reply.FormMade (codes "water") 1) (deed.Form (codes "water") 1) (FormAdded (water 1 false) ∷ []))
    × (asked (with_form (water 1 false)) tick 800 gus (OnRecord (MakeForm (codes "water") (record { fields = lead ∷ []; approval = false })))
    ≡ Refused NothingAltered)
    × (asked (with_form (water 1 false)) tick 800 gus (OnRecord (MakeForm (codes "water") (record { fields = lead ∷ []; approval = true })))
    ≡ Made (reply.FormMade (codes "water") 2) (deed.Form (codes "water") 2) (FormAdded (water 2 true) ∷ []))
unfolding done_on_record
known_forms tick = (refl, refl, refl)

-- a record of a form that isn't there, one that is there already, and another one, under the next number
pub known_records : (tick : Tick)
    → (asked slice tick 1200 dan (OnRecord (OpenRecord (codes "soil") (codes "S1"))) ≡ Refused NoSuchForm)
    × (asked (record with_record { form = Some (water 1 false) }) tick 1200 dan (OnRecord (OpenRecord (codes "water") (codes "S1")))
    ≡ Refused (RecordExists 1))
    × (asked (with_form (water 1 false)) tick 1200 dan (OnRecord (OpenRecord (codes "water") (codes "S2")))
    ≡ Made (reply.RecordOpened 2 1) (deed.Record 2)
    (RecordAdded (record bare_record {
      number = 2;
      form = water 1 false;
      sample = codes "S2";
      versions = first_version false (codes "dan") 1200 ∷ [];
    }) ∷ []))
unfolding done_on_record
known_records tick = (refl, refl, refl)

abbrev seven_five : Item
seven_five = record { key = codes "lead"; value = codes "7.5"; unit = codes "mg/L" }

-- 7.5 where 7.50 stands: in record 9, which isn't there; without a reason; and with one, as a row more
pub known_entries : (tick : Tick)
    → (asked slice tick 1200 dan (OnRecord (Enter 9 seven_five None)) ≡ Refused NoSuchRecord)
    × (asked with_record tick 1200 dan (OnRecord (Enter 1 seven_five None)) ≡ Refused ReasonWanted)
    × (asked with_record tick 1200 dan (OnRecord (Enter 1 seven_five (Some (codes "misread scale"))))
    ≡ Made (reply.Entered 1 1 2 (digest_of (codes "aqua") (about first) corrected)) (deed.Entry 1 1 (codes "lead"))
    (RowAdded 1
    (record bare_entry { key = codes "lead"; value = codes "7.5"; unit = codes "mg/L"; person = codes "dan"; moment = 1200; reason = Some (codes "misread scale") })
    ∷ []))
unfolding done_on_record value_refusal is_note is_utf8 chars encode is_number amount is_unsigned_number is_digits without_sign without_comparison millionths_of decimal_value
known_entries tick = (refl, refl, refl)

-- an open version isn't amended
pub known_amendment : (tick : Tick)
    → asked with_record tick 1200 dan (OnRecord (Amend 1 (Some (codes "one decimal is meant")) (seven_five ∷ []))) ≡ Refused AmendmentOpen
unfolding done_on_record
known_amendment tick = refl

-- ---- signatures

-- the first signing of a session wants the code; another's code is a failed password of dan's, and the fifth locks
pub known_signings : (tick : Tick) (password digest : List ℕ) (verifier : VerifierParts)
    → (asked with_record tick 1300 dan (OnRecord (Sign 1 1 digest Authorship password None)) ≡ Refused CodeWanted)
    × (asked with_record tick 1300 (failing verifier 0) (OnRecord (Sign 1 1 digest Authorship password (Some (codes "eve"))))
    ≡ Failed occasion.Signing (Counted (failing verifier 1)))
    × (asked with_record tick 1300 (failing verifier 4) (OnRecord (Sign 1 1 digest Authorship password (Some (codes "eve"))))
    ≡ Failed occasion.Signing (Locking (locked verifier)))
unfolding done_on_record attempt_by
known_signings tick password digest verifier = (refl, refl, refl)

-- once the password was accepted: a record and a version that aren't there, and a review of an open version
pub known_signed_before : (digest : List ℕ)
    → (signing_done slice 1300 (session (codes "dan")) 1 digest Authorship (Ok dan) ≡ Refused NoSuchRecord)
    × (signing_done with_record 1300 (session (codes "dan")) 2 digest Authorship (Ok dan) ≡ Refused NoSuchVersion)
    × (signing_done with_record 1300 (session (codes "dan")) 1 digest Review (Ok dan) ≡ Refused NotSigned)
known_signed_before digest = (refl, refl, refl)

-- a signature sets the signer, marks the session, and is added to its version
pub known_signature : (signature : Signature)
    → signature_done (session (codes "dan")) dan (record { number = 1; version = 1; signature = signature; state = Some IsSigned })
    ≡ Made (reply.Signed signature (Some IsSigned)) (deed.Sign 1 1 signature.meaning)
    (PersonSet dan ∷ SessionSet (record (session (codes "dan")) { signed = true }) ∷ SignatureAdded 1 1 signature ∷ [])
known_signature signature = refl

-- ---- readings

-- dan, as persons are read
abbrev dan_line : Bool → Done
dan_line is_locked =
    Read (reply.Persons ((record {
      code = codes "dan";
      name = codes "Dan Day";
      roles = with_role no_roles Analyst;
      retired = false;
      locked = is_locked;
    }) ∷ []))

-- the lock of 1300 is told at 3099, and no longer at 3100
pub known_persons : (tick : Tick) (verifier : VerifierParts)
    → (asked (record slice { persons = locked verifier ∷ [] }) tick 3099 ann (Reading ReadPersons) ≡ dan_line true)
    × (asked (record slice { persons = locked verifier ∷ [] }) tick 3100 ann (Reading ReadPersons) ≡ dan_line false)
unfolding done_reading
known_persons tick verifier = (refl, refl)

-- a record by its last version, rows of a trail that has none there, and what isn't there to be read
pub known_readings : (tick : Tick)
    → (asked (record slice { records = about first ∷ [] }) tick 1200 dan (Reading (ReadRecords 1 5))
    ≡ Read (reply.Records ((record {
      number = 1;
      form = codes "water";
      sample = codes "S1";
      current = Some 1;
      state = Some IsOpen;
    }) ∷ [])))
    × (asked slice tick 1200 ann (Reading (ReadTrail 36 40)) ≡ Read (reply.Trail []))
    × (asked slice tick 1200 dan (Reading (ReadForm (codes "soil") 1)) ≡ Refused NoSuchForm)
    × (asked slice tick 1200 dan (Reading (ReadRecord 9)) ≡ Refused NoSuchRecord)
    × (asked with_record tick 1200 dan (Reading (ReadVersion 1 2)) ≡ Refused NoSuchVersion)
unfolding done_reading
known_readings tick = (refl, refl, refl, refl, refl)

-- the copy of docs/COPIES.md that an inspector takes of records that aren't there
abbrev copy_fields : List ℕ → List (List ℕ) → List (List ℕ)
copy_fields kind fields = kind ∷ codes "aqua" ∷ fields

pub known_copy : (tick : Tick)
    → asked (record slice { records = [] }) tick 5000 hal (Reading (TakeCopy 3 5))
    ≡ Read (reply.Copied (
    (codes "kind" ∷ codes "lab" ∷ codes "record" ∷ codes "version" ∷ codes "key" ∷ codes "value" ∷ codes "unit" ∷ codes "person"
    ∷ codes "name" ∷ codes "moment" ∷ codes "reason" ∷ codes "digest" ∷ codes "seal" ∷ [])
    ∷ copy_fields (codes "copy") (codes "3" ∷ codes "5" ∷ codes "2" ∷ [] ∷ [] ∷ codes "hal" ∷ codes "Aqua Lab"
    ∷ codes "1970-01-01T01:23:20Z" ∷ [] ∷ [] ∷ [] ∷ [])
    ∷ copy_fields (codes "end") (codes "0" ∷ codes "0" ∷ codes "0" ∷ codes "0" ∷ [] ∷ [] ∷ [] ∷ [] ∷ [] ∷ [] ∷ [] ∷ [])
    ∷ []))
unfolding done_reading digits moment_text year_of month_of day_of_month hour_of minute_of second_of span_of place_of place_in_year
known_copy tick = refl

-- ---- where something is made, so that memory may run out

abbrev made_by : Slice → Tick → ℕ → Person → SessionCommand → Bool
made_by part tick moment person command =
    makes part (record tick { moment = moment }) (session person.code) person command

-- closing makes its changes, and a list its lines, unless it has none; a form is read as it stands
pub known_makings : (tick : Tick)
    → (made_by slice tick 1200 dan (OnAccount Close) ≡ true) × (made_by slice tick 1200 ann (Reading ReadPersons) ≡ false)
    × (made_by (record slice { persons = ann ∷ [] }) tick 1200 ann (Reading ReadPersons) ≡ true)
    × (made_by slice tick 1200 dan (Reading (ReadRecords 1 9)) ≡ false)
    × (made_by (record slice { records = about first ∷ [] }) tick 1200 dan (Reading (ReadRecords 1 9)) ≡ true)
    × (made_by (with_form (water 1 false)) tick 1200 dan (Reading (ReadForm (codes "water") 1)) ≡ false)
unfolding done_on_account makes_reading
known_makings tick = (refl, refl, refl, refl, refl, refl)

-- a code that is there is refused with nothing made, and somebody new is made; so it is with a lock and a password, with one's
-- own roles and another's, and with a form
pub known_makings_of_accounts : (tick : Tick) (old new : List ℕ) (verifier : VerifierParts)
    → (made_by (with_person dan) tick 1200 ann (OnAccount (Enrol (codes "dan") (codes "Dan Dean") no_roles)) ≡ false)
    × (made_by slice tick 1200 ann (OnAccount (Enrol (codes "eve") (codes "Eve Ems") no_roles)) ≡ true)
    × (made_by slice tick 3099 (locked verifier) (OnAccount (ChangePassword old new)) ≡ false)
    × (made_by (with_person ann) tick 1200 ann (OnAccount (SetRoles (codes "ann") no_roles)) ≡ false)
    × (made_by (with_person dan) tick 1200 ann (OnAccount (SetRoles (codes "dan") no_roles)) ≡ true)
    × (made_by slice tick 800 gus (OnRecord (MakeForm (codes "water") (record { fields = lead ∷ []; approval = false }))) ≡ true)
    × (made_by (with_form (water 1 false)) tick 800 gus (OnRecord (MakeForm (codes "water") (record { fields = lead ∷ []; approval = false })))
    ≡ false)
unfolding done_on_account makes_on_record done_on_record changing attempt_by enrolling setting_roles
known_makings_of_accounts tick old new verifier = (refl, refl, refl, refl, refl, refl, refl)

-- an open version isn't amended, so no table is made; a signing without its code is refused before its password is looked at,
-- and one whose password fails before a digest is made; the digest is made of an open version that is signed, and not where it
-- is reviewed
pub known_makings_of_records : (tick : Tick) (password digest : List ℕ) (verifier : VerifierParts)
    → (made_by with_record tick 1200 dan (OnRecord (Amend 1 (Some (codes "one decimal is meant")) (seven_five ∷ []))) ≡ false)
    × (made_by with_record tick 1300 dan (OnRecord (Sign 1 1 digest Authorship password None)) ≡ false)
    × (made_by with_record tick 1300 (failing verifier 0) (OnRecord (Sign 1 1 digest Authorship password (Some (codes "eve")))) ≡ false)
    × (is_digest_made_by (Some (about first)) 1 Authorship (Ok dan) ≡ true)
    × (is_digest_made_by (Some (about first)) 1 Review (Ok dan) ≡ false)
    × (made_by slice tick 1200 dan (Reading (ReadRecord 9)) ≡ false) × (made_by with_record tick 1200 dan (Reading (ReadRecord 1)) ≡ true)
unfolding makes_on_record makes_reading attempt_by
known_makings_of_records tick password digest verifier = (refl, refl, refl, refl, refl, refl, refl)
