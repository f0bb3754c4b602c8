-- Through a step: what holds of each record stays, where the rules leave it so.
use Rattle.std.proofs.Common.{◌≡◌, ℕ, Bool, true, false, cond, List, [], ◌∷◌, ◌++◌, length, Option, Some, refl}
use Rattle.std.specs.Prelude.{All, Result, Ok, Err, nat_le, nat_lt}
use Rattle.std.proofs.lemmas.List.Elements.{All-push}
use Rattle.lab_forms_texts.specs.declared.tick.Tick.{Tick}
use Rattle.lab_people_access.specs.declared.persons.Person.{Person}
use Rattle.lab_people_access.specs.declared.sessions.Session.{Session}
use Rattle.lab_people_access.specs.declared.openings.Opened.{Opened}
use Rattle.lab_people_access.specs.declared.refusals.Failure.{Failure}
use Rattle.lab_people_access.specs.declared.refusals.Failure.TheVariants.{Counted, Locking, AlreadyLocked, Stray}
use Rattle.lab_people_access.specs.declared.refusals.PeopleFault.{PeopleFault}
use Rattle.lab_people_access.specs.declared.refusals.PeopleFault.TheVariants.{Failed, Refused as IsRefused}
use Rattle.lab_people_access.specs.declared.refusals.PeopleRefusal.{PeopleRefusal}
use Rattle.lab_people_access.specs.declared.sessions.Closing.TheVariants.{All as Every}
use Rattle.lab_people_access.specs.Attempts.{signing_attempt}
use Rattle.lab_people_access.specs.Openings.{opening, token_digest}
use Rattle.lab_people_access.specs.Sessions.{sessions_after, touched_session}
use Rattle.lab_people.specs.declared.accounts.PasswordChanged.{PasswordChanged}
use Rattle.lab_people.specs.Accounts.{changing, enrolling, setting_roles, retiring, unlocking}
use Rattle.lab_people.specs.Issues.{asking, confirming}
use Rattle.lab_records_kept.specs.declared.labs.Lab.{Lab}
use Rattle.lab_records_kept.specs.declared.records.FormVersion.{FormVersion}
use Rattle.lab_records_kept.specs.declared.records.Record.{Record}
use Rattle.lab_records_kept.specs.declared.trails.Deed.{Deed}
use Rattle.lab_records_kept.specs.declared.trails.Deed.TheVariants.{Refuse, Lock}
use Rattle.lab_records_kept.specs.declared.trails.Occasion.{Occasion}
use Rattle.lab_records_kept.specs.Limits.{count_limit}
use Rattle.lab_records_kept.specs.Lookups.{record_of, record_about, last_form, exact_form}
use Rattle.lab_records_kept.specs.Lookups.{person_at, session_at}
use Rattle.lab_records_kept.specs.Changes.{with_person, in_record, entered_in, opened_in, signed_in}
use Rattle.lab_records_rules.specs.declared.items.Item.{Item}
use Rattle.lab_records_rules.specs.declared.outcomes.EntryMade.{EntryMade}
use Rattle.lab_records_rules.specs.declared.outcomes.AmendmentMade.{AmendmentMade}
use Rattle.lab_records_rules.specs.declared.outcomes.SignatureMade.{SignatureMade}
use Rattle.lab_records_rules.specs.declared.outcomes.Signing.{Signing}
use Rattle.lab_records_rules.specs.declared.refusals.Refusal.{Refusal}
use Rattle.lab_records_rules.specs.declared.refusals.Refusal.TheVariants.{ClockBehind}
use Rattle.lab_records_rules.specs.Making.{making, opening_record}
use Rattle.lab_records_versions.specs.Entering.{entering, amending, next_version}
use Rattle.lab_records_versions.specs.Signing.{is_code_wanted, new_signature, signing_record}
use Rattle.lab_records_rules.specs.Reading.{reading_form, reading_record, reading_version}
use Rattle.lab_records_machine.specs.declared.commands.Command.{Command}
use Rattle.lab_records_machine.specs.declared.commands.Command.TheVariants.{Card, Open, In}
use Rattle.lab_records_machine.specs.declared.commands.SessionCommand.{SessionCommand}
use Rattle.lab_records_machine.specs.declared.commands.SessionCommand.TheVariants.{OnAccount, OnRecord, Reading}
use Rattle.lab_records_machine.specs.declared.commands.AccountCommand.TheVariants.{Close, ChangePassword, Enrol, AskIssue, ConfirmIssue, SetRoles, Retire, Unlock}
use Rattle.lab_records_machine.specs.declared.commands.RecordCommand.TheVariants.{MakeForm, OpenRecord, Enter, Amend, Sign}
use Rattle.lab_records_machine.specs.declared.commands.ReadingCommand.TheVariants.{ReadPersons, ReadForm, ReadRecord, ReadVersion, ReadRecords, ReadTrail, TakeCopy}
use Rattle.lab_records_machine.specs.declared.commands.Instruction.{Instruction}
use Rattle.lab_records_machine.specs.declared.passages.Passage.{Passage}
use Rattle.lab_records_machine.specs.declared.passages.Passage.TheVariants.{Stranger, Barred, Passes}
use Rattle.lab_records_machine.specs.declared.replies.Reply.{Reply}
use Rattle.lab_records_machine.specs.declared.replies.Reply.TheVariants.{Refused, FormRead, RecordRead, VersionRead}
use Rattle.lab_records_machine.specs.Cases.{Case, Refuses, Fails, Reads, Makes, told_if_room, told, failed}
use Rattle.lab_records_machine.specs.Machine.{Stepped, stays, made, ended, touched, at_moment, opened, answered_in, answered, named_session, step}
use Rattle.lab_records_machine.specs.Own.{own_on_account, own_on_record, own_reading, own, then_case, then_person, then_read, opened_case, opening_case, changed_case, enrolled_case, asked_case, confirmed_case, roles_case, retired_case, unlocked_case, form_case, record_case, entry_case, amendment_case, signature_case, signing_by}
use Rattle.lab_records_laws.specs.Stepping.{WhereThere}
use Rattle.lab_records_laws.proofs.SigningFrame.{OfEach, StaysTrue, each_in_record, number_found, version_found, entry_said, amendment_said, signature_said, opening_said}

-- what a case makes
abbrev pub WhereMade : (List ℕ → Record → Type 0) → Case → Type 0
WhereMade Holds (Makes reply deed after) = OfEach Holds after
WhereMade Holds _ = Unit {0}

-- ---- what leaves records as they are

noted_if : (Holds : List ℕ → Record → Type 0) (lab other : Lab) (full : Bool)
    → OfEach Holds lab → OfEach Holds other → OfEach Holds (cond full lab other)
noted_if Holds lab other true holds others = holds
noted_if Holds lab other false holds others = others

noted_keeps : (Holds : List ℕ → Record → Type 0) (moment : ℕ) (person : List ℕ) (deed : Deed)
    (lab : Lab) → OfEach Holds lab → OfEach Holds (told_if_room moment person deed lab)
noted_keeps Holds moment person deed lab holds =
    noted_if Holds lab (told moment (Some person) deed lab)
    (nat_le count_limit (length lab.trail)) holds holds

-- where a password locks its person out
abbrev locked : Lab → Person → Lab
locked lab person = record lab {
  persons = with_person person lab.persons;
  sessions = sessions_after Every person.code lab.sessions;
}

failed_keeps : (Holds : List ℕ → Record → Type 0) (lab : Lab) (moment : ℕ) (occasion : Occasion)
    (failure : Failure) → OfEach Holds lab → OfEach Holds (failed lab moment occasion failure)
failed_keeps Holds lab moment occasion (Counted person) holds =
    noted_keeps Holds moment person.code (Refuse occasion)
    (record lab { persons = with_person person lab.persons }) holds
failed_keeps Holds lab moment occasion (Locking person) holds =
    noted_keeps Holds moment person.code (Lock person.code)
    (told_if_room moment person.code (Refuse occasion) (locked lab person))
    (noted_keeps Holds moment person.code (Refuse occasion) (locked lab person) holds)
failed_keeps Holds lab moment occasion (AlreadyLocked person) holds =
    noted_keeps Holds moment person.code (Refuse occasion) lab holds
failed_keeps Holds lab moment occasion Stray holds = holds

stepped_if : (Holds : List ℕ → Record → Type 0) (lab after : Lab) (refused reply : Reply)
    (full : Bool) → OfEach Holds lab → OfEach Holds after
    → WhereThere (OfEach Holds) (cond full (stays lab refused) (stays after reply)).after
stepped_if Holds lab after refused reply true before holds = before
stepped_if Holds lab after refused reply false before holds = holds

made_keeps : (Holds : List ℕ → Record → Type 0) (lab after : Lab) (moment : ℕ) (person : List ℕ)
    (reply : Reply) (deed : Deed) → OfEach Holds lab → OfEach Holds after
    → WhereThere (OfEach Holds) (made lab after moment person reply deed).after
made_keeps Holds lab after moment person reply deed before holds =
    stepped_if Holds lab (told moment (Some person) deed after) _ reply
    (nat_le count_limit (length lab.trail)) before holds

ended_keeps : (Holds : List ℕ → Record → Type 0) (lab : Lab) (moment : ℕ) (person : List ℕ)
    (case : Case) → OfEach Holds lab → WhereMade Holds case
    → WhereThere (OfEach Holds) (ended lab moment person case).after
ended_keeps Holds lab moment person (Refuses refusal) holds makes = holds
ended_keeps Holds lab moment person (Fails occasion failure) holds makes =
    failed_keeps Holds lab moment occasion failure holds
ended_keeps Holds lab moment person (Reads reply) holds makes = holds
ended_keeps Holds lab moment person (Makes reply deed after) holds makes =
    made_keeps Holds lab after moment person reply deed holds makes

opened_keeps : (Holds : List ℕ → Record → Type 0) (lab : Lab) (moment : ℕ) (code : List ℕ)
    (case : Case) → OfEach Holds lab → WhereMade Holds case
    → WhereThere (OfEach Holds) (opened lab moment code case).after
opened_keeps Holds lab moment code (Refuses refusal) holds makes = holds
opened_keeps Holds lab moment code (Fails occasion failure) holds makes =
    failed_keeps Holds (at_moment moment lab) moment occasion failure holds
opened_keeps Holds lab moment code (Reads reply) holds makes = holds
opened_keeps Holds lab moment code (Makes reply deed after) holds makes =
    made_keeps Holds lab (at_moment moment after) moment code reply deed holds makes

-- ---- what follows a rule

then_case_keeps : {A : Type 0} (Holds : List ℕ → Record → Type 0) (result : Result A Refusal)
    (next : A → Case) → ((value : A) → result ≡ Ok value → WhereMade Holds (next value))
    → WhereMade Holds (then_case result next)
then_case_keeps Holds (Err refusal) next makes = tt
then_case_keeps Holds (Ok value) next makes = makes value refl

then_person_keeps : {A : Type 0} (Holds : List ℕ → Record → Type 0)
    (result : Result A PeopleRefusal) (next : A → Case)
    → ((value : A) → WhereMade Holds (next value)) → WhereMade Holds (then_person result next)
then_person_keeps Holds (Err refusal) next makes = tt
then_person_keeps Holds (Ok value) next makes = makes value

then_read_keeps : {A : Type 0} (Holds : List ℕ → Record → Type 0) (result : Result A Refusal)
    (reply : A → Reply) → WhereMade Holds (then_read result reply)
then_read_keeps Holds (Err refusal) reply = tt
then_read_keeps Holds (Ok value) reply = tt

opened_case_keeps : (Holds : List ℕ → Record → Type 0) (lab : Lab)
    (result : Result Opened PeopleFault) → OfEach Holds lab
    → WhereMade Holds (opened_case lab result)
opened_case_keeps Holds lab (Err (Failed failure)) holds = tt
opened_case_keeps Holds lab (Err (IsRefused refusal)) holds = tt
opened_case_keeps Holds lab (Ok result) holds = holds

changed_case_keeps : (Holds : List ℕ → Record → Type 0) (lab : Lab) (moment : ℕ)
    (result : Result PasswordChanged PeopleFault) → OfEach Holds lab
    → WhereMade Holds (changed_case lab moment result)
changed_case_keeps Holds lab moment (Err (Failed failure)) holds = tt
changed_case_keeps Holds lab moment (Err (IsRefused refusal)) holds = tt
changed_case_keeps Holds lab moment (Ok result) holds = holds

-- ---- records

record_keeps : (Holds : List ℕ → Record → Type 0) → StaysTrue Holds → (lab : Lab)
    (form : Option FormVersion) (found : Option Record) (sample caller : List ℕ)
    (moment records : ℕ) (kept : Record) → OfEach Holds lab
    → opening_record form found sample caller moment records ≡ Ok kept
    → OfEach Holds (record lab { records = lab.records ++ kept ∷ [] })
record_keeps Holds true_still lab form found sample caller moment records kept holds is =
    let said = opening_said form found sample caller moment records kept is in
    All-push (Holds lab.code) lab.records kept holds
    (rw said.1 (true_still.opened lab.code said.0 sample caller moment records))

entry_keeps : (Holds : List ℕ → Record → Type 0) → StaysTrue Holds → (lab : Lab) (number : ℕ)
    (item : Item) (reason : Option (List ℕ)) (caller : List ℕ) (moment : ℕ) (answer : EntryMade)
    → OfEach Holds lab
    → entering lab.code (record_of lab.records number) item reason caller moment ≡ Ok answer
    → All (Holds lab.code) (in_record answer.number (entered_in answer.row) lab.records)
entry_keeps Holds true_still lab number item reason caller moment answer holds is =
    let said = entry_said lab.code (record_of lab.records number) item reason caller moment answer
    is in
    rw said.number (rw (number_found lab.records number said.kept said.record_is)
    (each_in_record (Holds lab.code) number (entered_in answer.row) said.kept lab.records
    said.record_is
    (true_still.entered lab.code said.kept said.version answer.row said.last said.is_so) holds))

amendment_keeps : (Holds : List ℕ → Record → Type 0) → StaysTrue Holds → (lab : Lab) (number : ℕ)
    (reason : Option (List ℕ)) (altered : List Item) (caller : List ℕ) (moment : ℕ)
    (answer : AmendmentMade) → OfEach Holds lab
    → amending lab.code (record_of lab.records number) reason altered caller moment ≡ Ok answer
    → All (Holds lab.code) (in_record answer.number (opened_in answer.version) lab.records)
amendment_keeps Holds true_still lab number reason altered caller moment answer holds is =
    let said = amendment_said lab.code (record_of lab.records number) reason altered caller moment
    answer is in
    rw said.number (rw (number_found lab.records number said.kept said.record_is) (rw said.next
    (each_in_record (Holds lab.code) number
    (opened_in (next_version lab.code said.kept said.version said.reason altered caller moment))
    said.kept lab.records said.record_is
    (true_still.amended lab.code said.kept said.version said.reason altered caller moment said.last
    said.settled) holds)))

signature_keeps : (Holds : List ℕ → Record → Type 0) → StaysTrue Holds → (lab : Lab)
    (number version : ℕ) (digest : List ℕ) (signing : Signing) (person : Person) (moment : ℕ)
    (answer : SignatureMade) → OfEach Holds lab
    → signing_record lab.code (record_of lab.records number) version digest signing person moment
    ≡ Ok answer
    → All (Holds lab.code)
    (in_record answer.number (signed_in answer.version answer.signature) lab.records)
signature_keeps Holds true_still lab number version digest signing person moment answer holds is =
    let said = signature_said lab.code (record_of lab.records number) version digest signing person
    moment answer is in
    rw said.number_is (rw (number_found lab.records number said.kept said.record_is)
    (rw said.signed_is (rw (version_found said.kept.versions version said.version said.version_is)
    (rw said.signature_is (each_in_record (Holds lab.code) number
    (signed_in version (new_signature lab.code person signing moment digest)) said.kept
    lab.records said.record_is
    (true_still.signed lab.code said.kept said.version version digest signing person moment
    said.version_is said.taken) holds)))))

signing_keeps : (Holds : List ℕ → Record → Type 0) → StaysTrue Holds → (lab : Lab) (moment : ℕ)
    (session : Session) (number version : ℕ) (digest : List ℕ) (signing : Signing)
    (result : Result Person Failure) → OfEach Holds lab
    → WhereMade Holds (signing_by lab moment session number version digest signing result)
signing_keeps Holds true_still lab moment session number version digest signing (Err failure)
    holds =
    tt
signing_keeps Holds true_still lab moment session number version digest signing (Ok person) holds =
    then_case_keeps Holds
    (signing_record lab.code (record_of lab.records number) version digest signing person moment)
    (signature_case lab session person)
    (λ answer is. signature_keeps Holds true_still lab number version digest signing person moment
    answer holds is)

wanted_if : (Holds : List ℕ → Record → Type 0) (refusal : Refusal) (case : Case) (wanted : Bool)
    → WhereMade Holds case → WhereMade Holds (cond wanted (Refuses refusal) case)
wanted_if Holds refusal case true makes = tt
wanted_if Holds refusal case false makes = makes

-- ---- each command

own_keeps : (Holds : List ℕ → Record → Type 0) → StaysTrue Holds → (lab : Lab) (tick : Tick)
    (session : Session) (caller : Person) (command : SessionCommand) → OfEach Holds lab
    → WhereMade Holds (own lab tick session caller command)
unfolding own_on_account own_on_record own_reading
own_keeps Holds true_still lab tick session caller (OnAccount Close) holds = holds
own_keeps Holds true_still lab tick session caller (OnAccount (ChangePassword old new)) holds =
    changed_case_keeps Holds lab tick.moment (changing caller session old new tick) holds
own_keeps Holds true_still lab tick session caller (OnAccount (Enrol code name roles)) holds =
    then_person_keeps Holds
    (enrolling code name roles (person_at lab code) (length lab.persons)) (enrolled_case lab)
    (λ value. holds)
own_keeps Holds true_still lab tick session caller (Reading ReadPersons) holds = tt
own_keeps Holds true_still lab tick session caller (OnAccount (AskIssue code)) holds =
    then_person_keeps Holds (asking caller.code (person_at lab code) tick) (asked_case lab)
    (λ value. holds)
own_keeps Holds true_still lab tick session caller (OnAccount (ConfirmIssue code)) holds =
    then_person_keeps Holds (confirming caller.code (person_at lab code) tick) (confirmed_case lab)
    (λ value. holds)
own_keeps Holds true_still lab tick session caller (OnAccount (SetRoles code roles)) holds =
    then_person_keeps Holds (setting_roles caller.code (person_at lab code) roles) (roles_case lab)
    (λ value. holds)
own_keeps Holds true_still lab tick session caller (OnAccount (Retire code)) holds =
    then_person_keeps Holds (retiring caller.code (person_at lab code)) (retired_case lab)
    (λ value. holds)
own_keeps Holds true_still lab tick session caller (OnAccount (Unlock code)) holds =
    then_person_keeps Holds (unlocking caller.code (person_at lab code)) (unlocked_case lab)
    (λ value. holds)
own_keeps Holds true_still lab tick session caller (OnRecord (MakeForm code form)) holds =
    then_case_keeps Holds (making code form (last_form lab.forms code)) (form_case lab)
    (λ value is. holds)
own_keeps Holds true_still lab tick session caller (Reading (ReadForm code version)) holds =
    then_read_keeps Holds (reading_form (exact_form lab.forms code version)) FormRead
own_keeps Holds true_still lab tick session caller (OnRecord (OpenRecord form sample)) holds =
    then_case_keeps Holds
    (opening_record (last_form lab.forms form) (record_about lab.records form sample) sample
    caller.code tick.moment (length lab.records)) (record_case lab)
    (λ kept is. record_keeps Holds true_still lab (last_form lab.forms form)
    (record_about lab.records form sample) sample caller.code tick.moment (length lab.records) kept
    holds is)
own_keeps Holds true_still lab tick session caller (OnRecord (Enter number item reason)) holds =
    then_case_keeps Holds
    (entering lab.code (record_of lab.records number) item reason caller.code tick.moment)
    (entry_case lab)
    (λ answer is. entry_keeps Holds true_still lab number item reason caller.code tick.moment answer
    holds is)
own_keeps Holds true_still lab tick session caller (OnRecord (Amend number reason altered)) holds =
    then_case_keeps Holds
    (amending lab.code (record_of lab.records number) reason altered caller.code tick.moment)
    (amendment_case lab)
    (λ answer is. amendment_keeps Holds true_still lab number reason altered caller.code tick.moment
    answer holds is)
own_keeps Holds true_still lab tick session caller
    (OnRecord (Sign number version digest signing password code))
    holds =
    wanted_if Holds _ (signing_by lab tick.moment session number version digest signing
    (signing_attempt caller code password tick.moment)) (is_code_wanted session code)
    (signing_keeps Holds true_still lab tick.moment session number version digest signing
    (signing_attempt caller code password tick.moment) holds)
own_keeps Holds true_still lab tick session caller (Reading (ReadRecord number)) holds =
    then_read_keeps Holds (reading_record lab.code (record_of lab.records number)) RecordRead
own_keeps Holds true_still lab tick session caller (Reading (ReadVersion number version)) holds =
    then_read_keeps Holds (reading_version lab.code (record_of lab.records number) version)
    VersionRead
own_keeps Holds true_still lab tick session caller (Reading (ReadRecords from to)) holds = tt
own_keeps Holds true_still lab tick session caller (Reading (ReadTrail from to)) holds = tt
own_keeps Holds true_still lab tick session caller (Reading (TakeCopy from to)) holds = tt

-- ---- a step

in_keeps : (Holds : List ℕ → Record → Type 0) → StaysTrue Holds → (lab : Lab) (tick : Tick)
    (command : SessionCommand) (reached : Passage) → OfEach Holds lab
    → WhereThere (OfEach Holds) (answered_in lab tick command reached).after
in_keeps Holds true_still lab tick command Stranger holds = holds
in_keeps Holds true_still lab tick command (Barred session refusal) holds = holds
in_keeps Holds true_still lab tick command (Passes session caller) holds =
    ended_keeps Holds (touched lab tick.moment session) tick.moment caller.code
    (own (touched lab tick.moment session) tick (touched_session tick.moment session) caller
    command)
    holds
    (own_keeps Holds true_still (touched lab tick.moment session) tick
    (touched_session tick.moment session) caller command holds)

answered_keeps : (Holds : List ℕ → Record → Type 0) → StaysTrue Holds → (lab : Lab) (tick : Tick)
    (session : Option Session) (command : Command) → OfEach Holds lab
    → WhereThere (OfEach Holds) (answered lab tick session command).after
answered_keeps Holds true_still lab tick session Card holds = holds
answered_keeps Holds true_still lab tick session (Open code password) holds =
    opened_keeps Holds lab tick.moment code (opening_case lab tick code password) holds
    (opened_case_keeps Holds lab (opening code (person_at lab code) password tick
    (length lab.sessions) (session_at lab (token_digest tick))) holds)
answered_keeps Holds true_still lab tick session (In command) holds =
    in_keeps Holds true_still lab tick command _ holds

timely_keeps : (Holds : List ℕ → Record → Type 0) (early : Bool) (lab : Lab) (reply : Reply)
    (other : Stepped) → OfEach Holds lab → WhereThere (OfEach Holds) other.after
    → WhereThere (OfEach Holds) (cond early (stays lab reply) other).after
timely_keeps Holds true lab reply other holds others = holds
timely_keeps Holds false lab reply other holds others = others

-- each record of a laboratory keeps what the rules keep, whatever the instruction
pub step_keeps : (Holds : List ℕ → Record → Type 0) → StaysTrue Holds → (lab : Lab) (tick : Tick)
    (instruction : Instruction) → OfEach Holds lab
    → WhereThere (OfEach Holds) (step (Some lab) tick instruction).after
step_keeps Holds true_still lab tick instruction holds =
    timely_keeps Holds (nat_lt tick.moment lab.last) lab (Refused ClockBehind)
    (answered lab tick (named_session lab instruction.token) instruction.command) holds
    (answered_keeps Holds true_still lab tick (named_session lab instruction.token)
    instruction.command holds)
