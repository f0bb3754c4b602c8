-- Where a command makes something, so that memory may run out: where its rule gives what is asked
-- for, and a list where it has a line. A refusal makes nothing, and is told as it is. Two commands
-- make something before their last refusals are found: an amendment is held against a table of the
-- rows that stand, and a signature against the version's digest.
use Rattle.std.specs.Prelude.{ℕ, Bool, true, false, not, ◌==◌, List, length, Option, Result, Ok, Err, is_ok, if◌then◌else◌}
use Rattle.lab_forms_texts.specs.declared.tick.Tick.{Tick}
use Rattle.lab_people_access.specs.declared.persons.Person.{Person}
use Rattle.lab_people_access.specs.declared.sessions.Session.{Session}
use Rattle.lab_people_access.specs.declared.refusals.Failure.{Failure}
use Rattle.lab_people_access.specs.Attempts.{signing_attempt}
use Rattle.lab_records_kept.specs.declared.needs.Slice.{Slice}
use Rattle.lab_records_kept.specs.declared.records.Record.{Record}
use Rattle.lab_records_rules.specs.declared.outcomes.Signing.{Signing}
use Rattle.lab_records_versions.specs.Entering.{is_table_made}
use Rattle.lab_records_versions.specs.Signing.{is_code_wanted, is_digest_made_at}
use Rattle.lab_records_rules.specs.Reading.{reading_record, reading_version}
use Rattle.lab_records_machine.specs.declared.commands.SessionCommand.{SessionCommand}
use Rattle.lab_records_machine.specs.declared.commands.SessionCommand.TheVariants.{OnAccount, OnRecord, Reading}
use Rattle.lab_records_machine.specs.declared.commands.RecordCommand.{RecordCommand}
use Rattle.lab_records_machine.specs.declared.commands.RecordCommand.TheVariants.{Amend, Sign}
use Rattle.lab_records_machine.specs.declared.commands.ReadingCommand.{ReadingCommand}
use Rattle.lab_records_machine.specs.declared.commands.ReadingCommand.TheVariants.{ReadPersons, ReadForm, ReadRecord, ReadVersion, ReadRecords, ReadTrail, TakeCopy}
use Rattle.lab_records_machine.specs.declared.done.Done.{Done}
use Rattle.lab_records_machine.specs.declared.done.Done.TheVariants.{Made}
use Rattle.lab_records_machine.specs.Done.{done_on_account, done_on_record}

-- the digest of the version that is signed, once the password was accepted
abbrev pub is_digest_made_by : Option Record → ℕ → Signing → Result Person Failure → Bool
is_digest_made_by filed version signing (Err failure) = false
is_digest_made_by filed version signing (Ok person) = is_digest_made_at filed version signing

-- what is told in lines, a line each
abbrev pub has_lines : {A : Type 0} → List A → Bool
has_lines listed = not (length listed == 0)

-- what a command comes to is made
abbrev pub is_made_of : Done → Bool
is_made_of (Made reply deed changes) = true
is_made_of _ = false

-- on forms and records: an amendment and a signature make something before they are refused last
unfoldable pub makes_on_record : Slice → Tick → Session → Person → RecordCommand → Bool
makes_on_record slice tick session caller (Amend number reason altered) =
    is_table_made slice.filed reason altered
makes_on_record slice tick session caller (Sign number version digest signing password code) =
    if is_code_wanted session code then false
    else is_digest_made_by slice.filed version signing
    (signing_attempt caller code password tick.moment)
makes_on_record slice tick session caller command =
    is_made_of (done_on_record slice tick session caller command)

-- where it only reads: a form and the trail are read as they stand in the part, and a copy has the
-- row at its head in any case
unfoldable pub makes_reading : Slice → ReadingCommand → Bool
makes_reading slice ReadPersons = has_lines slice.persons
makes_reading slice (ReadForm code version) = false
makes_reading slice (ReadRecord number) = is_ok (reading_record slice.code slice.filed)
makes_reading slice (ReadVersion number version) =
    is_ok (reading_version slice.code slice.filed version)
makes_reading slice (ReadRecords from to) = has_lines slice.records
makes_reading slice (ReadTrail from to) = false
makes_reading slice (TakeCopy from to) = true

-- in a session
abbrev pub makes : Slice → Tick → Session → Person → SessionCommand → Bool
makes slice tick session caller (OnAccount command) =
    is_made_of (done_on_account slice tick session caller command)
makes slice tick session caller (OnRecord command) =
    makes_on_record slice tick session caller command
makes slice tick session caller (Reading command) = makes_reading slice command
