-- Which part of a laboratory an instruction needs: the session of its token, or of the token that
-- an opening would make, with its person; and the person, the version of a form, the record or the
-- list that the command names. An entry needs one record, and no list of anything.
use Rattle.std.specs.Prelude.{ℕ, List, Bool, ◌||◌, is_some, Option, Some, None, option_map}
use Rattle.sha2.specs.Sha256.{sha256}
use Rattle.lab_forms_texts.specs.declared.tick.Tick.{Tick}
use Rattle.lab_people_access.specs.Openings.{token_digest}
use Rattle.lab_records_kept.specs.declared.needs.Need.{Need}
use Rattle.lab_records_kept.specs.declared.needs.FormWanted.{FormWanted}
use Rattle.lab_records_kept.specs.declared.needs.FormWanted.TheVariants.{Last, Exact}
use Rattle.lab_records_kept.specs.declared.needs.RecordWanted.{RecordWanted}
use Rattle.lab_records_kept.specs.declared.needs.RecordWanted.TheVariants.{Numbered, About}
use Rattle.lab_records_kept.specs.declared.needs.ListWanted.{ListWanted}
use Rattle.lab_records_kept.specs.declared.needs.ListWanted.TheVariants.{Persons, Records, Trail}
use Rattle.lab_records_machine.specs.declared.commands.Command.{Command}
use Rattle.lab_records_machine.specs.declared.commands.Command.TheVariants.{Card, Open, In}
use Rattle.lab_records_machine.specs.declared.commands.SessionCommand.TheVariants.{OnAccount, OnRecord, Reading}
use Rattle.lab_records_machine.specs.declared.commands.AccountCommand.{AccountCommand}
use Rattle.lab_records_machine.specs.declared.commands.AccountCommand.TheVariants.{Close, ChangePassword, Enrol, AskIssue, ConfirmIssue, SetRoles, Retire, Unlock}
use Rattle.lab_records_machine.specs.declared.commands.RecordCommand.{RecordCommand}
use Rattle.lab_records_machine.specs.declared.commands.RecordCommand.TheVariants.{MakeForm, OpenRecord, Enter, Amend, Sign}
use Rattle.lab_records_machine.specs.declared.commands.ReadingCommand.{ReadingCommand}
use Rattle.lab_records_machine.specs.declared.commands.ReadingCommand.TheVariants.{ReadPersons, ReadForm, ReadRecord, ReadVersion, ReadRecords, ReadTrail, TakeCopy}
use Rattle.lab_records_machine.specs.declared.commands.Instruction.{Instruction}

-- the digest of the token by whose session the command is given; the card asks for none, and an
-- opening for the session that has its new token already (its person comes along, and nothing looks
-- at them)
abbrev pub token_in : Tick → Option (List ℕ) → Command → Option (List ℕ)
token_in tick token Card = None
token_in tick token (Open code password) = Some (token_digest tick)
token_in tick token (In command) = option_map sha256 token

-- the person whom a command on accounts is about
abbrev pub person_on_account : AccountCommand → Option (List ℕ)
person_on_account Close = None
person_on_account (ChangePassword old new) = None
person_on_account (Enrol code name roles) = Some code
person_on_account (AskIssue code) = Some code
person_on_account (ConfirmIssue code) = Some code
person_on_account (SetRoles code roles) = Some code
person_on_account (Retire code) = Some code
person_on_account (Unlock code) = Some code

-- the person whom the command is about
abbrev pub person_in : Command → Option (List ℕ)
person_in (Open code password) = Some code
person_in (In (OnAccount command)) = person_on_account command
person_in _ = None

-- the version of a form
abbrev pub form_in : Command → Option FormWanted
form_in (In (OnRecord (MakeForm code form))) = Some (Last code)
form_in (In (OnRecord (OpenRecord form sample))) = Some (Last form)
form_in (In (Reading (ReadForm code version))) = Some (Exact code version)
form_in _ = None

-- the record of a command that makes something of forms and records
abbrev pub record_on_record : RecordCommand → Option RecordWanted
record_on_record (MakeForm code form) = None
record_on_record (OpenRecord form sample) = Some (About form sample)
record_on_record (Enter number item reason) = Some (Numbered number)
record_on_record (Amend number reason altered) = Some (Numbered number)
record_on_record (Sign number version digest signing password code) = Some (Numbered number)

-- the record that is read
abbrev pub record_wanted : ReadingCommand → Option RecordWanted
record_wanted (ReadRecord number) = Some (Numbered number)
record_wanted (ReadVersion number version) = Some (Numbered number)
record_wanted _ = None

-- the record
abbrev pub record_in : Command → Option RecordWanted
record_in (In (OnRecord command)) = record_on_record command
record_in (In (Reading command)) = record_wanted command
record_in _ = None

-- the list that is read
abbrev pub list_read : ReadingCommand → Option ListWanted
list_read ReadPersons = Some Persons
list_read (ReadForm code version) = None
list_read (ReadRecord number) = None
list_read (ReadVersion number version) = None
list_read (ReadRecords from to) = Some (Records from to)
list_read (ReadTrail from to) = Some (Trail from to)
list_read (TakeCopy from to) = Some (Records from to)

-- the list
abbrev pub list_in : Command → Option ListWanted
list_in (In (Reading command)) = list_read command
list_in _ = None

-- all that an instruction needs
abbrev pub need_of : Tick → Instruction → Need
need_of tick instruction = record {
  token = token_in tick instruction.token instruction.command;
  person = person_in instruction.command;
  form = form_in instruction.command;
  filed = record_in instruction.command;
  list = list_in instruction.command;
}

-- whether a text is copied for the need: the code, the key or the name that the command names. A
-- number, a token's digest and a list's ends are none
abbrev pub names_text : Command → Bool
names_text command = is_some (person_in command) || is_some (form_in command)
