-- By which rule of the policy each command in a session is allowed (21 CFR 11.10(g)).
use Rattle.lab_people_access.specs.declared.policy.Rule.{Rule}
use Rattle.lab_people_access.specs.declared.policy.Rule.TheVariants.{CloseSession, ChangePassword as ByChangePassword, Enrol as ByEnrol, ReadPersons as ByReadPersons, AskIssue as ByAskIssue, ConfirmIssue as ByConfirmIssue, SetRoles as BySetRoles, Retire as ByRetire, Unlock as ByUnlock, MakeForm as ByMakeForm, ReadForm as ByReadForm, OpenRecord as ByOpenRecord, Enter as ByEnter, Amend as ByAmend, ReadRecord as ByReadRecord, ReadVersion as ByReadVersion, ReadRecords as ByReadRecords, ReadTrail as ByReadTrail, TakeCopy as ByTakeCopy}
use Rattle.lab_records_rules.specs.SigningPolicy.{signing_rule}
use Rattle.lab_records_machine.specs.declared.commands.SessionCommand.{SessionCommand}
use Rattle.lab_records_machine.specs.declared.commands.SessionCommand.TheVariants.{OnAccount, OnRecord, Reading}
use Rattle.lab_records_machine.specs.declared.commands.AccountCommand.{AccountCommand}
use Rattle.lab_records_machine.specs.declared.commands.AccountCommand.TheVariants.{Close, ChangePassword, Enrol, AskIssue, ConfirmIssue, SetRoles, Retire, Unlock}
use Rattle.lab_records_machine.specs.declared.commands.RecordCommand.{RecordCommand}
use Rattle.lab_records_machine.specs.declared.commands.RecordCommand.TheVariants.{MakeForm, OpenRecord, Enter, Amend, Sign}
use Rattle.lab_records_machine.specs.declared.commands.ReadingCommand.{ReadingCommand}
use Rattle.lab_records_machine.specs.declared.commands.ReadingCommand.TheVariants.{ReadPersons, ReadForm, ReadRecord, ReadVersion, ReadRecords, ReadTrail, TakeCopy}

abbrev pub rule_on_account : AccountCommand → Rule
rule_on_account Close = CloseSession
rule_on_account (ChangePassword old new) = ByChangePassword
rule_on_account (Enrol code name roles) = ByEnrol
rule_on_account (AskIssue code) = ByAskIssue
rule_on_account (ConfirmIssue code) = ByConfirmIssue
rule_on_account (SetRoles code roles) = BySetRoles
rule_on_account (Retire code) = ByRetire
rule_on_account (Unlock code) = ByUnlock

abbrev pub rule_on_record : RecordCommand → Rule
rule_on_record (MakeForm code form) = ByMakeForm
rule_on_record (OpenRecord form sample) = ByOpenRecord
rule_on_record (Enter number item reason) = ByEnter
rule_on_record (Amend number reason altered) = ByAmend
rule_on_record (Sign number version digest signing password code) = signing_rule signing

abbrev pub rule_of_reading : ReadingCommand → Rule
rule_of_reading ReadPersons = ByReadPersons
rule_of_reading (ReadForm code version) = ByReadForm
rule_of_reading (ReadRecord number) = ByReadRecord
rule_of_reading (ReadVersion number version) = ByReadVersion
rule_of_reading (ReadRecords from to) = ByReadRecords
rule_of_reading (ReadTrail from to) = ByReadTrail
rule_of_reading (TakeCopy from to) = ByTakeCopy

abbrev pub rule_of : SessionCommand → Rule
rule_of (OnAccount command) = rule_on_account command
rule_of (OnRecord command) = rule_on_record command
rule_of (Reading command) = rule_of_reading command
