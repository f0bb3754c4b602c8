-- What is asked rightly: a form that a command makes has no more fields than a form may; and what
-- is asked with a form: the fields of a form that a command makes are such as a form has.
use Rattle.std.specs.Prelude.{◌≤◌, length, IsTrue}
use Rattle.lab_forms.specs.Forms.{field_limit, is_form}
use Rattle.lab_records_machine.specs.declared.commands.Command.{Command}
use Rattle.lab_records_machine.specs.declared.commands.Command.TheVariants.{In}
use Rattle.lab_records_machine.specs.declared.commands.SessionCommand.TheVariants.{OnRecord}
use Rattle.lab_records_machine.specs.declared.commands.RecordCommand.TheVariants.{MakeForm}
use Rattle.lab_records_machine.specs.declared.commands.Instruction.{Instruction}

-- the form of a command that makes one has no more fields than it may
abbrev pub IsCommandRight : Command → Type 0
IsCommandRight (In (OnRecord (MakeForm code form))) = length form.fields ≤ field_limit
IsCommandRight _ = Unit {0}

abbrev pub IsAskedRightly : Instruction → Type 0
IsAskedRightly instruction = IsCommandRight instruction.command

-- the fields of such a form are those of a form: one or more that a form may have, within the
-- limit, no two with one key
abbrev pub IsCommandFormed : Command → Type 0
IsCommandFormed (In (OnRecord (MakeForm code form))) = IsTrue (is_form form.fields)
IsCommandFormed _ = Unit {0}
