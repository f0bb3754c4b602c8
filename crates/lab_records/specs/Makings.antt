-- Where something is made, so that memory may run out: the note that a request came by a session,
-- where it isn't noted already; a session that a command passes with; the card, and what an opening
-- makes, or what its failed password changes. A refusal that notes nothing is told as it is.
use Rattle.std.specs.Prelude.{ℕ, Bool, true, false, not, nat_lt, [], if◌then◌else◌}
use Rattle.lab_forms_texts.specs.declared.tick.Tick.{Tick}
use Rattle.lab_people_access.specs.Openings.{opening}
use Rattle.lab_records_kept.specs.declared.needs.Slice.{Slice}
use Rattle.lab_records_machine.specs.declared.commands.Command.{Command}
use Rattle.lab_records_machine.specs.declared.commands.Command.TheVariants.{Card, Open, In}
use Rattle.lab_records_machine.specs.declared.passages.Passage.{Passage}
use Rattle.lab_records_machine.specs.declared.passages.Passage.TheVariants.{Stranger, Barred, Passes}
use Rattle.lab_records_machine.specs.Policy.{rule_of}
use Rattle.lab_records_machine.specs.Machine.{passage}
use Rattle.lab_records_machine.specs.declared.done.Done.{Done}
use Rattle.lab_records_machine.specs.declared.done.Done.TheVariants.{Refused, Failed, Read, Made}
use Rattle.lab_records_machine.specs.Done.{opened_done}
use Rattle.lab_records_laws.specs.Deciding.{is_noted}

abbrev pub is_refusal : Done → Bool
is_refusal (Refused refusal) = true
is_refusal (Failed occasion failure) = false
is_refusal (Read reply) = false
is_refusal (Made reply deed changes) = false

-- a command in a session, by how far it gets, where that was the laboratory's last moment
abbrev pub is_made_in : ℕ → ℕ → Passage → Bool
is_made_in last moment Stranger = false
is_made_in last moment (Barred session refusal) = not (is_noted last moment session [])
is_made_in last moment (Passes session caller) = true

-- by the command
abbrev pub is_made_by : Slice → Tick → Command → Bool
is_made_by slice tick Card = true
is_made_by slice tick (Open code password) =
    not (is_refusal
    (opened_done (opening code slice.person password tick slice.counts.sessions slice.session)))
is_made_by slice tick (In command) =
    is_made_in slice.last tick.moment
    (passage slice.session slice.caller tick.moment (rule_of command))

-- the clock first
abbrev pub is_made : Slice → Tick → Command → Bool
is_made slice tick command =
    if nat_lt tick.moment slice.last then false else is_made_by slice tick command
