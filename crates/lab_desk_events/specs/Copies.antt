-- Copies that are replied (21 CFR 11.10(b), "accurate and complete copies of records"): what is asked
-- for is such as its types admit, and what is handed out is sound, so that whoever checks it finds
-- no flaw.
use Rattle.std.specs.Prelude.{◌≤◌, ℕ, Some, Err, Ok}
use Rattle.lab_forms_texts.specs.declared.tick.Tick.{Tick}
use Rattle.lab_copy_rows.specs.Copies.{IsSoundCopy}
use Rattle.lab_records_kept.specs.declared.labs.Lab.{Lab}
use Rattle.lab_records_keeper.specs.Worlds.{Meaning}
use Rattle.lab_records_copy_out.specs.Legible.{IsLegibleOrder}
use Rattle.lab_records_copy_out.specs.CopyTexts.{desk_order}
use Rattle.lab_records_machine.specs.declared.commands.Command.{Command}
use Rattle.lab_records_machine.specs.declared.commands.Command.TheVariants.{In}
use Rattle.lab_records_machine.specs.declared.commands.SessionCommand.TheVariants.{Reading}
use Rattle.lab_records_machine.specs.declared.commands.ReadingCommand.TheVariants.{TakeCopy}
use Rattle.lab_records_machine.specs.declared.replies.Reply.{Reply}
use Rattle.lab_records_machine.specs.Machine.{step}
use Rattle.lab_records_laws.specs.Inspections.{IfCopied, counts_within}
use Rattle.lab_records_laws.specs.Stepping.{WhereThere}
use Rattle.lab_desk_events.specs.Requests.{AskedInBytes}

-- the range of a copy and the moment at which it is asked for are such as their types admit
abbrev pub IsAskedLegibly : ℕ → Command → Type 0
IsAskedLegibly moment (In (Reading (TakeCopy from to))) =
    IsLegibleOrder (desk_order from to moment)
IsAskedLegibly moment _ = Unit {0}

-- a copy that is replied, of a range that is none backwards, is sound, and its end tells how many
-- rows of each kind the records of the range have
abbrev pub IsSoundReply : Command → Lab → Reply → Type 0
IsSoundReply (In (Reading (TakeCopy from to))) lab reply =
    from ≤ to → IfCopied (λ rows. IsSoundCopy rows (counts_within lab from to)) reply
IsSoundReply _ lab reply = Unit {0}

-- so it is where bytes ask a laboratory for one
abbrev pub IsSoundAnswer : Meaning → Tick → AskedInBytes → Type 0
IsSoundAnswer meaning tick (Err refusal) = Unit {0}
IsSoundAnswer meaning tick (Ok asked) = WhereThere (λ lab.
    IsSoundReply asked.instruction.command lab
    (step (Some lab) tick asked.instruction).reply) (meaning asked.lab)
