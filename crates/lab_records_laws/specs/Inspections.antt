-- The copies that a laboratory hands out to inspectors and managers are sound (21 CFR 11.10(b),
-- "accurate and complete copies of records"): whoever checks one finds no flaw.
use Rattle.std.specs.Prelude.{◌≡◌, ◌≤◌, ℕ, List, Option, Some}
use Rattle.lab_forms_texts.specs.declared.tick.Tick.{Tick}
use Rattle.lab_people_access.specs.declared.persons.Person.{Person}
use Rattle.lab_records_kept.specs.declared.labs.Lab.{Lab}
use Rattle.lab_records_kept.specs.Bound.{IsBound}
use Rattle.lab_records_kept.specs.Dual.{IsDual}
use Rattle.lab_records_kept.specs.Limits.{IsWithin}
use Rattle.lab_records_kept.specs.Lookups.{caller_of, records_within}
use Rattle.lab_copy_rows.specs.Copies.{counts_of, IsSoundCopy}
use Rattle.lab_copy_rows.specs.declared.lines.Counts.{Counts}
use Rattle.lab_records_copies.specs.CopyLines.{body_lines}
use Rattle.lab_records_copies.specs.Soundness.{AreLines}
use Rattle.lab_records_machine.specs.declared.commands.Command.TheVariants.{In}
use Rattle.lab_records_machine.specs.declared.commands.SessionCommand.TheVariants.{Reading}
use Rattle.lab_records_machine.specs.declared.commands.ReadingCommand.TheVariants.{TakeCopy}
use Rattle.lab_records_machine.specs.declared.replies.Reply.{Reply}
use Rattle.lab_records_machine.specs.declared.replies.Reply.TheVariants.{Copied}
use Rattle.lab_records_machine.specs.Own.{copy_order}
use Rattle.lab_records_machine.specs.Machine.{named_session, step}

-- a fact on the rows of a copy, where one is replied
abbrev pub IfCopied : (List (List (List ℕ)) → Type 0) → Reply → Type 0
IfCopied Holds (Copied rows) = Holds rows
IfCopied Holds _ = Unit {0}

-- how many rows of each kind the records of a range have
abbrev pub counts_within : Lab → ℕ → ℕ → Counts
counts_within lab from to = counts_of (body_lines lab.code (records_within from to lab.records))

-- codes, names, notes, numbers and moments in the copy that the caller would be given are such as
-- their types admit
abbrev pub AreCopiable : Lab → ℕ → Option (List ℕ) → ℕ → ℕ → Type 0
AreCopiable lab moment token from to =
    (caller : Person) → caller_of lab (named_session lab token) ≡ Some caller
    → AreLines lab (copy_order from to caller.code moment)

-- where a copy is asked for and given, it is sound
abbrev pub HandsOutSoundCopies : Type 0
HandsOutSoundCopies =
    (lab : Lab) (tick : Tick) (token : Option (List ℕ)) (from to : ℕ) → from ≤ to → IsBound lab
    → IsDual lab → IsWithin lab → AreCopiable lab tick.moment token from to
    → IfCopied (λ rows. IsSoundCopy rows (counts_within lab from to))
    (step (Some lab) tick
    (record { token = token; command = In (Reading (TakeCopy from to)) })).reply
