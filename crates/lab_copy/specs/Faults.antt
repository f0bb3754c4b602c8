-- What a check of a copy answers, and the numbers and words by which the interface tells it
-- (docs/REFUSALS.md).
use Rattle.std.specs.Prelude.{◌≡◌, ℕ, List, codes, Option, Some, None, Result, Ok, Err}
use Rattle.lab_forms_texts.specs.Faults.{memory_entry}
use Rattle.lab_copy_rows.specs.Flaws.{flaw_entry}
use Rattle.lab_copy_rows.specs.declared.flaws.Flaw.{Flaw}
use Rattle.lab_copy_rows.specs.declared.lines.Counts.{Counts}
use Rattle.lab_copy.specs.declared.faults.CopyFault.{CopyFault}
use Rattle.lab_copy.specs.declared.faults.CopyFault.TheVariants.{Flawed, Read, Memory}

-- yes, with the counts, or the first flaw; that the input failed says nothing of the copy, nor that
-- memory ran out: the reader of CSV makes what holds a row before it looks at one
abbrev pub IsAnswer : Result Counts Flaw → Result Counts CopyFault → Type 0
IsAnswer verdict (Ok counts) = verdict ≡ Ok counts
IsAnswer verdict (Err (Flawed flaw)) = verdict ≡ Err flaw
IsAnswer verdict (Err Read) = Unit {0}
IsAnswer verdict (Err (Memory _)) = Unit {0}

-- the number and the word of a fault; no reply tells of a read fault, so it has no number
abbrev pub fault_number : CopyFault → Option ℕ
fault_number (Flawed flaw) = Some (flaw_entry flaw).number
fault_number Read = None
fault_number (Memory _) = Some memory_entry.number

abbrev pub fault_word : CopyFault → List ℕ
fault_word (Flawed flaw) = (flaw_entry flaw).word
fault_word Read = codes "read_fault"
fault_word (Memory _) = memory_entry.word
