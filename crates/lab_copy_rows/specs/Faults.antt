-- The numbers and words by which it is told why a copy didn't go out whole (docs/REFUSALS.md); a write
-- fault has no number, since no reply tells of it.
use Rattle.std.specs.Prelude.{ℕ, List, Option, Some, None, codes}
use Rattle.lab_forms_texts.specs.Faults.{memory_entry}
use Rattle.lab_copy_rows.specs.declared.faults.CopyOutFault.{CopyOutFault}
use Rattle.lab_copy_rows.specs.declared.faults.CopyOutFault.TheVariants.{Write, Memory}

abbrev pub out_fault_number : CopyOutFault → Option ℕ
out_fault_number Write = None
out_fault_number Memory = Some memory_entry.number

abbrev pub out_fault_word : CopyOutFault → List ℕ
out_fault_word Write = codes "write_fault"
out_fault_word Memory = memory_entry.word
