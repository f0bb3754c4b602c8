-- What clauses of private functions say beside Checks.antt.
use Rattle.std.specs.Prelude.{ℕ}
use Rattle.lab_copy_rows.specs.declared.flaws.Flaw.TheVariants as flaw
use Rattle.lab_forms_texts.specs.declared.refusals.Fault.{Fault}
use Rattle.lab_forms_texts.specs.declared.refusals.Fault.TheVariants as row_fault
use Rattle.lab_copy_lines.specs.declared.faults.BadRow.{BadRow}
use Rattle.lab_copy.specs.declared.faults.CopyFault.{CopyFault}
use Rattle.lab_copy.specs.declared.faults.CopyFault.TheVariants.{Flawed, Memory}

-- the fault of a check whose row wasn't read
abbrev pub fault_at : ℕ → Fault BadRow → CopyFault
fault_at row (row_fault.Refused _) = Flawed (flaw.BadRow row)
fault_at row row_fault.Memory = Memory (record {})
