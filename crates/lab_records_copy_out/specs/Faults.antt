-- Why a copy didn't go out whole: numbers and words, and where each fault may be told.
use Rattle.std.specs.Prelude.{ℕ, List, Option, Some, None, Result, Ok, Err, codes}
use Rattle.lab_forms_texts.specs.Faults.{memory_entry}
use Rattle.lab_forms_texts.specs.declared.refusals.Fault.{Fault}
use Rattle.lab_forms_texts.specs.declared.refusals.Fault.TheVariants.{Refused, Memory as NoMemory}
use Rattle.lab_records_keeper.specs.declared.faults.BadStore.{BadStore}
use Rattle.lab_records_keeper.specs.Faults.{storage_entry}
use Rattle.lab_records_kept.specs.Faults.{no_such_lab_entry}
use Rattle.lab_copy_rows.specs.declared.faults.CopyOutFault.{CopyOutFault as RowFault}
use Rattle.lab_copy_rows.specs.declared.faults.CopyOutFault.TheVariants.{Write as NotWritten, Memory as NoRoom}
use Rattle.lab_records_copy_out.specs.declared.faults.CopyOutFault.{CopyOutFault}
use Rattle.lab_records_copy_out.specs.declared.faults.CopyOutFault.TheVariants.{NoSuchLab, Storage, Memory, Write}

-- the number and the word of a fault (docs/REFUSALS.md); a write fault has no number, since no
-- reply tells of it
abbrev pub copy_fault_number : CopyOutFault → Option ℕ
copy_fault_number NoSuchLab = Some no_such_lab_entry.number
copy_fault_number Storage = Some storage_entry.number
copy_fault_number Memory = Some memory_entry.number
copy_fault_number Write = None

abbrev pub copy_fault_word : CopyOutFault → List ℕ
copy_fault_word NoSuchLab = no_such_lab_entry.word
copy_fault_word Storage = storage_entry.word
copy_fault_word Memory = memory_entry.word
copy_fault_word Write = codes "write_fault"

-- what a fault of the keeper, and one of a row that didn't go out, are told as
abbrev pub keeper_told : Fault BadStore → CopyOutFault
keeper_told (Refused _) = Storage
keeper_told NoMemory = Memory

abbrev pub row_told : RowFault → CopyOutFault
row_told NotWritten = Write
row_told NoRoom = Memory

-- that there is no laboratory is told only where there is none; the keeper's store is blamed only
-- where it may refuse, and the writer only where there is a copy to be written
abbrev pub CopyFaultFits : Type 0 → Type 0 → Type 0 → CopyOutFault → Type 0
CopyFaultFits is_none may_refuse is_some NoSuchLab = is_none
CopyFaultFits is_none may_refuse is_some Storage = may_refuse
CopyFaultFits is_none may_refuse is_some Memory = Unit {0}
CopyFaultFits is_none may_refuse is_some Write = is_some

-- a fact on a copy for which the keeper told whether there is a laboratory: it went out, or there
-- is none
abbrev pub OnTold : Result (Unit {0}) CopyOutFault → Type 0 → Type 0
OnTold (Ok _) P = P
OnTold (Err NoSuchLab) P = P
OnTold (Err Storage) P = Unit {0}
OnTold (Err Memory) P = Unit {0}
OnTold (Err Write) P = Unit {0}
