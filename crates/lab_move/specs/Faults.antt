-- The number and the word of each fault of a move, and what the faults of the crates below are told
-- as.
use Rattle.std.specs.Prelude.{Bool, true, false, codes}
use Rattle.lab_forms_texts.specs.Faults.{Entry}
use Rattle.lab_forms_texts.specs.declared.refusals.Fault.{Fault}
use Rattle.lab_forms_texts.specs.declared.refusals.Fault.TheVariants as read
use Rattle.lab_records_keeper.specs.declared.faults.BadStore.{BadStore}
use Rattle.lab_store_files.specs.declared.faults.FileFault.{FileFault}
use Rattle.lab_store_files.specs.declared.faults.FileFault.TheVariants.{NotADeskFile, SchemaOld, SchemaNew, Storage, NotEmpty, Memory}
use Rattle.lab_store_files.specs.Faults.{file_fault_entry}
use Rattle.lab_move.specs.declared.faults.MoveFault.{MoveFault}
use Rattle.lab_move.specs.declared.faults.MoveFault.TheVariants.{File, NotSound}

abbrev pub move_fault_entry : MoveFault → Entry
move_fault_entry (File fault) = file_fault_entry fault
move_fault_entry (NotSound _) = record { number = 66; word = codes "not_sound" }

-- what a fault of reading or writing rows is told as
abbrev pub read_told : Fault BadStore → FileFault
read_told (read.Refused _) = Storage
read_told read.Memory = Memory

-- it is known before anything is written: of the old file, or of the new one
abbrev pub is_early : MoveFault → Bool
is_early (File NotADeskFile) = true
is_early (File (SchemaOld _)) = true
is_early (File (SchemaNew _)) = true
is_early (File Storage) = false
is_early (File NotEmpty) = true
is_early (File Memory) = false
is_early (NotSound _) = false
