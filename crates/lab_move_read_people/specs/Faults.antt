-- The number and the word of each fault of reading rows, and what a fault of the store is for whoever
-- reads them.
use Rattle.std.specs.Prelude.{codes}
use Rattle.lab_forms_texts.specs.Faults.{Entry, memory_entry}
use Rattle.lab_forms_texts.specs.declared.refusals.Fault.{Fault}
use Rattle.lab_forms_texts.specs.declared.refusals.Fault.TheVariants as read
use Rattle.lab_records_keeper.specs.declared.faults.BadStore.{BadStore}
use Rattle.lab_records_keeper.specs.Faults.{storage_entry}
use Rattle.lab_move_read_people.specs.declared.faults.KeptFault.{KeptFault}
use Rattle.lab_move_read_people.specs.declared.faults.KeptFault.TheVariants.{NotKept, Storage, Memory}

abbrev pub kept_fault_entry : KeptFault → Entry
kept_fault_entry NotKept = record { number = 66; word = codes "not_sound" }
kept_fault_entry Storage = storage_entry
kept_fault_entry Memory = memory_entry

abbrev pub kept_fault : Fault BadStore → KeptFault
kept_fault (read.Refused _) = Storage
kept_fault read.Memory = Memory
