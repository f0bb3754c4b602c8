-- The numbers and the words of a keeper's faults.
use Rattle.std.specs.Prelude.{codes}
use Rattle.lab_forms_texts.specs.Faults.{Entry, memory_entry}
use Rattle.lab_records_keeper.specs.declared.faults.PlacingFault.{PlacingFault}
use Rattle.lab_records_keeper.specs.declared.faults.PlacingFault.TheVariants.{LabExists, Storage as NotStored, Memory as NoMemory}

-- the store refused
abbrev pub storage_entry : Entry
storage_entry = record { number = 63; word = codes "storage" }

-- the faults of a keeper's foundings
abbrev pub placing_fault_entry : PlacingFault → Entry
placing_fault_entry LabExists = record { number = 64; word = codes "lab_exists" }
placing_fault_entry NotStored = storage_entry
placing_fault_entry NoMemory = memory_entry
