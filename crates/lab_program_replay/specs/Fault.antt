-- The words by which the program tells on standard error why it stopped.
use Rattle.std.specs.Prelude.{List, ℕ, Option, Some, None, codes, ◌++◌}
use Rattle.lab_desk_foundings.specs.declared.run_faults.RunFault.{RunFault}
use Rattle.lab_desk_foundings.specs.declared.run_faults.RunFault.TheVariants.{Memory as RunMemory, Write}
use Rattle.lab_records_keeper.specs.Faults.{storage_entry}
use Rattle.lab_forms_streams.specs.Sending.{read_fault_word, write_fault_word}
use Rattle.lab_forms_texts.specs.Faults.{memory_entry}
use Rattle.lab_forms_texts.specs.declared.faults.BadName.{BadName}
use Rattle.lab_forms_texts.specs.declared.refusals.Fault.{Fault}
use Rattle.lab_forms_texts.specs.declared.refusals.Fault.TheVariants.{Refused, Memory as NoMemory}
use Rattle.lab_program_replay.specs.declared.fault.ReplayFault.{ReplayFault}
use Rattle.lab_program_replay.specs.declared.fault.ReplayFault.TheVariants.{BadEvent, ReadFault, WriteFault, Storage, Memory}

-- the fault's word
abbrev pub fault_word : ReplayFault → List ℕ
fault_word BadEvent = codes "bad_event"
fault_word ReadFault = read_fault_word
fault_word WriteFault = write_fault_word
fault_word Storage = storage_entry.word
fault_word Memory = memory_entry.word

-- its number, where it has one
abbrev pub fault_number : ReplayFault → Option ℕ
fault_number BadEvent = None
fault_number ReadFault = None
fault_number WriteFault = None
fault_number Storage = Some storage_entry.number
fault_number Memory = Some memory_entry.number

-- the line that tells it
abbrev pub fault_line : ReplayFault → List ℕ
fault_line fault = codes "labdesk: " ++ fault_word fault ++ codes "\n"

-- the fault of an event whose laboratory's code was refused
abbrev pub fault_of_name : Fault BadName → ReplayFault
fault_of_name (Refused _) = BadEvent
fault_of_name NoMemory = Memory

-- the fault of a run that stopped
abbrev pub fault_of_run : RunFault → ReplayFault
fault_of_run RunMemory = Memory
fault_of_run (Write _ _) = WriteFault

-- the fault of a reader that failed: out of memory, or any other
abbrev pub IsReaderFault : ReplayFault → Type 0
IsReaderFault ReadFault = Unit {0}
IsReaderFault Memory = Unit {0}
IsReaderFault _ = ⊥

-- the fault of a reader of events: no event, an input that failed, or out of memory
abbrev pub IsInputFault : ReplayFault → Type 0
IsInputFault BadEvent = Unit {0}
IsInputFault ReadFault = Unit {0}
IsInputFault WriteFault = ⊥
IsInputFault Storage = ⊥
IsInputFault Memory = Unit {0}
