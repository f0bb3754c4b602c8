-- Why a run ended before its last event, and why a request was not served whole.
use Rattle.std.specs.Prelude.{ℕ, List, Bool, Option, Some, None, codes}
use Rattle.lab_forms_texts.specs.Faults.{memory_entry}
use Rattle.lab_desk_foundings.specs.declared.run_faults.RunFault.{RunFault}
use Rattle.lab_desk_foundings.specs.declared.run_faults.RunFault.TheVariants.{Memory, Write}
use Rattle.lab_desk_foundings.specs.declared.run_faults.ServeFault.{ServeFault}
use Rattle.lab_desk_foundings.specs.declared.run_faults.ServeFault.TheVariants.{Read, Interim, Reply}

-- a fact on a write fault: which events were taken, and how much of the last answer went out
abbrev pub IfWrite : (List Bool → ℕ → Type 0) → RunFault → Type 0
IfWrite P (Write taken sent) = P taken.items sent
IfWrite P Memory = Unit {0}

-- a fact on a run for whose list there was no memory
abbrev pub IfMemory : Type 0 → RunFault → Type 0
IfMemory P (Write taken sent) = Unit {0}
IfMemory P Memory = P

-- the number of a run's fault, where it has one
abbrev pub run_fault_number : RunFault → Option ℕ
run_fault_number (Write taken sent) = None
run_fault_number Memory = Some memory_entry.number

-- and its word
abbrev pub run_fault_word : RunFault → List ℕ
run_fault_word (Write taken sent) = codes "write_fault"
run_fault_word Memory = memory_entry.word

-- the word of a fault of serving; no reply can tell of one, so none has a number
abbrev pub serve_fault_word : ServeFault → List ℕ
serve_fault_word Read = codes "read_fault"
serve_fault_word (Interim sent) = codes "write_fault"
serve_fault_word (Reply sent) = codes "write_fault"
