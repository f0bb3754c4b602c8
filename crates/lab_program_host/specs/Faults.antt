-- Why serving stopped, why a connection ended before its request was served, and why a rehearsal
-- failed; the words of these faults, and the line that tells one on standard error
-- (docs/REFUSALS.md).
use Rattle.std.specs.Prelude.{◌≡◌, ◌<◌, ◌++◌, ℕ, List, Option, Some, None, Result, Ok, Err, IfOk, codes, length, take}
use Rattle.std.specs.Io.KnownBytes.{Appends, Keeps}
use Rattle.lab_forms_texts.specs.Faults.{memory_entry}
use Rattle.lab_forms_streams.specs.declared.sending.WriteFault.{WriteFault as Untold}
use Rattle.lab_forms_streams.specs.Sending.{read_fault_word, write_fault_word}
use Rattle.lab_desk_foundings.specs.declared.run_faults.ServeFault.{ServeFault}
use Rattle.lab_desk_foundings.specs.declared.run_faults.ServeFault.TheVariants.{Read as Unread, Interim, Reply}
use Rattle.lab_desk_foundings.specs.Faults.{found_fault_entry}
use Rattle.lab_desk_foundings.specs.RunFaults.{serve_fault_word}
use Rattle.lab_program_host.specs.declared.faults.ServerFault.{ServerFault}
use Rattle.lab_program_host.specs.declared.faults.ServerFault.TheVariants.{Read, Write, Memory}
use Rattle.lab_program_host.specs.declared.faults.ConnectionFault.{ConnectionFault}
use Rattle.lab_program_host.specs.declared.faults.ConnectionFault.TheVariants.{Serving, Memory as NoBuffer}
use Rattle.lab_program_host.specs.declared.faults.RehearsalFault.{RehearsalFault}
use Rattle.lab_program_host.specs.declared.faults.RehearsalFault.TheVariants.{Founding, Server}

-- the word of a fault that stops a server
abbrev pub server_fault_word : ServerFault → List ℕ
server_fault_word Read = read_fault_word
server_fault_word Write = write_fault_word
server_fault_word Memory = memory_entry.word

-- its number, where it has one
abbrev pub server_fault_number : ServerFault → Option ℕ
server_fault_number Read = None
server_fault_number Write = None
server_fault_number Memory = Some memory_entry.number

-- the fault of a reader that failed: out of memory, or any other
abbrev pub IsReaderFault : ServerFault → Type 0
IsReaderFault Read = Unit {0}
IsReaderFault Write = ⊥
IsReaderFault Memory = Unit {0}

-- the word of a fault that ended a connection, and its number, where it has one
abbrev pub connection_fault_word : ConnectionFault → List ℕ
connection_fault_word (Serving fault) = serve_fault_word fault
connection_fault_word NoBuffer = memory_entry.word

abbrev pub connection_fault_number : ConnectionFault → Option ℕ
connection_fault_number (Serving fault) = None
connection_fault_number NoBuffer = Some memory_entry.number

-- the fault of the program, by the fault of the one request of a rehearsal
abbrev pub fault_of_connection : ConnectionFault → ServerFault
fault_of_connection (Serving Unread) = Read
fault_of_connection (Serving (Interim sent)) = Write
fault_of_connection (Serving (Reply sent)) = Write
fault_of_connection NoBuffer = Memory

-- the word of a fault of a rehearsal: that of the founding's refusal, or of the server's fault
abbrev pub rehearsal_fault_word : RehearsalFault → List ℕ
rehearsal_fault_word (Founding fault) = (found_fault_entry fault).word
rehearsal_fault_word (Server fault) = server_fault_word fault

-- its number, where it has one
abbrev pub rehearsal_fault_number : RehearsalFault → Option ℕ
rehearsal_fault_number (Founding fault) = Some (found_fault_entry fault).number
rehearsal_fault_number (Server fault) = server_fault_number fault

-- ---- what standard error is told

-- the line that tells a word
abbrev pub told_line : List ℕ → List ℕ
told_line word = codes "labdesk: " ++ word ++ codes "\n"

-- a line was told whole; where standard error failed, its first bytes were, and not all
abbrev pub IsLinePrinted : {X : Type 0} → List ℕ → Result X Untold → Option (List ℕ) →
    Option (List ℕ) → Type 0
IsLinePrinted line (Ok _) before after = Appends before after line
IsLinePrinted line (Err untold) before after =
    Appends before after (take untold.sent line) × (untold.sent < length line)

-- the status, and what standard error was told: nothing where all was done, and else the fault
abbrev pub PrintsFault : {F : Type 0} → (F → List ℕ) → Result (Unit {0}) F → Result ℕ Untold →
    Option (List ℕ) → Option (List ℕ) → Type 0
PrintsFault word (Ok _) status before after = (status ≡ Ok 0) × Keeps before after
PrintsFault word (Err fault) status before after =
    IfOk status (λ number. number ≡ 1) × IsLinePrinted (told_line (word fault)) status before after
