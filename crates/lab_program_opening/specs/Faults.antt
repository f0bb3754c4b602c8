-- Why nothing was begun over a file, and what standard error is told of a task that stopped
-- (docs/REFUSALS.md).
use Rattle.std.specs.Prelude.{◌⊎◌, ◌++◌, ℕ, List, Option, Some, None, Result, Ok, Err, codes, decimal}
use Rattle.lab_forms_texts.specs.Faults.{memory_entry}
use Rattle.lab_forms_streams.specs.declared.sending.WriteFault.{WriteFault as Untold}
use Rattle.lab_forms_streams.specs.Sending.{read_fault_word}
use Rattle.lab_store_files.specs.declared.faults.FileFault.TheVariants.{Memory}
use Rattle.lab_store_files.specs.Faults.{file_fault_entry, file_fault_value}
use Rattle.lab_program_host.specs.Faults.{PrintsFault}
use Rattle.lab_program_opening.specs.declared.faults.OpenFault.{OpenFault}
use Rattle.lab_program_opening.specs.declared.faults.OpenFault.TheVariants.{File, Drawing}

-- the fault's word
abbrev pub open_fault_word : OpenFault → List ℕ
open_fault_word (File fault) = (file_fault_entry fault).word
open_fault_word Drawing = read_fault_word

-- its number, where it has one
abbrev pub open_fault_number : OpenFault → Option ℕ
open_fault_number (File fault) = Some (file_fault_entry fault).number
open_fault_number Drawing = None

-- its value: the number of a file's schema that is another one
abbrev pub open_fault_value : OpenFault → Option ℕ
open_fault_value (File fault) = file_fault_value fault
open_fault_value Drawing = None

-- memory ran out before a file was opened
abbrev pub unopened_fault : OpenFault
unopened_fault = File Memory

-- ---- what standard error is told

-- the status 1, and a word was told; where standard error failed, the line's first bytes, and not
-- all
abbrev pub TellsWord : List ℕ → Result ℕ Untold → Option (List ℕ) → Option (List ℕ) → Type 0
TellsWord word status before after =
    PrintsFault (λ (fault : List ℕ). fault) (Err word) status before after

-- so was a word and, where there is one, a space and the value; or, where there was no memory to
-- put a value into the line, that memory ran out
abbrev pub TellsValued : List ℕ → Option ℕ → Result ℕ Untold → Option (List ℕ) →
    Option (List ℕ) → Type 0
TellsValued word None status before after = TellsWord word status before after
TellsValued word (Some value) status before after =
    TellsWord (word ++ codes " " ++ decimal value) status before after
    ⊎ TellsWord memory_entry.word status before after

-- so was why nothing was begun
abbrev pub Declines : OpenFault → Result ℕ Untold → Option (List ℕ) → Option (List ℕ) → Type 0
Declines fault status before after =
    TellsValued (open_fault_word fault) (open_fault_value fault) status before after

-- of a task over a file: why nothing was begun; or the status 0 and nothing told where all was
-- done, and else the word of the fault
abbrev pub TellsTask : {F : Type 0} → (F → List ℕ) → Result (Result (Unit {0}) F) OpenFault →
    Result ℕ Untold → Option (List ℕ) → Option (List ℕ) → Type 0
TellsTask word (Ok ending) status before after = PrintsFault word ending status before after
TellsTask word (Err fault) status before after = Declines fault status before after
