-- Words that ask for no task: what becomes of them, by what is at fault in them.
use Rattle.std.specs.Prelude.{◌≡◌, ◌⊎◌, ℕ, List, [], ◌∷◌, Option, Result, Ok, IfOk}
use Rattle.std.specs.Io.KnownBytes.{Keeps}
use Rattle.clap.specs.Words.{IsAmong, Kinds}
use Rattle.clap.specs.declared.error.kind.ErrorKind.{ErrorKind}
use Rattle.clap.specs.declared.error.kind.ErrorKind.TheVariants.{OutOfMemory, DisplayHelp, DisplayVersion}
use Rattle.lab_forms_texts.specs.Faults.{memory_entry}
use Rattle.lab_forms_streams.specs.declared.sending.WriteFault.{WriteFault as Untold}
use Rattle.lab_program_host.specs.Faults.{IsLinePrinted, server_fault_word, told_line}
use Rattle.lab_program_host.specs.declared.faults.ServerFault.TheVariants.{Write}

-- the program stopped, and told this word of it: the status is 1
abbrev pub Stopped : List ℕ → Option (List ℕ) → Option (List ℕ) → Result ℕ Untold → Type 0
Stopped word told_before told_after status =
    IfOk status (λ n. n ≡ 1) × IsLinePrinted (told_line word) status told_before told_after

-- a text that was asked for went to standard output, and nothing was told; or the output failed
abbrev pub Shows : Option (List ℕ) → Option (List ℕ) → Result ℕ Untold → Type 0
Shows told_before told_after status =
    ((status ≡ Ok 0) × Keeps told_before told_after)
    ⊎ Stopped (server_fault_word Write) told_before told_after status

-- by the kind of an error: help and the version are shown; where memory ran out that is told;
-- anything else is a fault in the words, with the status 2, and nothing goes to standard output
abbrev pub Explains : ErrorKind → (before after told_before told_after : Option (List ℕ)) →
    Result ℕ Untold → Type 0
Explains DisplayHelp before after told_before told_after status =
    Shows told_before told_after status
Explains DisplayVersion before after told_before told_after status =
    Shows told_before told_after status
Explains OutOfMemory before after told_before told_after status =
    Keeps before after × Stopped memory_entry.word told_before told_after status
Explains _ before after told_before told_after status = (status ≡ Ok 2) × Keeps before after

-- words with these faults are explained by one of them, or by memory that ran out
abbrev pub IsExplained : Kinds → (before after told_before told_after : Option (List ℕ)) →
    Result ℕ Untold → Type 0
IsExplained [] before after told_before told_after status = Unit {0}
IsExplained (kind ∷ kinds) before after told_before told_after status =
    (given : ErrorKind) × ((given ≡ OutOfMemory) ⊎ IsAmong given (kind ∷ kinds))
    × Explains given before after told_before told_after status
