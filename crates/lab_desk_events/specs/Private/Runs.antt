-- What clauses of private functions say beside Runs.antt.
use Rattle.std.specs.Prelude.{◌<◌, ℕ, List, Option, Result, Ok, Err, length, take}
use Rattle.std.specs.Io.KnownBytes.{Appends}
use Rattle.lab_forms_streams.specs.declared.sending.WriteFault.{WriteFault}

-- ---- what is told and written

-- an answer went out whole, or its first bytes did and then the writer failed
abbrev pub SendsAnswer : List ℕ → Result (Unit {0}) WriteFault → Option (List ℕ) → Option (List ℕ) →
    Type 0
SendsAnswer answer (Ok _) before after = Appends before after answer
SendsAnswer answer (Err fault) before after = Appends before after (take fault.sent answer) ×
    (fault.sent < length answer)
