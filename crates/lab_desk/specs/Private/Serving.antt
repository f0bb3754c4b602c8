-- What clauses of private functions say beside Serving.antt.
use Rattle.std.specs.Prelude.{◌⊎◌, ◌<◌, ℕ, List, [], Option, Result, Ok, Err, length, take}
use Rattle.std.specs.Io.KnownBytes.{Appends}
use Rattle.lab_desk_foundings.specs.declared.run_faults.ServeFault.{ServeFault}
use Rattle.lab_desk_foundings.specs.declared.run_faults.ServeFault.TheVariants.{Read, Interim, Reply}

-- ---- what went out

-- before the reply: the interim answer, whole; where the reader failed that or nothing, and where
-- the writer failed its first bytes
abbrev pub GreetsBy : List ℕ → Result (Unit {0}) ServeFault → Option (List ℕ) → Option (List ℕ) →
    Type 0
GreetsBy interim (Ok _) before after = Appends before after interim
GreetsBy interim (Err Read) before after =
    Appends before after interim ⊎ Appends before after []
GreetsBy interim (Err (Interim sent)) before after =
    Appends before after (take sent interim) × (sent < length interim)
GreetsBy interim (Err (Reply sent)) before after = ⊥
