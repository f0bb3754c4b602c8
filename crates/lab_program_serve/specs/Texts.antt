-- The line that a server prints, and how much of a text was printed.
use Rattle.std.specs.Prelude.{◌++◌, ℕ, List, Option, Result, Ok, Err, codes, decimal, take}
use Rattle.std.specs.Io.KnownBytes.{Appends}

-- clients can connect to this port
abbrev pub listening_line : ℕ → List ℕ
listening_line port = codes "listening 127.0.0.1:" ++ decimal port ++ codes "\n"

-- a text was printed whole; where a fault came, as many of its first bytes as there may be
abbrev pub IsPrinted : {F : Type 0} → List ℕ → Result (Unit {0}) F → Option (List ℕ) →
    Option (List ℕ) → Type 0
IsPrinted text (Ok _) before after = Appends before after text
IsPrinted text (Err _) before after = (sent : ℕ) × Appends before after (take sent text)

-- so was the line of some port, which the system chose
abbrev pub IsAnnounced : {F : Type 0} → Result (Unit {0}) F → Option (List ℕ) → Option (List ℕ) →
    Type 0
IsAnnounced ending before after =
    (port : ℕ) × IsPrinted (listening_line port) ending before after
