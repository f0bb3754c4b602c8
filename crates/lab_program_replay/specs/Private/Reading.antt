-- What clauses of private functions say beside Reading.antt.
use Rattle.std.specs.Prelude.{◌≡◌, ℕ, ◌<◌, ◌≤◌, List, [], ◌∷◌, length, take, drop, Option, Some, None, Ok, Err, Result, Vec}
use Rattle.std.specs.Io.KnownBytes.{Consumes}
use Rattle.lab_program_replay.specs.declared.fault.ReplayFault.{ReplayFault}
use Rattle.lab_program_replay.specs.declared.fault.ReplayFault.TheVariants.{BadEvent, WriteFault, Memory}
use Rattle.lab_program_replay.specs.declared.event.Heading.{Heading as HeadingRead}
use Rattle.lab_program_replay.specs.Event.{line_at, Heading}

-- a text was refused with this fault
abbrev pub IsReadingRefused : {Y : Type 0} → ReplayFault → Option Y → Type 0
IsReadingRefused BadEvent said = said ≡ None
IsReadingRefused Memory said = Unit {0}
IsReadingRefused _ said = ⊥

-- what a text says was read
abbrev pub GivesReading : {X Y : Type 0} → (X → Y) → Result X ReplayFault → Option Y → Type 0
GivesReading view (Ok x) said = said ≡ Some (view x)
GivesReading view (Err fault) said = IsReadingRefused fault said

-- a heading that was read, in plain values
abbrev pub heading_said : HeadingRead → Heading
heading_said heading = record {
  founded = heading.founded;
  moment = heading.tick.moment;
  words = heading.tick.words;
  length = heading.length;
}

-- so many bytes were taken from the front of an input, and the rest is left; or there were fewer
abbrev pub TakesBytes : {A : Type 0} → ℕ → List ℕ → Option (List ℕ) →
    Result (Vec ℕ A) ReplayFault → Type 0
TakesBytes count input left (Ok bytes) =
    (count ≤ length input) × (bytes.items ≡ take count input) × (left ≡ Some (drop count input))
TakesBytes count input left (Err BadEvent) = length input < count
TakesBytes count input left (Err WriteFault) = ⊥
TakesBytes count input left (Err _) = Unit {0}

-- the next byte was taken, and what follows it is left; or the input had ended, or failed
abbrev pub TakesByte : List ℕ → Option (List ℕ) → Result (Option ℕ) ReplayFault → Type 0
TakesByte input left (Ok None) = (input ≡ []) × (left ≡ Some input)
TakesByte input left (Ok (Some byte)) = (rest : List ℕ) × (input ≡ byte ∷ rest) × (left ≡ Some rest)
TakesByte input left (Err BadEvent) = ⊥
TakesByte input left (Err _) = left ≡ Some input

-- at most so many of the known bytes were taken
abbrev pub TakesAtMost : ℕ → Option (List ℕ) → Option (List ℕ) → Type 0
TakesAtMost most old left = (taken : List ℕ) × Consumes old left taken × (length taken ≤ most)

-- the next line was taken, and what follows its line feed is left; or the input had ended, or what
-- is there is no line
abbrev pub TakesLine : {A : Type 0} → List ℕ → Option (List ℕ) →
    Result (Option (Vec ℕ A)) ReplayFault → Type 0
TakesLine input left (Ok None) = input ≡ []
TakesLine input left (Ok (Some line)) =
    (rest : List ℕ) × (line_at input ≡ Some (line.items, rest)) × (left ≡ Some rest)
TakesLine input left (Err BadEvent) = (0 < length input) × (line_at input ≡ None)
TakesLine input left (Err WriteFault) = ⊥
TakesLine input left (Err _) = Unit {0}
