-- What clauses of private functions say beside Reading.antt.
use Rattle.std.specs.Prelude.{◌≡◌, ℕ, ◌<◌, List, [], ◌∷◌, ◌++◌, length, Option, Some, None, IfSome}
use Rattle.std.specs.Io.KnownBytes.{Consumes, IsAtEnd}
use Rattle.lab_wire_heads.specs.declared.refusals.HeadRefusal.TheVariants.{ShortBody}
use Rattle.lab_wire_heads.specs.declared.refusals.HeadFault.{HeadFault}
use Rattle.lab_wire_heads.specs.declared.refusals.HeadFault.TheVariants.{Refused, Read, Write, Memory}

-- the next byte was taken; or there was none
abbrev pub TakesByte : Option (List ℕ) → Option (List ℕ) → Option ℕ → Type 0
TakesByte old new (Some byte) = Consumes old new (byte ∷ [])
TakesByte old new None = Consumes old new [] × IsAtEnd new

-- behind the bytes before, others came from the reader
abbrev pub CameBehind : List ℕ → List ℕ → Option (List ℕ) → Option (List ℕ) → Type 0
CameBehind before now old new = (came : List ℕ) × (now ≡ before ++ came) × Consumes old new came

-- the request is the head, and then a body of so many bytes that came from the reader
abbrev pub HasBody : List ℕ → ℕ → List ℕ → Option (List ℕ) → Option (List ℕ) → Type 0
HasBody head count request old new =
    (body : List ℕ) × (request ≡ head ++ body) × (length body ≡ count) × Consumes old new body

-- why no body of so many bytes was read: among the refusals only that fewer came
abbrev pub IsBodyFault : Option (List ℕ) → ℕ → HeadFault → Type 0
IsBodyFault old count (Refused refusal) =
    (refusal ≡ ShortBody) × IfSome old (λ left. length left < count)
IsBodyFault old count Read = Unit {0}
IsBodyFault old count (Write sent) = ⊥
IsBodyFault old count Memory = Unit {0}
