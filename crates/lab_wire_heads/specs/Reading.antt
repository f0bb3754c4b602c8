-- What a reader gave, piece by piece.
use Rattle.std.specs.Prelude.{ℕ, List, Result, Ok, Err}
use Rattle.lab_wire_heads.specs.declared.refusals.HeadFault.{HeadFault}
use Rattle.lab_wire_heads.specs.declared.refusals.HeadFault.TheVariants.{Refused, Read, Write, Memory}

-- a fact where memory ran out
abbrev pub OnMemory : Result (List ℕ) HeadFault → Type 0 → Type 0
OnMemory (Ok request) P = Unit {0}
OnMemory (Err (Refused refusal)) P = Unit {0}
OnMemory (Err Read) P = Unit {0}
OnMemory (Err (Write sent)) P = Unit {0}
OnMemory (Err Memory) P = P
