-- Values from outside, so that a wrong rule in the definitions does not check: what a replay begins with, and which faults may come before
-- its first event (docs/FORMATS.md).
use Rattle.std.proofs.Common.{◌≡◌, refl, List, ℕ, None}
use Rattle.lab_program_replay.specs.declared.fault.ReplayFault.TheVariants.{BadEvent, ReadFault, WriteFault, Storage, Memory}
use Rattle.lab_program_replay.specs.Replays.{nobody}
use Rattle.lab_program_replay.specs.Private.Replays.{IsBeginFault}

-- a replay begins with no laboratory of any code
pub known_beginning : (code : List ℕ) → nobody code ≡ None
known_beginning code = refl

-- no event was bad then, and no answer was written
pub known_faults : IsBeginFault ReadFault × IsBeginFault Storage × IsBeginFault Memory
    × (IsBeginFault BadEvent → ⊥) × (IsBeginFault WriteFault → ⊥)
known_faults = (tt, tt, tt, λ never. never, λ never. never)
