-- Small instances, so that a wrong rule in the definitions does not check: on which laboratories two keepers agree.
use Rattle.std.proofs.Common.{◌≡◌, refl, if◌then◌else◌, Some, None}
use Rattle.std.specs.Prelude.{codes, bytes_eq}
use Rattle.lab_records_kept.specs.declared.labs.Lab.{Lab}
use Rattle.lab_records_keeper.specs.Worlds.{Meaning, World}
use Rattle.lab_desk.specs.Twins.{Agree, AgreeOn, both}

-- this laboratory under `aqua`, and none under any other code
abbrev only_aqua : Lab → Meaning
only_aqua lab code = if bytes_eq code (codes "aqua") then Some lab else None

none_is : {A : Type 0} (one : A) → None ≡ Some one → ⊥
none_is one wrong = absurd cc

-- two agree where both have the laboratory, and where neither has one; not where only one of them has it
pub known_agreement : (lab : Lab) → Agree (only_aqua lab) (only_aqua lab) (codes "aqua")
    × Agree (only_aqua lab) (λ code. None) (codes "brick") × (Agree (λ code. None) (only_aqua lab) (codes "aqua") → ⊥)
known_agreement lab = (refl, refl, λ same. none_is lab same)

-- a keeper that a fault has shut tells nothing, so that any two agree where one is shut
abbrev keeping : World → Meaning → Type 0 → World
keeping world meaning live = record world { meaning = meaning; is_live = live }

pub known_shut : (world : World) (lab : Lab)
    → AgreeOn (both (keeping world (λ code. None) ⊥) (keeping world (only_aqua lab) (Unit {0}))) (codes "aqua")
    × (AgreeOn (both (keeping world (λ code. None) (Unit {0})) (keeping world (only_aqua lab) (Unit {0}))) (codes "aqua") → ⊥)
known_shut world lab = (λ one other. absurd one, λ agree. none_is lab (agree tt tt))
