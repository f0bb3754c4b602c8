-- Stages of real heads, and the interim lines, so that a wrong rule in the definitions does not check.
use Rattle.std.proofs.Common.{◌≡◌, refl, [], ◌∷◌, ◌++◌, length, codes, true, false}
use Rattle.lab_wire_heads.specs.declared.stages.HeadStage.TheVariants.{Front, Line}
use Rattle.lab_wire_heads.specs.Private.Receiving.{lines_if}
use Rattle.lab_wire_heads.specs.Private.Stages.{stage_after, has_ended}

-- LF LF and LF CR LF end a head, in front of which CR and LF may stand; CR LF CR G doesn't
pub known_ends : (has_ended (stage_after (stage_after Line 10) 10) ≡ true)
    × (has_ended (stage_after (stage_after (stage_after Line 10) 13) 10) ≡ true)
    × (stage_after (stage_after (stage_after Front 13) 10) 10 ≡ Front)
    × (stage_after (stage_after (stage_after Line 10) 13) 71 ≡ Line)
known_ends = (refl, refl, refl, refl)

pub known_lines : (length (lines_if true) ≡ 25) × (lines_if false ≡ [])
    × (lines_if true ≡ codes "HTTP/1.1 100 Continue" ++ 13 ∷ 10 ∷ 13 ∷ 10 ∷ [])
known_lines = (refl, refl, refl)
