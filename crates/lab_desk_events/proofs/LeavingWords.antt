-- Definitions for proofs only, which belong to specs/Leaving.antt: no clause names them.
use Rattle.std.specs.Prelude.{◌≡◌, List, [], ◌∷◌, Bool, true}

-- each event was taken; and each but the last
abbrev pub AreTaken : List Bool → Type 0
AreTaken [] = Unit {0}
AreTaken (one ∷ others) = (one ≡ true) × AreTaken others
