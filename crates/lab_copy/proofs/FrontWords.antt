-- Definitions for proofs only, which belong to specs/Fronts.antt: no clause names them.
use Rattle.std.specs.Prelude.{ℕ, List}
use Rattle.lab_copy.specs.Fronts.{front}
use Rattle.lab_copy.specs.Private.Fronts.{text_begun}

-- how much is read of a copy
abbrev pub front_of : List ℕ → List ℕ
front_of bytes = front text_begun bytes
