-- Values from outside, computed on the definitions over a small file of schema 2: the codes.
use Rattle.std.proofs.Common.{◌≡◌, [], ◌∷◌, refl}
use Rattle.std.specs.Prelude.{codes}
use Rattle.lab_move_tables.proofs.KnownOldFile.{lifted}
use Rattle.lab_move_read.specs.Laboratories.{codes_of}

pub known_codes : codes_of lifted ≡ codes "aqua" ∷ codes "brick" ∷ []
known_codes = refl
