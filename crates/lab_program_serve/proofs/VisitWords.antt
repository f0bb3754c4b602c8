-- Definitions for proofs only, which belong to specs/Visits.antt: no clause names them.
use Rattle.std.specs.Prelude.{ℕ, List, [], ◌∷◌}
use Rattle.lab_program_serve.specs.Visits.{Visit}

-- the last reply, behind a reply and those of connections
abbrev pub reply_after : List ℕ → List Visit → List ℕ
reply_after reply [] = reply
reply_after reply (visit ∷ visits) = reply_after visit.exchange.reply visits
