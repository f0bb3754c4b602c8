-- Values from outside, computed on the definitions over the small file of lab_store_tables: what is shown of a token that
-- two laboratories have.
use Rattle.std.proofs.Common.{◌≡◌, refl, pos, [], ◌∷◌, map}
use Rattle.std.specs.Prelude.{codes}
use Rattle.lab_people_access.specs.declared.sessions.Session.{Session}
use Rattle.lab_store_tables.proofs.KnownFile.{filled, file}
use Rattle.lab_store_read_people.specs.Private.SessionsShown.{session_read}
use Rattle.lab_store_read_people.specs.SessionsShown.{sessions_shown}

-- one token in two laboratories: each has its own session of it
pub known_sessions :
    (map (λ (one : Session). one.last) (map session_read (sessions_shown file (pos 7) (filled 32 41))) ≡ 1450 ∷ [])
    × (map (λ (one : Session). one.last) (map session_read (sessions_shown file (pos 3) (filled 32 41))) ≡ 400 ∷ [])
    × (map (λ (one : Session). one.person) (map session_read (sessions_shown file (pos 7) (filled 32 42))) ≡ codes "eve" ∷ [])
    × (sessions_shown file (pos 7) (filled 32 43) ≡ [])
known_sessions = (refl, refl, refl, refl)
