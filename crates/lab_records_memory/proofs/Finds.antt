-- The look-ups of lab_people_access that are recursions of their own are std's `find`.
use Rattle.std.proofs.Common.{ℕ, ◌≡◌, cond, refl, ap, List, [], ◌∷◌, Option, Some}
use Rattle.std.specs.Prelude.{find, bytes_eq}
use Rattle.lab_people_access.specs.declared.persons.Person.{Person}
use Rattle.lab_people_access.specs.declared.sessions.Session.{Session}
use Rattle.lab_people_access.specs.Persons.{person_of}
use Rattle.lab_people_access.specs.Sessions.{session_of}

pub person_found : (persons : List Person) (code : List ℕ)
    → person_of persons code ≡ find (λ one. bytes_eq one.code code) persons
person_found [] code = refl
person_found (one ∷ others) code =
    ap (λ (rest : Option Person). cond (bytes_eq one.code code) (Some one) rest) (person_found others code)

pub session_found : (sessions : List Session) (digest : List ℕ)
    → session_of sessions digest ≡ find (λ one. bytes_eq one.token digest) sessions
session_found [] digest = refl
session_found (one ∷ others) digest =
    ap (λ (rest : Option Session). cond (bytes_eq one.token digest) (Some one) rest)
    (session_found others digest)
