-- What clauses of private functions say beside Added.antt.
use Rattle.std.specs.Prelude.{◌≡◌, ℕ, ◌<◌, ℤ, Some}
use Rattle.lab_people_access.specs.declared.sessions.Session.{Session}
use Rattle.lab_store_tables.specs.Rows.{Tables}
use Rattle.lab_store_tables.specs.Changes.{person_named, SetsSession}
use Rattle.lab_store_write.specs.Calls.{MadeFrom}

-- where a row was set and the person has the id, it is the session that the token names
abbrev pub SetsIfAny : ℤ → ℤ → Session → ℕ → Tables → Tables → Type 0
SetsIfAny lab person session count =
    MadeFrom (λ t. (0 < count) × (person_named t lab session.person ≡ Some person))
    (SetsSession lab session)
