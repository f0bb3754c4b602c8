-- Definitions for proofs only, which belong to specs/Persons.antt: no clause names them.
use Rattle.std.specs.Prelude.{Bool, true, ◌&&◌, Option, Some, None}
use Rattle.lab_people_access.specs.declared.persons.Person.{Person}
use Rattle.lab_people_access.specs.declared.persons.Ask.{Ask}
use Rattle.lab_people_access.specs.Passwords.{are_rounds}
use Rattle.lab_people_access.proofs.PasswordWords.{is_by_rounds}

-- the verifier of what was asked for, if it was, has rounds by which they are or were made
abbrev pub is_asked_by_rounds : Option Ask → Bool
is_asked_by_rounds None = true
is_asked_by_rounds (Some ask) = are_rounds ask.first.rounds

-- each verifier that is kept of a person has
abbrev pub has_rounds : Person → Bool
has_rounds person = is_by_rounds person.password && is_asked_by_rounds person.ask
