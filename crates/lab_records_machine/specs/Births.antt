-- How a laboratory is born: of three administrators with codes of their own, each with a password
-- that was chosen at that moment; and why it isn't.
use Rattle.std.specs.Prelude.{ℕ, Bool, not, ◌||◌, ◌&&◌, List, [], ◌∷◌, Option, Some, None, Result, Ok, Err, bytes_eq, if◌then◌else◌}
use Rattle.lab_forms_texts.specs.declared.tick.Tick.{Tick}
use Rattle.lab_forms_texts.specs.Faults.{Entry}
use Rattle.lab_seal_hashes.specs.Words.{salt_at}
use Rattle.lab_people_access.specs.declared.persons.Person.{Person}
use Rattle.lab_people_access.specs.declared.refusals.PeopleRefusal.TheVariants.{CodeTaken as IsTaken, BadPassword as IsBad}
use Rattle.lab_people_access.specs.declared.roles.Role.TheVariants.{Administrator}
use Rattle.lab_people_access.specs.Passwords.{is_password, chosen_password}
use Rattle.lab_people_access.specs.Persons.{newcomer}
use Rattle.lab_people_access.specs.Refusals.{people_refusal_entry}
use Rattle.lab_people_access.specs.Roles.{no_roles, with_role}
use Rattle.lab_records_kept.specs.declared.labs.Lab.{Lab}
use Rattle.lab_records_keeper.specs.declared.faults.PlacingFault.TheVariants.{LabExists as IsThere}
use Rattle.lab_records_kept.specs.declared.trails.Deed.TheVariants.{Found}
use Rattle.lab_records_kept.specs.Changes.{added_person}
use Rattle.lab_records_keeper.specs.Faults.{placing_fault_entry}
use Rattle.lab_records_kept.specs.Trails.{trail_row_of}
use Rattle.lab_records_machine.specs.declared.births.Founder.{Founder}
use Rattle.lab_records_machine.specs.declared.births.Founding.{Founding}
use Rattle.lab_records_machine.specs.declared.births.BirthRefusal.{BirthRefusal}
use Rattle.lab_records_machine.specs.declared.births.BirthRefusal.TheVariants.{CodeTaken, BadPassword, LabExists}

-- the number and the word of a refusal: those of the same refusal of a person, and of a keeper
abbrev pub birth_entry : BirthRefusal → Entry
birth_entry CodeTaken = people_refusal_entry IsTaken
birth_entry BadPassword = people_refusal_entry IsBad
birth_entry LabExists = placing_fault_entry IsThere

-- two founders have one code
abbrev pub is_code_shared : Founding → Bool
is_code_shared founding =
    bytes_eq founding.first.code founding.second.code
    || bytes_eq founding.first.code founding.third.code
    || bytes_eq founding.second.code founding.third.code

-- every founder's password may be chosen
abbrev pub are_passwords : Founding → Bool
are_passwords founding =
    is_password founding.first.password && is_password founding.second.password
    && is_password founding.third.password

-- why no laboratory is born from a founding, whichever laboratories there are
abbrev pub founding_refusal : Founding → Option BirthRefusal
founding_refusal founding =
    if is_code_shared founding then Some CodeTaken
    else (if not (are_passwords founding) then Some BadPassword else None)

-- a founder, as an administrator whose password was chosen at the moment
abbrev pub founder_person : Founder → List ℕ → ℕ → Person
founder_person founder salt moment =
    record (newcomer founder.code founder.name (with_role no_roles Administrator)) {
      password = chosen_password founder.password salt moment;
    }

-- the three of them, in the order of their codes; their salts are made of the words two by two
abbrev pub founders_of : Tick → Founding → List Person
founders_of tick founding =
    added_person (founder_person founding.third (salt_at tick.words 2) tick.moment)
    (added_person (founder_person founding.second (salt_at tick.words 1) tick.moment)
    (added_person (founder_person founding.first (salt_at tick.words 0) tick.moment) []))

-- a laboratory as it is born: it has its founders and the first row of the trail, which names no
-- person; it has no session, no form and no record
abbrev pub newborn : List ℕ → Tick → Founding → Lab
newborn code tick founding = record {
  code = code;
  name = founding.name;
  last = tick.moment;
  strays = 0;
  persons = founders_of tick founding;
  sessions = [];
  forms = [];
  records = [];
  trail = trail_row_of 1 tick.moment None (Found code) ∷ [];
}

-- where there is none of the code yet
abbrev pub born_at : Option Lab → List ℕ → Tick → Founding → Result Lab BirthRefusal
born_at None code tick founding = Ok (newborn code tick founding)
born_at (Some lab) code tick founding = Err LabExists

-- a founding, by its refusals in order
abbrev pub born : Option Lab → List ℕ → Tick → Founding → Result Lab BirthRefusal
born lab code tick founding =
    if is_code_shared founding then Err CodeTaken
    else (if not (are_passwords founding) then Err BadPassword
    else born_at lab code tick founding)
