-- A person's account: how many a laboratory has at the most, by whose code one is found, when it is
-- locked, and what an administrator asked for that still stands (21 CFR 11.300(d), "transaction
-- safeguards to prevent unauthorized use of passwords"; the number and the spans of time are this
-- system's own).
use Rattle.std.specs.Prelude.{ℕ, ◌-◌, Bool, false, nat_lt, nat_le, List, [], ◌∷◌, Option, Some, None, is_some, bytes_eq, if◌then◌else◌}
use Rattle.lab_people_access.specs.declared.roles.Roles.{Roles}
use Rattle.lab_people_access.specs.declared.passwords.Password.TheVariants.{Unset}
use Rattle.lab_people_access.specs.declared.persons.Person.{Person}
use Rattle.lab_people_access.specs.declared.persons.Ask.{Ask}
use Rattle.lab_people_access.specs.declared.persons.TheConstants.{PERSONS_LIMIT, SECONDS_OF_LOCK, SECONDS_OF_ASK}

-- a person as enrolled, with no password yet
abbrev pub newcomer : List ℕ → List ℕ → Roles → Person
newcomer code name roles = record {
  code = code;
  name = name;
  roles = roles;
  retired = false;
  failures = 0;
  locked = None;
  password = Unset;
  ask = None;
}

-- the most persons of a laboratory, retired ones too
abbrev pub person_limit : ℕ
person_limit = PERSONS_LIMIT

-- who has the code, or had it, among the persons of a laboratory
abbrev pub person_of : List Person → List ℕ → Option Person
person_of [] code = None
person_of (one ∷ others) code = if bytes_eq one.code code then Some one else person_of others code

-- somebody has or had the code
abbrev pub has_code : List Person → List ℕ → Bool
has_code persons code = is_some (person_of persons code)

-- the seconds for which a lock lasts
abbrev pub lock_span : ℕ
lock_span = SECONDS_OF_LOCK

-- a person is locked from the moment of the lock on
abbrev pub is_locked : Option ℕ → ℕ → Bool
is_locked None moment = false
is_locked (Some since) moment = nat_lt (moment - since) lock_span

-- a person with no failed password and no lock
abbrev pub unlocked_person : Person → Person
unlocked_person person = record person { failures = 0; locked = None }

-- the seconds for which it stands what was asked for: seven days
abbrev pub ask_span : ℕ
ask_span = SECONDS_OF_ASK

-- what was asked for still stands
abbrev pub stands : Ask → ℕ → Bool
stands ask moment = nat_le (moment - ask.asked) ask_span

-- what was asked for, while it stands
abbrev pub standing_ask : Option Ask → ℕ → Option Ask
standing_ask None moment = None
standing_ask (Some ask) moment = if stands ask moment then Some ask else None
