-- What clauses of private functions say beside Heads.antt.
use Rattle.std.specs.Prelude.{ℤ, List, map, filter, option_map}
use Rattle.std.specs.Ordering.{int_eq}
use Rattle.sqlite_keyed.specs.Lists.{sort_by}
use Rattle.lab_people_access.specs.declared.persons.Person.{Person}
use Rattle.lab_people_access.specs.declared.persons.Ask.{Ask}
use Rattle.lab_store_tables.specs.Rows.{PersonRow, Tables}
use Rattle.lab_store_tables.specs.Columns.{roles_in, password_in}
use Rattle.lab_store_tables.specs.Meaning.{code_of, by_code}
use Rattle.lab_store_read_people.specs.declared.heads.AskHead.{AskHead}
use Rattle.lab_store_read_people.specs.declared.heads.PersonHead.{PersonHead}
use Rattle.lab_store_read_people.specs.Heads.{ask_head}

abbrev pub person_head : PersonRow → PersonHead
person_head one = record {
  code = one.code;
  name = one.name;
  roles = roles_in one.roles;
  retired = one.retired;
  failures = one.failures;
  locked = one.locked;
  password = password_in one.password;
  ask = ask_head one.ask;
}

-- the persons of a laboratory, in the order of their codes
abbrev pub person_heads_of : Tables → ℤ → List PersonHead
person_heads_of t lab =
    map person_head (sort_by by_code (filter (λ (one : PersonRow). int_eq one.lab lab) t.persons))

-- with the code of whoever asked
abbrev pub ask_by : Tables → AskHead → Ask
ask_by t ask = record { asker = code_of t ask.asker; asked = ask.asked; first = ask.first }

abbrev pub person_by : Tables → PersonHead → Person
person_by t head = record {
  code = head.code;
  name = head.name;
  roles = head.roles;
  retired = head.retired;
  failures = head.failures;
  locked = head.locked;
  password = head.password;
  ask = option_map (ask_by t) head.ask;
}
