-- The rows that each query shows of the tables, in its order, and what such a row is read as.
use Rattle.std.specs.Prelude.{ℕ, ℤ, List, [], ◌∷◌, map, filter}
use Rattle.std.specs.Ordering.{int_eq}
use Rattle.sqlite_keyed.specs.Lists.{sort_by}
use Rattle.sqlite_value.specs.declared.value.Value.TheVariants.{Int, Text, Blob}
use Rattle.sqlite_value.specs.Order.{Row, column, bytes}
use Rattle.sqlite_rules.specs.Edit.{id_in}
use Rattle.lab_store_tables.specs.Rows.{PersonRow, PasswordColumns, AskColumns, Tables, number, flag, optional, number_in, flag_in, optional_in}
use Rattle.lab_store_tables.specs.Columns.{roles_in, password_in}
use Rattle.lab_store_tables.specs.Changes.{is_person}
use Rattle.lab_store_tables.specs.Meaning.{by_code}
use Rattle.lab_store_read_people.specs.declared.heads.PersonHead.{PersonHead}
use Rattle.lab_store_read_people.specs.Heads.{ask_head}

abbrev pub person_shown : PersonRow → Row
person_shown one =
    Text one.code ∷ Text one.name ∷ number one.roles ∷ flag one.retired ∷ number one.failures
    ∷ optional number one.locked ∷ number one.password.kind ∷ optional Blob one.password.salt
    ∷ optional number one.password.rounds ∷ optional Blob one.password.bytes
    ∷ optional Blob one.password.salt2 ∷ optional number one.password.rounds2
    ∷ optional Blob one.password.bytes2 ∷ optional number one.password.changed
    ∷ optional Int one.ask.asker ∷ optional number one.ask.asked ∷ optional Blob one.ask.salt
    ∷ optional number one.ask.rounds ∷ optional Blob one.ask.bytes ∷ []

-- one of them, by the code
abbrev pub person_shown_by : Tables → ℤ → List ℕ → List Row
person_shown_by t lab code = map person_shown (filter (is_person lab code) t.persons)

abbrev pub persons_shown : Tables → ℤ → List Row
persons_shown t lab =
    map person_shown
    (sort_by by_code (filter (λ (one : PersonRow). int_eq one.lab lab) t.persons))

abbrev pub password_cells : Row → PasswordColumns
password_cells row = record {
  kind = number_in (column row 6);
  salt = optional_in bytes (column row 7);
  rounds = optional_in number_in (column row 8);
  bytes = optional_in bytes (column row 9);
  salt2 = optional_in bytes (column row 10);
  rounds2 = optional_in number_in (column row 11);
  bytes2 = optional_in bytes (column row 12);
  changed = optional_in number_in (column row 13);
}

abbrev pub ask_cells : Row → AskColumns
ask_cells row = record {
  asker = optional_in id_in (column row 14);
  asked = optional_in number_in (column row 15);
  salt = optional_in bytes (column row 16);
  rounds = optional_in number_in (column row 17);
  bytes = optional_in bytes (column row 18);
}

abbrev pub person_read : Row → PersonHead
person_read row = record {
  code = bytes (column row 0);
  name = bytes (column row 1);
  roles = roles_in (number_in (column row 2));
  retired = flag_in (column row 3);
  failures = number_in (column row 4);
  locked = optional_in number_in (column row 5);
  password = password_in (password_cells row);
  ask = ask_head (ask_cells row);
}
