-- What the row of a person is read as, by its schema; and whether whoever asked for something is of the
-- laboratory.
use Rattle.std.specs.Prelude.{ℕ, Option, Some, option_and_then}
use Rattle.sqlite_value.specs.Order.{Row, column, bytes}
use Rattle.sqlite_rules.specs.Edit.{id_in}
use Rattle.lab_store_tables.specs.Rows.{PasswordColumns, AskColumns, number_in, flag_in, optional_in}
use Rattle.lab_store_tables.specs.Columns.{roles_in, password_in}
use Rattle.lab_store_read_people.specs.declared.heads.PersonHead.{PersonHead}
use Rattle.lab_store_read_people.specs.Heads.{ask_head}
use Rattle.lab_move_tables.specs.OldRows.{beside, old_rounds}
use Rattle.lab_move_tables.specs.declared.older.Older.{Older}
use Rattle.lab_move_tables.specs.declared.older.Older.TheVariants.{Two}

-- ---- what not every older schema shows

-- the rounds of the second half of a one-time word
abbrev pub rounds2_in : Older → Row → Option ℕ
rounds2_in Two row =
    beside (optional_in bytes (column row 10)) (optional_in number_in (column row 8))

-- those of what was asked for
abbrev pub ask_rounds_in : Older → Row → Option ℕ
ask_rounds_in Two row = Some old_rounds

-- ---- a person

abbrev pub password_cells : Older → Row → PasswordColumns
password_cells older row = record {
  kind = number_in (column row 6);
  salt = optional_in bytes (column row 7);
  rounds = optional_in number_in (column row 8);
  bytes = optional_in bytes (column row 9);
  salt2 = optional_in bytes (column row 10);
  rounds2 = rounds2_in older row;
  bytes2 = optional_in bytes (column row 11);
  changed = optional_in number_in (column row 12);
}

abbrev pub ask_cells : Older → Row → AskColumns
ask_cells older row = record {
  asker = optional_in id_in (column row 13);
  asked = optional_in number_in (column row 14);
  salt = optional_in bytes (column row 15);
  rounds = option_and_then (λ _. ask_rounds_in older row) (optional_in id_in (column row 13));
  bytes = optional_in bytes (column row 16);
}

abbrev pub person_read : Older → Row → PersonHead
person_read older row = record {
  code = bytes (column row 0);
  name = bytes (column row 1);
  roles = roles_in (number_in (column row 2));
  retired = flag_in (column row 3);
  failures = number_in (column row 4);
  locked = optional_in number_in (column row 5);
  password = password_in (password_cells older row);
  ask = ask_head (ask_cells older row);
}
