-- What clauses of private functions say beside Persons.antt.
use Rattle.std.specs.Prelude.{ℤ, Bool, Option, option_map, unwrap_or}
use Rattle.sqlite_value.specs.Order.{Row, column, bytes}
use Rattle.lab_store_tables.specs.Rows.{Tables, number_in, optional_in}
use Rattle.lab_store_tables.specs.Columns.{verifier_in}
use Rattle.lab_store_read_people.specs.declared.heads.AskHead.{AskHead}
use Rattle.lab_store_read_people.specs.declared.heads.PersonHead.{PersonHead}
use Rattle.lab_move_tables.specs.declared.older.Older.{Older}
use Rattle.lab_move_tables.specs.KeptLabs.{is_nobody_or_theirs}
use Rattle.lab_move_read_people.specs.Persons.{ask_rounds_in}

-- ---- a person

-- what the asker asked for
abbrev pub ask_by_row : Older → Row → ℤ → AskHead
ask_by_row older row asker = record {
  asker = asker;
  asked = unwrap_or (optional_in number_in (column row 14)) 0;
  first = verifier_in (optional_in bytes (column row 15)) (ask_rounds_in older row)
      (optional_in bytes (column row 16));
}

-- ---- of the laboratory

abbrev asker_of : AskHead → ℤ
asker_of ask = ask.asker

abbrev pub is_kept_ask : Tables → ℤ → Option AskHead → Bool
is_kept_ask t lab ask = is_nobody_or_theirs t lab (option_map asker_of ask)

abbrev pub is_kept_head : Tables → ℤ → PersonHead → Bool
is_kept_head t lab head = is_kept_ask t lab head.ask
