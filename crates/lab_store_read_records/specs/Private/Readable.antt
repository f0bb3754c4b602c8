-- What clauses of private functions say beside Readable.antt.
use Rattle.std.specs.Prelude.{IsTrue}
use Rattle.sqlite_value.specs.Order.{Row}
use Rattle.lab_forms_texts.specs.Moment.{is_moment}
use Rattle.lab_forms_texts.specs.Names.{is_key, is_note, is_unit}
use Rattle.lab_store_tables.specs.Rows.{Tables}
use Rattle.lab_store_read.specs.Cells.{is_id, is_number, is_text_cell, is_optional, stands}
use Rattle.lab_store_read.specs.Shown.{codes_shown, shows_code}
use Rattle.lab_store_read_records.specs.declared.heads.EntryHead.{EntryHead}

-- the own row of an entry
pub record HasOwnEntry (row : Row) : Type 0 where
  pub key : IsTrue (stands (is_text_cell is_key) row 0)
  pub value : IsTrue (stands (is_text_cell is_note) row 1)
  pub unit : IsTrue (stands (is_text_cell is_unit) row 2)
  pub person : IsTrue (stands is_id row 3)
  pub moment : IsTrue (stands (is_number is_moment) row 4)
  pub reason : IsTrue (stands (is_optional (is_text_cell is_note)) row 5)

-- the code of whoever entered it
abbrev pub HasWriter : Tables → EntryHead → Type 0
HasWriter t head = IsTrue (shows_code (codes_shown t head.person))
