-- Which rows of the trail are readable: a value of its type stands in each column, some action has
-- the word, and the code of whoever did it is readable too. What isn't readable is told of as the
-- store.
use Rattle.std.specs.Prelude.{ℕ, Bool, true, bytes_eq, List, IsTrue}
use Rattle.std.specs.Option.{option_map_or}
use Rattle.sqlite_value.specs.Order.{Row, column, bytes}
use Rattle.lab_forms_texts.specs.Moment.{is_moment}
use Rattle.lab_forms_texts.specs.Names.{is_key}
use Rattle.lab_forms_texts.specs.Ordinals.{is_ordinal}
use Rattle.lab_records_kept.specs.Trails.{action_word}
use Rattle.lab_store_tables.specs.Rows.{Tables}
use Rattle.lab_store_tables.specs.Columns.{action_in}
use Rattle.lab_store_read.specs.Cells.{is_id, is_number, is_text_cell, is_optional, stands}
use Rattle.lab_store_read.specs.Shown.{codes_shown, shows_code}
use Rattle.lab_store_read_trail.specs.declared.heads.ToldHead.{ToldHead}
use Rattle.lab_store_read_trail.specs.Shown.{told_read}

-- some action has the word
abbrev pub is_action : List ℕ → Bool
is_action word = bytes_eq (action_word (action_in word)) word

-- any text may be what something was done to
abbrev pub is_subject : List ℕ → Bool
is_subject text = true

pub record HasTold (row : Row) : Type 0 where
  pub number : IsTrue (stands (is_number is_ordinal) row 0)
  pub moment : IsTrue (stands (is_number is_moment) row 1)
  pub person : IsTrue (stands (is_optional is_id) row 2)
  pub action : IsTrue (stands (is_text_cell is_key) row 3)
  pub known : IsTrue (is_action (bytes (column row 3)))
  pub subject : IsTrue (stands (is_text_cell is_subject) row 4)

-- the code of whoever did it, if somebody did
abbrev pub HasDoer : Tables → ToldHead → Type 0
HasDoer t head =
    IsTrue (option_map_or (λ one. shows_code (codes_shown t one)) head.person true)

-- the columns of a row, and the code of whoever did it
pub record HasWholeTold (t : Tables) (row : Row) : Type 0 where
  pub own : HasTold row
  pub doer : HasDoer t (told_read row)
