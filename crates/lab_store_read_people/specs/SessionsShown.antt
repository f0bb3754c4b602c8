-- The rows that each query shows of the tables, in its order, and what such a row is read as.
use Rattle.std.specs.Prelude.{ℕ, ℤ, List, [], ◌∷◌, map, filter, IsTrue}
use Rattle.sqlite_value.specs.declared.value.Value.TheVariants.{Text, Blob}
use Rattle.sqlite_value.specs.Order.{Row}
use Rattle.lab_forms_texts.specs.Moment.{is_moment}
use Rattle.lab_forms_texts.specs.Names.{is_person_code}
use Rattle.lab_forms_texts.specs.Ordinals.{is_ordinal}
use Rattle.lab_store_tables.specs.Rows.{SessionRow, Tables, number, flag}
use Rattle.lab_store_tables.specs.Changes.{is_session}
use Rattle.lab_store_tables.specs.Meaning.{code_of}
use Rattle.lab_store_read.specs.Cells.{is_number, is_small, is_text_cell, is_digest, stands}

abbrev pub session_shown : Tables → SessionRow → Row
session_shown t one =
    number one.number ∷ Text (code_of t one.person) ∷ Blob one.token ∷ number one.opened
    ∷ number one.last ∷ flag one.closed ∷ flag one.signed ∷ []

abbrev pub sessions_shown : Tables → ℤ → List ℕ → List Row
sessions_shown t lab token = map (session_shown t) (filter (is_session lab token) t.sessions)

-- each column of the row has a value of its type
pub record HasSession (row : Row) : Type 0 where
  pub number : IsTrue (stands (is_number is_ordinal) row 0)
  pub person : IsTrue (stands (is_text_cell is_person_code) row 1)
  pub token : IsTrue (stands is_digest row 2)
  pub opened : IsTrue (stands (is_number is_moment) row 3)
  pub last : IsTrue (stands (is_number is_moment) row 4)
  pub closed : IsTrue (stands (is_number is_small) row 5)
  pub signed : IsTrue (stands (is_number is_small) row 6)
