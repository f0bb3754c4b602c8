-- Which rows of persons are readable: a value of its type stands in each column that is read, and
-- the code of whoever asked is readable too.
use Rattle.std.specs.Prelude.{◌≡◌, ℕ, ◌==◌, nat_le, Bool, false, length, IfSome, IsTrue}
use Rattle.sqlite_value.specs.declared.value.Value.{Value}
use Rattle.sqlite_value.specs.declared.value.Value.TheVariants.{Blob}
use Rattle.sqlite_value.specs.Order.{Row, column}
use Rattle.sqlite_rules.specs.Edit.{id_in}
use Rattle.lab_forms_texts.specs.Moment.{is_moment}
use Rattle.lab_forms_texts.specs.Names.{is_name, is_person_code}
use Rattle.lab_people_access.specs.Passwords.{are_rounds}
use Rattle.lab_store_tables.specs.Rows.{Tables, number_in, optional_in}
use Rattle.lab_store_read.specs.Cells.{is_id, is_number, is_small, is_text_cell, is_digest, is_optional, stands}
use Rattle.lab_store_read.specs.Shown.{codes_shown, shows_code}
use Rattle.lab_store_read_people.specs.declared.heads.AskHead.{AskHead}
use Rattle.lab_store_read_people.specs.declared.heads.PersonHead.{PersonHead}
use Rattle.lab_store_read_people.specs.PersonsShown.{person_read}

-- ---- columns

-- a salt of 16 bytes
abbrev pub is_salt : Value → Bool
is_salt (Blob b) = length b == 16
is_salt _ = false

-- a kind of password: none, one that was chosen, or a one-time word
abbrev pub is_password_kind : ℕ → Bool
is_password_kind n = nat_le n 2

-- a verifier, in the columns of its salt, its rounds and its bytes
pub record HasVerifier (row : Row) (first second third : ℕ) : Type 0 where
  pub salt : IsTrue (stands is_salt row first)
  pub rounds : IsTrue (stands (is_number are_rounds) row second)
  pub made : IsTrue (stands is_digest row third)

-- a password that was chosen
pub record HasChosen (row : Row) : Type 0 where
  pub verifier : HasVerifier row 7 8 9
  pub changed : IsTrue (stands (is_number is_moment) row 13)

-- a one-time word, of two halves
pub record HasOneTime (row : Row) : Type 0 where
  pub first : HasVerifier row 7 8 9
  pub second : HasVerifier row 10 11 12
  pub confirmed : IsTrue (stands (is_number is_moment) row 13)

-- what is kept of a password, by its kind
pub record HasPassword (row : Row) : Type 0 where
  pub kind : IsTrue (stands (is_number is_password_kind) row 6)
  pub chosen : number_in (column row 6) ≡ 1 → HasChosen row
  pub one_time : number_in (column row 6) ≡ 2 → HasOneTime row

-- what an administrator asked for
pub record HasAsked (row : Row) : Type 0 where
  pub asked : IsTrue (stands (is_number is_moment) row 15)
  pub first : HasVerifier row 16 17 18

-- the same, where somebody asked
pub record HasAsk (row : Row) : Type 0 where
  pub asker : IsTrue (stands (is_optional is_id) row 14)
  pub asked : IfSome (optional_in id_in (column row 14)) (λ _. HasAsked row)

-- ---- rows

pub record HasPerson (row : Row) : Type 0 where
  pub code : IsTrue (stands (is_text_cell is_person_code) row 0)
  pub name : IsTrue (stands (is_text_cell is_name) row 1)
  pub roles : IsTrue (stands (is_number is_small) row 2)
  pub retired : IsTrue (stands (is_number is_small) row 3)
  pub failures : IsTrue (stands (is_number is_small) row 4)
  pub locked : IsTrue (stands (is_optional (is_number is_moment)) row 5)
  pub password : HasPassword row
  pub ask : HasAsk row

-- ---- with the code of whoever asked

abbrev pub HasCode : Tables → AskHead → Type 0
HasCode t ask = IsTrue (shows_code (codes_shown t ask.asker))

abbrev pub HasAsker : Tables → PersonHead → Type 0
HasAsker t head = IfSome head.ask (HasCode t)

-- the columns of a row, and the code of whoever asked
pub record HasWholePerson (t : Tables) (row : Row) : Type 0 where
  pub own : HasPerson row
  pub asker : HasAsker t (person_read row)
