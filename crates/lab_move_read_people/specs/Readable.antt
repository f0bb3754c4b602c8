-- Which rows of persons, sessions and the trail are readable in a file of an older schema: a value of
-- its type stands in each column, nothing stands where nothing may, and an arrow leads to a row. What
-- isn't readable none of our programs wrote; it is told of as the store.
use Rattle.std.specs.Prelude.{◌≡◌, ℕ, ℤ, ◌==◌, nat_le, Bool, true, false, List, [], ◌∷◌, None, slice_get, IfSome, IsSomeAnd, IsTrue, All}
use Rattle.sqlite_value.specs.declared.value.Value.{Value}
use Rattle.sqlite_value.specs.declared.value.Value.TheVariants.{Null, Int, Real, Text, Blob}
use Rattle.sqlite_value.specs.Order.{Row, column}
use Rattle.sqlite_rules.specs.Edit.{id_in}
use Rattle.sqlite.specs.Effect.{Database}
use Rattle.lab_forms_texts.specs.Moment.{is_moment}
use Rattle.lab_forms_texts.specs.Names.{is_name, is_note, is_person_code}
use Rattle.lab_store_tables.specs.Rows.{Tables, number_in, optional_in}
use Rattle.lab_store_read.specs.Cells.{is_id, is_number, is_small, is_text_cell, is_digest, is_optional, stands}
use Rattle.lab_store_read_people.specs.declared.heads.AskHead.{AskHead}
use Rattle.lab_store_read_people.specs.declared.heads.PersonHead.{PersonHead}
use Rattle.lab_store_read_people.specs.PersonsReadable.{is_salt, is_password_kind}
use Rattle.lab_store_read_people.specs.SessionsShown.{HasSession}
use Rattle.lab_store_read_trail.specs.declared.heads.ToldHead.{ToldHead}
use Rattle.lab_store_read_trail.specs.Readable.{HasTold}
use Rattle.lab_store_read_trail.specs.Shown.{told_read}
use Rattle.lab_move_tables.specs.Answering.{IsTaken}
use Rattle.lab_move_tables.specs.Checks.{HasId, HasNumber}
use Rattle.lab_move_tables.specs.OldRows.{old_rounds}
use Rattle.lab_move_tables.specs.Questions.{owner_text, person_text, session_text, told_text}
use Rattle.lab_move_tables.specs.Shown.{owners_shown, persons_shown, sessions_shown, trail_shown}
use Rattle.lab_move_tables.specs.declared.older.Older.{Older}
use Rattle.lab_move_read_people.specs.Cells.{is_null}
use Rattle.lab_move_read_people.specs.Persons.{person_read}

-- ---- columns

-- any value
abbrev pub is_any : Value → Bool
is_any value = true

abbrev pub HasCell : ℕ → Row → Type 0
HasCell at row = IsTrue (stands is_any row at)

-- nothing
abbrev pub HasNothing : ℕ → Row → Type 0
HasNothing at row = IsTrue (stands is_null row at)

-- yes or no, which stand as 1 and 0 alone
abbrev pub is_flag : ℕ → Bool
is_flag n = nat_le n 1

abbrev pub HasFlag : ℕ → Row → Type 0
HasFlag at row = IsTrue (stands (is_number is_flag) row at)

-- a sum of roles
abbrev pub is_sum : ℕ → Bool
is_sum n = nat_le n 31

abbrev pub HasRoles : ℕ → Row → Type 0
HasRoles at row = IsTrue (stands (is_number is_sum) row at)

-- a reason, or none, which stands as NULL or as an empty text
abbrev pub is_reason : Value → Bool
is_reason Null = true
is_reason (Int n) = false
is_reason (Real x) = false
is_reason (Text []) = true
is_reason (Text (first ∷ others)) = is_text_cell is_note (Text (first ∷ others))
is_reason (Blob b) = false

abbrev pub HasReason : ℕ → Row → Type 0
HasReason at row = IsTrue (stands is_reason row at)

-- ---- persons

-- the rounds of every verifier
abbrev pub is_old_rounds : ℕ → Bool
is_old_rounds n = n == old_rounds

-- a verifier, in the columns of its salt, its rounds and its bytes
pub record HasOldVerifier (row : Row) (first last : ℕ) : Type 0 where
  pub salt : IsTrue (stands is_salt row first)
  pub rounds : IsTrue (stands (is_number is_old_rounds) row 8)
  pub made : IsTrue (stands is_digest row last)

-- no password
pub record HasUnset (row : Row) : Type 0 where
  pub salt : HasNothing 7 row
  pub rounds : HasNothing 8 row
  pub made : HasNothing 9 row
  pub salt2 : HasNothing 10 row
  pub made2 : HasNothing 11 row
  pub changed : HasNothing 12 row

-- one that was chosen, which has one verifier
pub record HasOldChosen (row : Row) : Type 0 where
  pub verifier : HasOldVerifier row 7 9
  pub salt2 : HasNothing 10 row
  pub made2 : HasNothing 11 row
  pub changed : IsTrue (stands (is_number is_moment) row 12)

-- a one-time word, of two halves
pub record HasOldOneTime (row : Row) : Type 0 where
  pub first : HasOldVerifier row 7 9
  pub second : HasOldVerifier row 10 11
  pub confirmed : IsTrue (stands (is_number is_moment) row 12)

-- what is kept of a password, by its kind
pub record HasOldPassword (row : Row) : Type 0 where
  pub kind : IsTrue (stands (is_number is_password_kind) row 6)
  pub unset : number_in (column row 6) ≡ 0 → HasUnset row
  pub chosen : number_in (column row 6) ≡ 1 → HasOldChosen row
  pub one_time : number_in (column row 6) ≡ 2 → HasOldOneTime row

-- what was asked for
pub record HasOldAsked (row : Row) : Type 0 where
  pub asked : IsTrue (stands (is_number is_moment) row 14)
  pub salt : IsTrue (stands is_salt row 15)
  pub made : IsTrue (stands is_digest row 16)

pub record HasUnasked (row : Row) : Type 0 where
  pub asked : HasNothing 14 row
  pub salt : HasNothing 15 row
  pub made : HasNothing 16 row

pub record HasOldAsk (row : Row) : Type 0 where
  pub asker : IsTrue (stands (is_optional is_id) row 13)
  pub asked : IfSome (optional_in id_in (column row 13)) (λ _. HasOldAsked row)
  pub unasked : optional_in id_in (column row 13) ≡ None → HasUnasked row

pub record HasOldPerson (row : Row) : Type 0 where
  pub code : IsTrue (stands (is_text_cell is_person_code) row 0)
  pub name : IsTrue (stands (is_text_cell is_name) row 1)
  pub roles : HasRoles 2 row
  pub retired : HasFlag 3 row
  pub failures : IsTrue (stands (is_number is_small) row 4)
  pub locked : IsTrue (stands (is_optional (is_number is_moment)) row 5)
  pub password : HasOldPassword row
  pub ask : HasOldAsk row

-- ---- whoever an arrow leads to

pub record HasOwnerRow (row : Row) : Type 0 where
  pub code : IsTrue (stands (is_text_cell is_person_code) row 0)
  pub lab : HasId 1 row

-- there is such a row
abbrev pub HasFirstOwner : List Row → Type 0
HasFirstOwner rows = IsSomeAnd (slice_get rows 0) HasOwnerRow

-- the file takes the question for the person with the id, who is there
pub record HasOwner (db : Database) (t : Tables) (id : ℤ) : Type 0 where
  pub taken : IsTaken db owner_text (Int id ∷ [])
  pub there : HasFirstOwner (owners_shown t id)

abbrev pub HasAsker : Database → Tables → PersonHead → Type 0
HasAsker db t head = IfSome head.ask (λ (ask : AskHead). HasOwner db t ask.asker)

abbrev pub HasDoer : Database → Tables → ToldHead → Type 0
HasDoer db t head = IfSome head.person (HasOwner db t)

-- ---- sessions

pub record HasOldSession (row : Row) : Type 0 where
  pub own : HasSession row
  pub closed : HasFlag 5 row
  pub signed : HasFlag 6 row

-- each, with its number and its laboratory
pub record AreSessions (rows : List Row) : Type 0 where
  pub own : All HasOldSession rows
  pub numbers : All (HasNumber 0) rows
  pub labs : All (HasId 7) rows

-- ---- the trail

pub record AreTold (rows : List Row) : Type 0 where
  pub own : All HasTold rows
  pub numbers : All (HasNumber 0) rows

-- ---- what is asked for of one laboratory: the file takes the questions, and the rows are readable

pub record HasPersons (older : Older) (lab : ℤ) (db : Database) (t : Tables) : Type 0 where
  pub taken : IsTaken db (person_text older) (Int lab ∷ [])
  pub rows : All HasOldPerson (persons_shown older t lab)
  pub askers : All (λ row. HasAsker db t (person_read older row)) (persons_shown older t lab)

pub record HasSessions (lab : ℤ) (db : Database) (t : Tables) : Type 0 where
  pub taken : IsTaken db session_text (Int lab ∷ [])
  pub rows : AreSessions (sessions_shown t lab)

pub record HasTrail (lab : ℤ) (db : Database) (t : Tables) : Type 0 where
  pub taken : IsTaken db told_text (Int lab ∷ [])
  pub rows : AreTold (trail_shown t lab)
  pub doers : All (λ row. HasDoer db t (told_read row)) (trail_shown t lab)
