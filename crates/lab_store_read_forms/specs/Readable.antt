-- Which rows are readable: each column has a value of its type, and so have the rows that it leads
-- to. What isn't readable is told of as the store.
use Rattle.std.specs.Prelude.{ℕ, ℤ, Bool, true, false, bytes_eq, codes, List, [], ◌∷◌, slice_get, IsSomeAnd, IsTrue, All}
use Rattle.std.specs.List.{list_any}
use Rattle.sqlite_value.specs.Order.{Row, column, bytes}
use Rattle.lab_forms_texts.specs.Names.{is_key, is_name, is_unit}
use Rattle.lab_forms_texts.specs.Ordinals.{is_ordinal}
use Rattle.lab_forms.specs.Forms.{is_form}
use Rattle.lab_store_tables.specs.Rows.{Tables}
use Rattle.lab_store_tables.specs.Meaning.{fields_of, leaves_of}
use Rattle.lab_store_read.specs.Cells.{is_id, is_number, is_small, is_text_cell, is_optional, stands}
use Rattle.lab_store_read_records.specs.declared.heads.RecordHead.{RecordHead}
use Rattle.lab_store_read_records.specs.Readable.{HasRecord, HasWholeVersion, ArePlaced}
use Rattle.lab_store_read_records.specs.Shown.{versions_shown, record_head_of}
use Rattle.lab_store_read_forms.specs.Kinds.{is_choice}
use Rattle.lab_store_read_forms.specs.KindsShown.{names_shown}
use Rattle.lab_store_read_forms.specs.Shown.{forms_shown, form_read, fields_shown, field_read}

-- ---- what a field takes

-- any text
abbrev pub is_any : List ℕ → Bool
is_any text = true

-- a number: its unit and its decimals, and its least and its greatest amount, if it has any
pub record HasNumber (row : Row) : Type 0 where
  pub unit : IsTrue (stands (is_text_cell is_unit) row 5)
  pub decimals : IsTrue (stands (is_number is_small) row 6)
  pub low : IsTrue (stands (is_optional (is_text_cell is_any)) row 7)
  pub high : IsTrue (stands (is_optional (is_text_cell is_any)) row 8)

abbrev pub HasSize : Row → Type 0
HasSize row = IsTrue (stands (is_number is_small) row 9)

abbrev pub is_kind_word : List ℕ → Bool
is_kind_word word =
    list_any (λ one. bytes_eq word one)
    (codes "number" ∷ codes "text" ∷ codes "choice" ∷ codes "date" ∷ codes "yesno" ∷ [])

-- what the kind of the word has beside it
pub record IsOfKind (word : List ℕ) (row : Row) : Type 0 where
  pub known : IsTrue (is_kind_word word)
  pub number : IsTrue (bytes_eq word (codes "number")) → HasNumber row
  pub text : IsTrue (bytes_eq word (codes "text")) → HasSize row

pub record HasKind (row : Row) : Type 0 where
  pub word : IsTrue (stands (is_text_cell is_key) row 4)
  pub kind : IsOfKind (bytes (column row 4)) row

-- ---- fields, with the names of a choice

pub record HasName (row : Row) : Type 0 where
  pub name : IsTrue (stands (is_text_cell is_name) row 0)

pub record HasField (row : Row) : Type 0 where
  pub id : IsTrue (stands is_id row 0)
  pub key : IsTrue (stands (is_text_cell is_key) row 1)
  pub label : IsTrue (stands (is_text_cell is_name) row 2)
  pub required : IsTrue (stands (is_number is_small) row 3)
  pub kind : HasKind row

-- names are asked for where they are wanted
abbrev pub HasNames : Tables → ℤ → Bool → Type 0
HasNames t field wanted = IsTrue wanted → All HasName (names_shown t field)

pub record HasWholeField (t : Tables) (row : Row) : Type 0 where
  pub own : HasField row
  pub names : HasNames t (field_read row).id (is_choice (field_read row).kind)

-- ---- versions of forms, with their fields

pub record HasForm (row : Row) : Type 0 where
  pub id : IsTrue (stands is_id row 0)
  pub code : IsTrue (stands (is_text_cell is_key) row 1)
  pub version : IsTrue (stands (is_number is_ordinal) row 2)
  pub approval : IsTrue (stands (is_number is_small) row 3)

-- the fields of the version with the id are readable, and make a form
pub record HasFields (t : Tables) (form : ℤ) : Type 0 where
  pub fields : All (HasWholeField t) (fields_shown t form)
  pub made : IsTrue (is_form (fields_of t form))

pub record HasWholeForm (t : Tables) (row : Row) : Type 0 where
  pub own : HasForm row
  pub fields : HasFields t (form_read row).id

-- there is such a version of a form
abbrev pub HasFormAt : Tables → ℤ → Type 0
HasFormAt t id = IsSomeAnd (slice_get (forms_shown t id) 0) (HasWholeForm t)

-- ---- records, with their forms and all their versions

-- of which the own row is read already
pub record HasParts (t : Tables) (head : RecordHead) : Type 0 where
  pub form : HasFormAt t head.form
  pub versions : All (HasWholeVersion t) (versions_shown t head.id)
  pub placed : ArePlaced false (leaves_of t head.id)

pub record HasWholeRecord (t : Tables) (row : Row) : Type 0 where
  pub own : HasRecord row
  pub parts : HasParts t (record_head_of row)
