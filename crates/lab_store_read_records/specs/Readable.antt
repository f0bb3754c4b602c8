-- Which rows are readable: each column has a value of its type. What isn't readable is told of as
-- the store.
use Rattle.std.specs.Prelude.{ℕ, ℤ, Bool, true, false, not, ◌&&◌, ◌||◌, ◌==◌, bytes_eq, codes, List, [], ◌∷◌, Option, is_some, IsTrue, All}
use Rattle.std.specs.List.{list_any, AllByRecursion}
use Rattle.sqlite_value.specs.Order.{Row, column, bytes}
use Rattle.lab_forms_texts.specs.Moment.{is_moment}
use Rattle.lab_forms_texts.specs.Names.{is_lab_code, is_person_code, is_key, is_name, is_note, is_unit}
use Rattle.lab_forms_texts.specs.Ordinals.{is_ordinal}
use Rattle.lab_store_tables.specs.Rows.{Tables, optional_in}
use Rattle.lab_store_tables.specs.Meaning.{Leaf}
use Rattle.lab_store_read.specs.Cells.{is_id, is_number, is_small, is_text_cell, is_digest, is_optional, stands}
use Rattle.lab_store_read_records.specs.Shown.{version_read, entries_shown, signatures_shown}

-- of any size
abbrev pub is_count : ℕ → Bool
is_count n = true

pub record HasLab (row : Row) : Type 0 where
  pub id : IsTrue (stands is_id row 0)
  pub code : IsTrue (stands (is_text_cell is_lab_code) row 1)
  pub name : IsTrue (stands (is_text_cell is_name) row 2)
  pub last : IsTrue (stands (is_number is_moment) row 3)
  pub strays : IsTrue (stands (is_number is_count) row 4)
  pub records : IsTrue (stands (is_number is_count) row 5)
  pub sessions : IsTrue (stands (is_number is_count) row 6)
  pub trail : IsTrue (stands (is_number is_count) row 7)

pub record HasRecord (row : Row) : Type 0 where
  pub id : IsTrue (stands is_id row 0)
  pub number : IsTrue (stands (is_number is_ordinal) row 1)
  pub form : IsTrue (stands is_id row 2)
  pub form_code : IsTrue (stands (is_text_cell is_key) row 3)
  pub sample : IsTrue (stands (is_text_cell is_name) row 4)
  pub current : IsTrue (stands (is_number is_small) row 5)

pub record HasVersionColumns (row : Row) : Type 0 where
  pub id : IsTrue (stands is_id row 0)
  pub number : IsTrue (stands (is_number is_ordinal) row 1)
  pub format : IsTrue (stands (is_number is_small) row 2)
  pub opener : IsTrue (stands (is_text_cell is_person_code) row 3)
  pub opened : IsTrue (stands (is_number is_moment) row 4)
  pub reason : IsTrue (stands (is_optional (is_text_cell is_note)) row 5)

-- an entry with its person's code
pub record HasEntry (row : Row) : Type 0 where
  pub key : IsTrue (stands (is_text_cell is_key) row 0)
  pub value : IsTrue (stands (is_text_cell is_note) row 1)
  pub unit : IsTrue (stands (is_text_cell is_unit) row 2)
  pub person : IsTrue (stands (is_text_cell is_person_code) row 3)
  pub moment : IsTrue (stands (is_number is_moment) row 4)
  pub reason : IsTrue (stands (is_optional (is_text_cell is_note)) row 5)

-- the words that a version is signed as; a rejection has a reason
abbrev pub is_meaning : List ℕ → Option (List ℕ) → Bool
is_meaning word reason =
    list_any (λ one. bytes_eq word one)
    (codes "authorship" ∷ codes "review" ∷ codes "approval" ∷ [])
    || (bytes_eq word (codes "rejection") && is_some reason)

pub record HasMeaning (row : Row) : Type 0 where
  pub word : IsTrue (stands (is_text_cell is_key) row 2)
  pub reason : IsTrue (stands (is_optional (is_text_cell is_note)) row 3)
  pub known : IsTrue (is_meaning (bytes (column row 2)) (optional_in bytes (column row 3)))

pub record HasSignature (row : Row) : Type 0 where
  pub person : IsTrue (stands (is_text_cell is_person_code) row 0)
  pub name : IsTrue (stands (is_text_cell is_name) row 1)
  pub meaning : HasMeaning row
  pub moment : IsTrue (stands (is_number is_moment) row 4)
  pub digest : IsTrue (stands is_digest row 5)
  pub seal : IsTrue (stands is_digest row 6)

-- ---- versions, whole

-- the rows of the version with the id, beside its own
pub record HasLeaf (t : Tables) (version : ℤ) : Type 0 where
  pub entries : All HasEntry (entries_shown t version)
  pub signatures : All HasSignature (signatures_shown t version)

-- the own row of a version, and those that it leads to
pub record HasWholeVersion (t : Tables) (row : Row) : Type 0 where
  pub own : HasVersionColumns row
  pub leaf : HasLeaf t (version_read row).id

-- behind no version stands the one of number 1; behind another one any other, with a reason
abbrev pub is_placed : Bool → ℕ → Option (List ℕ) → Bool
is_placed false number reason = number == 1
is_placed true number reason = not (number == 1) && is_some reason

abbrev pub ArePlaced : Bool → List Leaf → Type 0
ArePlaced behind [] = Unit {0}
ArePlaced behind (one ∷ more) =
    IsTrue (is_placed behind one.number one.reason)
    × AllByRecursion (λ (other : Leaf). IsTrue (is_placed true other.number other.reason)) more
