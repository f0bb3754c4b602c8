-- Which rows of forms, records and laboratories are readable in a file of an older schema: a value of
-- its type stands in each column, what stands beside it fits, and the file takes the questions by
-- which they are read. What isn't readable none of our programs wrote; it is told of as the store.
use Rattle.std.specs.Prelude.{◌≡◌, ℕ, ℤ, Bool, false, bytes_eq, codes, List, [], ◌∷◌, Option, Some, None, IfSome, IsTrue, All}
use Rattle.std.specs.List.{list_any}
use Rattle.sqlite_value.specs.declared.value.Value.TheVariants.{Int, Text}
use Rattle.sqlite_value.specs.Order.{Row, column, bytes}
use Rattle.sqlite.specs.Effect.{Database}
use Rattle.lab_forms_texts.specs.Moment.{is_moment}
use Rattle.lab_forms_texts.specs.Names.{is_key, is_lab_code, is_name, is_note, is_person_code, is_unit}
use Rattle.lab_forms_texts.specs.Ordinals.{is_ordinal}
use Rattle.lab_forms.specs.Forms.{is_form}
use Rattle.lab_store_tables.specs.Rows.{Tables, number_in}
use Rattle.lab_store_tables.specs.Meaning.{fields_of, leaves_of}
use Rattle.lab_store_read.specs.Causes.{HasFirst}
use Rattle.lab_store_read.specs.Cells.{is_id, is_number, is_text_cell, is_digest, stands}
use Rattle.lab_store_read_records.specs.declared.heads.LabHead.{LabHead}
use Rattle.lab_store_read_records.specs.declared.heads.RecordHead.{RecordHead}
use Rattle.lab_store_read_records.specs.Readable.{HasLab, HasRecord, ArePlaced}
use Rattle.lab_store_read_records.specs.Shown.{record_head_of}
use Rattle.lab_store_read_forms.specs.declared.heads.FieldHead.{FieldHead}
use Rattle.lab_store_read_forms.specs.declared.heads.FormHead.{FormHead}
use Rattle.lab_store_read_forms.specs.Readable.{HasField, HasName}
use Rattle.lab_store_read_forms.specs.Shown.{field_read}
use Rattle.lab_move_tables.specs.Answering.{IsTaken}
use Rattle.lab_move_tables.specs.Checks.{HasId, HasNumber}
use Rattle.lab_move_tables.specs.OldRows.{reason_in}
use Rattle.lab_move_tables.specs.Questions.{codes_text, lab_text, form_text, field_text, choice_text, filed_text, version_text, entry_text, entry_place_text, signature_text, signature_place_text}
use Rattle.lab_move_tables.specs.Shown.{codes_shown, labs_shown, forms_shown, fields_shown, choices_shown, records_shown, versions_shown, entries_shown, signatures_shown}
use Rattle.lab_move_tables.specs.declared.older.Older.{Older}
use Rattle.lab_move_read_people.specs.Readable.{HasFlag, HasReason, HasPersons, HasSessions, HasTrail}
use Rattle.lab_move_read.specs.declared.heads.VersionHead.{VersionHead}
use Rattle.lab_move_read.specs.Forms.{form_read}
use Rattle.lab_move_read.specs.Laboratories.{head_of}
use Rattle.lab_move_read.specs.Records.{version_read}

-- ---- forms

-- the names of a field
pub record AreNames (rows : List Row) : Type 0 where
  pub own : All HasName rows
  pub numbers : All (HasNumber 1) rows

pub record HasNamesOf (field : ℤ) (db : Database) (t : Tables) : Type 0 where
  pub taken : IsTaken db choice_text (Int field ∷ [])
  pub rows : AreNames (choices_shown t field)

pub record HasOldField (row : Row) : Type 0 where
  pub own : HasField row
  pub required : HasFlag 3 row

pub record AreFields (rows : List Row) : Type 0 where
  pub own : All HasOldField rows
  pub numbers : All (HasNumber 10) rows

abbrev pub HasFieldNames : Database → Tables → FieldHead → Type 0
HasFieldNames db t head = HasNamesOf head.id db t

pub record HasFieldsOf (form : ℤ) (db : Database) (t : Tables) : Type 0 where
  pub taken : IsTaken db field_text (Int form ∷ [])
  pub rows : AreFields (fields_shown t form)
  pub names : All (λ row. HasFieldNames db t (field_read row)) (fields_shown t form)

-- the fields of a version, which make a form
pub record HasFormParts (db : Database) (t : Tables) (head : FormHead) : Type 0 where
  pub fields : HasFieldsOf head.id db t
  pub made : IsTrue (is_form (fields_of t head.id))

pub record HasOldForm (row : Row) : Type 0 where
  pub id : IsTrue (stands is_id row 0)
  pub code : IsTrue (stands (is_text_cell is_key) row 1)
  pub version : IsTrue (stands (is_number is_ordinal) row 2)

pub record HasForms (older : Older) (lab : ℤ) (db : Database) (t : Tables) : Type 0 where
  pub taken : IsTaken db (form_text older) (Int lab ∷ [])
  pub rows : All HasOldForm (forms_shown older t lab)
  pub parts : All (λ row. HasFormParts db t (form_read older row)) (forms_shown older t lab)

-- ---- entries and signatures

pub record HasOldEntry (row : Row) : Type 0 where
  pub key : IsTrue (stands (is_text_cell is_key) row 0)
  pub value : IsTrue (stands (is_text_cell is_note) row 1)
  pub unit : IsTrue (stands (is_text_cell is_unit) row 2)
  pub person : IsTrue (stands (is_text_cell is_person_code) row 3)
  pub moment : IsTrue (stands (is_number is_moment) row 4)
  pub reason : HasReason 5 row

pub record AreEntries (rows : List Row) : Type 0 where
  pub own : All HasOldEntry rows
  pub numbers : All (HasNumber 6) rows
  pub labs : All (HasId 7) rows

pub record HasEntries (version : ℤ) (db : Database) (t : Tables) : Type 0 where
  pub taken : IsTaken db entry_text (Int version ∷ [])
  pub placed : IsTaken db entry_place_text (Int version ∷ [])
  pub rows : AreEntries (entries_shown t version)

-- the words that a version is signed as: a rejection has a reason, and nothing else has one
abbrev pub is_old_meaning : List ℕ → Option (List ℕ) → Bool
is_old_meaning word None =
    list_any (λ one. bytes_eq word one)
    (codes "authorship" ∷ codes "review" ∷ codes "approval" ∷ [])
is_old_meaning word (Some reason) = bytes_eq word (codes "rejection")

pub record HasOldMeaning (row : Row) : Type 0 where
  pub word : IsTrue (stands (is_text_cell is_key) row 2)
  pub reason : HasReason 3 row
  pub known : IsTrue (is_old_meaning (bytes (column row 2)) (reason_in (column row 3)))

pub record HasOldSignature (row : Row) : Type 0 where
  pub person : IsTrue (stands (is_text_cell is_person_code) row 0)
  pub name : IsTrue (stands (is_text_cell is_name) row 1)
  pub meaning : HasOldMeaning row
  pub moment : IsTrue (stands (is_number is_moment) row 4)
  pub digest : IsTrue (stands is_digest row 5)
  pub seal : IsTrue (stands is_digest row 6)

pub record AreSignatures (rows : List Row) : Type 0 where
  pub own : All HasOldSignature rows
  pub numbers : All (HasNumber 7) rows
  pub labs : All (HasId 8) rows

pub record HasSignatures (version : ℤ) (db : Database) (t : Tables) : Type 0 where
  pub taken : IsTaken db signature_text (Int version ∷ [])
  pub placed : IsTaken db signature_place_text (Int version ∷ [])
  pub rows : AreSignatures (signatures_shown t version)

-- ---- versions and records

pub record HasLeaf (db : Database) (t : Tables) (head : VersionHead) : Type 0 where
  pub entries : HasEntries head.id db t
  pub signatures : HasSignatures head.id db t

-- a first version has no reason
pub record HasOldVersion (row : Row) : Type 0 where
  pub id : IsTrue (stands is_id row 0)
  pub number : IsTrue (stands (is_number is_ordinal) row 1)
  pub opener : IsTrue (stands (is_text_cell is_person_code) row 2)
  pub opened : IsTrue (stands (is_number is_moment) row 3)
  pub reason : HasReason 4 row
  pub lab : IsTrue (stands is_id row 5)
  pub first : number_in (column row 1) ≡ 1 → reason_in (column row 4) ≡ None

pub record AreVersions (rows : List Row) : Type 0 where
  pub own : All HasOldVersion rows
  pub numbers : All (HasNumber 1) rows

pub record HasVersions (older : Older) (kept : ℤ) (db : Database) (t : Tables) : Type 0 where
  pub taken : IsTaken db (version_text older) (Int kept ∷ [])
  pub rows : AreVersions (versions_shown older t kept)
  pub leaves : All (λ row. HasLeaf db t (version_read older row)) (versions_shown older t kept)

-- the versions of a record, each behind the one before
pub record HasRecordParts (older : Older) (db : Database) (t : Tables) (head : RecordHead) : Type 0 where
  pub versions : HasVersions older head.id db t
  pub placed : ArePlaced false (leaves_of t head.id)

pub record AreRecords (rows : List Row) : Type 0 where
  pub own : All HasRecord rows
  pub numbers : All (HasNumber 1) rows

pub record HasRecords (older : Older) (lab : ℤ) (db : Database) (t : Tables) : Type 0 where
  pub taken : IsTaken db filed_text (Int lab ∷ [])
  pub rows : AreRecords (records_shown t lab)
  pub parts : All (λ row. HasRecordParts older db t (record_head_of row)) (records_shown t lab)

-- ---- laboratories

pub record HasPeople (older : Older) (lab : ℤ) (db : Database) (t : Tables) : Type 0 where
  pub persons : HasPersons older lab db t
  pub sessions : HasSessions lab db t

pub record HasWork (older : Older) (lab : ℤ) (db : Database) (t : Tables) : Type 0 where
  pub forms : HasForms older lab db t
  pub records : HasRecords older lab db t

-- all that one has, beside its own row
pub record HasParts (older : Older) (db : Database) (t : Tables) (head : LabHead) : Type 0 where
  pub people : HasPeople older head.id db t
  pub work : HasWork older head.id db t
  pub trail : HasTrail head.id db t

-- its own row
pub record HasHead (code : List ℕ) (db : Database) (t : Tables) : Type 0 where
  pub taken : IsTaken db lab_text (Text code ∷ [])
  pub rows : HasFirst HasLab (labs_shown t code)

-- the laboratory of the code, if there is one
pub record HasWhole (older : Older) (code : List ℕ) (db : Database) (t : Tables) : Type 0 where
  pub head : HasHead code db t
  pub parts : IfSome (head_of t code) (HasParts older db t)

pub record HasLabCode (row : Row) : Type 0 where
  pub code : IsTrue (stands (is_text_cell is_lab_code) row 0)

pub record HasCodes (db : Database) (t : Tables) : Type 0 where
  pub taken : IsTaken db codes_text []
  pub rows : All HasLabCode (codes_shown t)
