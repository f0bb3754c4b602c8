-- The statements that the writers try: their texts, and the values of their parameters.
use Rattle.std.specs.Prelude.{ℕ, ℤ, List, [], ◌∷◌, ◌++◌, codes}
use Rattle.sqlite_value.specs.declared.value.Value.TheVariants.{Int, Text}
use Rattle.lab_store_tables.specs.Rows.{FormRow, FieldRow, ChoiceRow, RecordRow, VersionRow, EntryRow, SignatureRow, number}
use Rattle.lab_store_tables.specs.Family.{Forms, Fields, Choices, Records, Versions, Entries, Signatures}
use Rattle.lab_store_write.specs.Causes.{Statement, statement}
use Rattle.lab_store_write.specs.Statements.{columns_of}

-- ---- what is named by a key

abbrev pub record_text : List ℕ
record_text = codes "SELECT id FROM records WHERE lab = ?1 AND number = ?2 ORDER BY id"

abbrev pub asking_record : ℤ → ℕ → Statement
asking_record lab wanted = statement record_text (Int lab ∷ number wanted ∷ [])

abbrev pub current_text : List ℕ
current_text =
    codes "SELECT versions.id FROM records LEFT JOIN versions ON versions.record ="
    ++ codes " records.id AND versions.number = records.current WHERE records.lab = ?1 AND"
    ++ codes " records.number = ?2 ORDER BY records.id, versions.id"

abbrev pub asking_current : ℤ → ℕ → Statement
asking_current lab wanted = statement current_text (Int lab ∷ number wanted ∷ [])

abbrev pub version_text : List ℕ
version_text =
    codes "SELECT versions.id FROM records LEFT JOIN versions ON versions.record ="
    ++ codes " records.id AND versions.number = ?3 WHERE records.lab = ?1 AND"
    ++ codes " records.number = ?2 ORDER BY records.id, versions.id"

abbrev pub asking_version : ℤ → ℕ → ℕ → Statement
asking_version lab wanted version =
    statement version_text (Int lab ∷ number wanted ∷ number version ∷ [])

abbrev pub form_text : List ℕ
form_text =
    codes "SELECT id FROM forms WHERE lab = ?1 AND code = ?2 AND version = ?3 ORDER BY id"

abbrev pub asking_form : ℤ → List ℕ → ℕ → Statement
asking_form lab code version =
    statement form_text (Int lab ∷ Text code ∷ number version ∷ [])

-- ---- entries and signatures

abbrev pub entries_text : List ℕ
entries_text = codes "SELECT id FROM entries WHERE version = ?1 ORDER BY id"

-- those of a version, of which the next has the place after them
abbrev pub asking_entries : ℤ → Statement
asking_entries version = statement entries_text (Int version ∷ [])

abbrev pub add_entry_text : List ℕ
add_entry_text =
    codes "INSERT INTO entries (version, place, key, value, unit, person, moment, reason)"
    ++ codes " VALUES (?1, ?2, ?3, ?4, ?5, ?6, ?7, ?8)"

abbrev pub adding_entry : EntryRow → Statement
adding_entry row = statement add_entry_text (columns_of Entries row)

abbrev pub signatures_text : List ℕ
signatures_text = codes "SELECT id FROM signatures WHERE version = ?1 ORDER BY id"

abbrev pub asking_signatures : ℤ → Statement
asking_signatures version = statement signatures_text (Int version ∷ [])

abbrev pub add_signature_text : List ℕ
add_signature_text =
    codes "INSERT INTO signatures (version, place, person, name, meaning, moment, reason,"
    ++ codes " digest, seal) VALUES (?1, ?2, ?3, ?4, ?5, ?6, ?7, ?8, ?9)"

abbrev pub adding_signature : SignatureRow → Statement
adding_signature row = statement add_signature_text (columns_of Signatures row)

-- ---- forms

abbrev pub add_form_text : List ℕ
add_form_text =
    codes "INSERT INTO forms (lab, code, version, approval) VALUES (?1, ?2, ?3, ?4)"

abbrev pub adding_form : FormRow → Statement
adding_form row = statement add_form_text (columns_of Forms row)

abbrev pub fields_text : List ℕ
fields_text = codes "SELECT id FROM fields WHERE form = ?1 ORDER BY id"

abbrev pub asking_fields : ℤ → Statement
asking_fields form = statement fields_text (Int form ∷ [])

abbrev pub add_field_text : List ℕ
add_field_text =
    codes "INSERT INTO fields (form, place, key, label, required, kind, unit, decimals, low,"
    ++ codes " high, size) VALUES (?1, ?2, ?3, ?4, ?5, ?6, ?7, ?8, ?9, ?10, ?11)"

abbrev pub adding_field : FieldRow → Statement
adding_field row = statement add_field_text (columns_of Fields row)

abbrev pub choices_text : List ℕ
choices_text = codes "SELECT id FROM choices WHERE field = ?1 ORDER BY id"

abbrev pub asking_choices : ℤ → Statement
asking_choices field = statement choices_text (Int field ∷ [])

abbrev pub add_choice_text : List ℕ
add_choice_text = codes "INSERT INTO choices (field, place, name) VALUES (?1, ?2, ?3)"

abbrev pub adding_choice : ChoiceRow → Statement
adding_choice row = statement add_choice_text (columns_of Choices row)

-- ---- records and versions

abbrev pub add_record_text : List ℕ
add_record_text =
    codes "INSERT INTO records (lab, number, form, form_code, sample, current)"
    ++ codes " VALUES (?1, ?2, ?3, ?4, ?5, ?6)"

abbrev pub adding_record : RecordRow → Statement
adding_record row = statement add_record_text (columns_of Records row)

abbrev pub counting_records : ℤ → ℕ → Statement
counting_records lab count =
    statement (codes "UPDATE labs SET records = ?2 WHERE id = ?1") (Int lab ∷ number count ∷ [])

abbrev pub add_version_text : List ℕ
add_version_text =
    codes "INSERT INTO versions (record, number, format, opener, opened, reason)"
    ++ codes " VALUES (?1, ?2, ?3, ?4, ?5, ?6)"

abbrev pub adding_version : VersionRow → Statement
adding_version row = statement add_version_text (columns_of Versions row)

-- the version that is the record's current one
abbrev pub setting_current : ℤ → ℕ → Statement
setting_current kept version =
    statement (codes "UPDATE records SET current = ?2 WHERE id = ?1")
    (Int kept ∷ number version ∷ [])
