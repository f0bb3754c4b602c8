-- What the versions of a record say together: its present values, the keys that a version altered,
-- and the state of a version (ISO/IEC 17025:2017, 7.5.2: "both the original and amended data and
-- files shall be retained, including .. an indication of the altered aspects").
use Rattle.std.specs.Prelude.{ℕ, Bool, true, false, not, ◌-◌, List, reverse, take, map, find, filter, Option, Some, None, bytes_eq}
use Rattle.std.specs.List.{flat_map, filter_map, list_any}
use Rattle.lab_forms.specs.declared.forms.Field.{Field}
use Rattle.lab_forms.specs.Forms.{key_of}
use Rattle.lab_seal_versions.specs.declared.rows.EntryRow.{EntryRow}
use Rattle.lab_seal_versions.specs.declared.seals.Meaning.{Meaning}
use Rattle.lab_seal_versions.specs.declared.states.State.{State}
use Rattle.lab_seal_versions.specs.States.{state_of}
use Rattle.lab_records_kept.specs.declared.records.Record.{Record}
use Rattle.lab_records_kept.specs.declared.records.Version.{Version}
use Rattle.lab_records_kept.specs.declared.records.Signature.{Signature}

-- the rows of versions, in order
abbrev pub rows_of : Version → List EntryRow
rows_of version = version.rows

abbrev pub all_rows : List Version → List EntryRow
all_rows versions = flat_map rows_of versions

-- the rows of a record's first versions, so many of them
abbrev pub rows_to : ℕ → Record → List EntryRow
rows_to number kept = all_rows (take number kept.versions)

-- a row has the key
abbrev pub has_key : List ℕ → EntryRow → Bool
has_key key row = bytes_eq row.key key

-- the value of a key is its last row; earlier rows stay, and are read where they stand
abbrev pub value_of : List EntryRow → List ℕ → Option EntryRow
value_of rows key = find (has_key key) (reverse rows)

-- the values of a form's fields, in the order of the form
abbrev pub values_of : List Field → List EntryRow → List EntryRow
values_of fields rows = filter_map (λ field. value_of rows (key_of field)) fields

-- the values of a record at the version of a number: of all its versions up to that one
abbrev pub values_at : Record → ℕ → List EntryRow
values_at kept number = values_of kept.form.form.fields (rows_to number kept)

-- a value differs from the one before, or there was none; what was entered is compared as it was
-- written
abbrev pub differs : Option EntryRow → EntryRow → Bool
differs None row = true
differs (Some before) row = not (bytes_eq before.value row.value)

-- a key has a value, and another one than before, or had none
abbrev pub is_altered_by : Option EntryRow → Option EntryRow → Bool
is_altered_by before None = false
is_altered_by before (Some row) = differs before row

-- a key is altered where what it comes to by the rows differs from what it came to before
abbrev pub is_altered : List EntryRow → List EntryRow → List ℕ → Bool
is_altered before rows key = is_altered_by (value_of before key) (value_of rows key)

-- the keys that a version altered, in the order of the form; in a first version all that have a
-- value
abbrev pub altered_at : Record → ℕ → List (List ℕ)
altered_at kept number =
    filter (is_altered (rows_to (number - 1) kept) (rows_to number kept))
    (map key_of kept.form.form.fields)

-- the meanings of signatures, in order
abbrev pub meaning_of : Signature → Meaning
meaning_of signature = signature.meaning

abbrev pub meanings_of : Version → List Meaning
meanings_of version = map meaning_of version.signatures

-- the state of a record's version, by its signatures and by whether the form wants an approval
abbrev pub version_state : Record → Version → Option State
version_state kept version = state_of (meanings_of version) kept.form.form.approval

-- a person entered a row of a version
abbrev pub is_by : List ℕ → EntryRow → Bool
is_by person row = bytes_eq row.person person

abbrev pub has_entered : List ℕ → Version → Bool
has_entered person version = list_any (is_by person) version.rows
