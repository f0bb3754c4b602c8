-- Records, their versions, rows and signatures, as JSON.
use Rattle.std.specs.Prelude.{ℕ, List, [], ◌∷◌, ◌-◌, length, map, codes, Option, Some, None, option_map, slice_get}
use Rattle.serde_json.specs.Data.{Data, object, string, boolean}
use Rattle.lab_seal_versions.specs.declared.origins.Amendment.{Amendment}
use Rattle.lab_seal_versions.specs.declared.rows.EntryRow.{EntryRow}
use Rattle.lab_seal_versions.specs.declared.versions.Format.{Format}
use Rattle.lab_seal_versions.specs.declared.versions.Format.TheVariants.{One, Two}
use Rattle.lab_seal_versions.specs.declared.states.State.{State}
use Rattle.lab_seal_versions.specs.Seals.{meaning_word, meaning_reason}
use Rattle.lab_records_kept.specs.declared.records.Signature.{Signature}
use Rattle.lab_records_rules.specs.declared.readings.VersionState.{VersionState}
use Rattle.lab_records_rules.specs.declared.readings.RecordRead.{RecordRead}
use Rattle.lab_records_rules.specs.declared.readings.RecordState.{RecordState}
use Rattle.lab_records_rules.specs.declared.readings.VersionRead.{VersionRead}
use Rattle.lab_wire_replies.specs.Parts.{members_onto, members_from, object_from, list_from, texts_data, whole, moment_data, digits_data, text_or_empty, state_data, current_data}

-- a record that was opened, with its first version
abbrev pub record_opened_data : ℕ → ℕ → Data
record_opened_data number version =
    object_from ((codes "record", whole number) ∷ (codes "version", whole version) ∷ [])

-- a value that was entered: how many rows the version has now, and its digest with them
abbrev pub entered_data : ℕ → ℕ → ℕ → List ℕ → Data
entered_data number version rows digest =
    object_from (
    (codes "digest", digits_data digest)
    ∷ (codes "record", whole number)
    ∷ (codes "rows", whole rows)
    ∷ (codes "version", whole version)
    ∷ []
    )

-- a version that was opened by an amendment, with its digest
abbrev pub amended_data : ℕ → ℕ → List ℕ → Data
amended_data number version digest =
    object_from (
    (codes "digest", digits_data digest)
    ∷ (codes "record", whole number)
    ∷ (codes "version", whole version)
    ∷ []
    )

-- a signature that was given, and the state that the version has with it
abbrev pub signed_data : Signature → Option State → Data
signed_data signature state =
    object_from (
    (codes "digest", digits_data signature.digest)
    ∷ (codes "meaning", string (meaning_word signature.meaning))
    ∷ (codes "moment", moment_data signature.moment)
    ∷ (codes "name", string signature.name)
    ∷ (codes "seal", digits_data signature.seal)
    ∷ (codes "state", state_data state)
    ∷ []
    )

-- ---- a record

-- one of its versions
abbrev pub version_state_data : VersionState → Data
version_state_data version =
    object_from (
    (codes "digest", digits_data version.digest)
    ∷ (codes "state", state_data version.state)
    ∷ (codes "version", whole version.version)
    ∷ []
    )

-- the number of a version
abbrev pub state_number : VersionState → ℕ
state_number version = version.version

-- the number of the last version, where there is one
abbrev pub current_of : List VersionState → Option ℕ
current_of versions = option_map state_number (slice_get versions (length versions - 1))

-- a record, with the version of its form
abbrev pub record_data : RecordRead → Data
record_data read =
    object_from (
    (codes "current", current_data (current_of read.versions))
    ∷ (codes "form", string read.form.code)
    ∷ (codes "form_version", whole read.form.version)
    ∷ (codes "record", whole read.number)
    ∷ (codes "sample", string read.sample)
    ∷ (codes "versions", list_from (map version_state_data read.versions))
    ∷ []
    )

-- ---- a version

-- a row of entries
abbrev pub row_data : EntryRow → Data
row_data row =
    object_from (
    (codes "key", string row.key)
    ∷ (codes "moment", moment_data row.moment)
    ∷ (codes "person", string row.person)
    ∷ (codes "reason", text_or_empty row.reason)
    ∷ (codes "unit", string row.unit)
    ∷ (codes "value", string row.value)
    ∷ []
    )

-- a signature
abbrev pub signature_data : Signature → Data
signature_data signature =
    object_from (
    (codes "meaning", string (meaning_word signature.meaning))
    ∷ (codes "moment", moment_data signature.moment)
    ∷ (codes "name", string signature.name)
    ∷ (codes "person", string signature.person)
    ∷ (codes "reason", string (meaning_reason signature.meaning))
    ∷ (codes "seal", digits_data signature.seal)
    ∷ []
    )

-- a value
abbrev pub value_data : EntryRow → Data
value_data row =
    object_from (
    (codes "key", string row.key)
    ∷ (codes "unit", string row.unit)
    ∷ (codes "value", string row.value)
    ∷ []
    )

-- the number of the format of a version's text
abbrev pub format_number : Format → ℕ
format_number One = 1
format_number (Two approval) = 2

-- why the version was opened, which a first version doesn't have
abbrev pub reason_of : Option Amendment → Option (List ℕ)
reason_of None = None
reason_of (Some amendment) = Some amendment.reason

-- a version of a record: which record it is of; whether an approval is wanted is said by the
-- version of the form
abbrev pub version_about : VersionRead → List (List ℕ × Data)
version_about read =
    (codes "approval", boolean read.form.form.approval)
    ∷ (codes "form", string read.form.code)
    ∷ (codes "form_version", whole read.form.version)
    ∷ (codes "record", whole read.number)
    ∷ (codes "sample", string read.sample)
    ∷ []

-- which version it is, its moment that of its opening
abbrev pub version_opening : VersionRead → List (List ℕ × Data)
version_opening read =
    (codes "digest", digits_data read.digest)
    ∷ (codes "format", whole (format_number read.version.format))
    ∷ (codes "moment", moment_data read.version.opened)
    ∷ (codes "opener", string read.version.opener)
    ∷ (codes "reason", text_or_empty (reason_of read.version.origin.amendment))
    ∷ (codes "state", state_data read.state)
    ∷ (codes "version", whole read.version.origin.number)
    ∷ []

-- the keys that it altered, its rows and signatures, and the record's values at it
abbrev pub version_lists : VersionRead → List (List ℕ × Data)
version_lists read =
    (codes "altered", texts_data read.altered)
    ∷ (codes "rows", list_from (map row_data read.version.rows))
    ∷ (codes "signatures", list_from (map signature_data read.version.signatures))
    ∷ (codes "values", list_from (map value_data read.values))
    ∷ []

-- a version, with all of these members
abbrev pub version_data : VersionRead → Data
version_data read =
    object (members_onto (version_lists read)
    (members_onto (version_opening read) (members_from (version_about read))))

-- ---- records

-- a record, with the state of its last version
abbrev pub record_state_data : RecordState → Data
record_state_data kept =
    object_from (
    (codes "current", current_data kept.current)
    ∷ (codes "form", string kept.form)
    ∷ (codes "record", whole kept.number)
    ∷ (codes "sample", string kept.sample)
    ∷ (codes "state", state_data kept.state)
    ∷ []
    )

-- records, each by its last version
abbrev pub records_data : List RecordState → Data
records_data records =
    object_from ((codes "records", list_from (map record_state_data records)) ∷ [])
