-- The text of a version (ISO/IEC 17025:2017, 7.5.2), over which its digest is taken: items one
-- after the other, each a text behind its length in bytes. The form is this system's own
-- (docs/VERSIONS.md).
use Rattle.std.specs.Prelude.{◌≡◌, ◌≢◌, ℕ, ◌<◌, ◌^◌, IsTrue, true, false, List, [], ◌++◌, length, decimal, codes, Option, Some, None, All}
use Rattle.std.specs.List.{flat_map}
use Rattle.hex.specs.Hex.{encode_lower, IsBytes}
use Rattle.lab_forms_texts.specs.Moment.{is_moment, moment_text}
use Rattle.lab_forms_texts.specs.Names.{is_lab_code, is_person_code, is_key, is_name, is_note, is_unit}
use Rattle.lab_forms_texts.specs.Ordinals.{is_ordinal}
use Rattle.lab_seal_versions.specs.Origins.{AmendsUnlessFirst}
use Rattle.lab_seal_versions.specs.declared.origins.Amendment.{Amendment}
use Rattle.lab_seal_versions.specs.declared.origins.OriginParts.{OriginParts}
use Rattle.lab_seal_versions.specs.declared.rows.EntryRow.{EntryRow}
use Rattle.lab_seal_versions.specs.declared.versions.Format.{Format}
use Rattle.lab_seal_versions.specs.declared.versions.Format.TheVariants.{One, Two}
use Rattle.lab_seal_versions.specs.declared.versions.VersionParts.{VersionParts}

-- an item is the length of its bytes in decimal, a colon, the bytes, and a line feed
unfoldable pub item : List ℕ → List ℕ
item bytes = decimal (length bytes) ++ codes ":" ++ bytes ++ codes "\n"

-- the word of a format, with which a text begins
abbrev pub format_word : Format → List ℕ
format_word One = codes "labrecord 1"
format_word (Two _) = codes "labrecord 2"

-- whether an approval is wanted, of which only the newer format tells
abbrev pub approval_text : Format → List ℕ
approval_text One = []
approval_text (Two true) = item (codes "yes")
approval_text (Two false) = item (codes "no")

-- which version it is: format, laboratory, record and number
unfoldable pub heading_text : VersionParts → List ℕ
heading_text parts =
    item (format_word parts.format) ++ item parts.lab ++ item (decimal parts.record_number)
    ++ item (decimal parts.origin.number)

-- what the record is about: form, the form's version, whether it wants an approval, and sample
unfoldable pub subject_text : VersionParts → List ℕ
subject_text parts =
    item parts.form ++ item (decimal parts.form_version) ++ approval_text parts.format
    ++ item parts.sample

-- the digest of the version before and the reason for this one, which a first version does not have
unfoldable pub origin_text : Option Amendment → List ℕ
origin_text None = item (codes "-") ++ item []
origin_text (Some amendment) = item (encode_lower amendment.previous) ++ item amendment.reason

-- who opened the version, when, and the number of its rows
unfoldable pub opening_text : VersionParts → List ℕ
opening_text parts =
    item parts.opener ++ item (moment_text parts.opened) ++ item (decimal (length parts.rows))

-- the reason of a row, or nothing
abbrev pub reason_text : Option (List ℕ) → List ℕ
reason_text None = []
reason_text (Some reason) = reason

-- a row of entries: key, value, unit, person, moment and reason
unfoldable pub row_text : EntryRow → List ℕ
row_text row =
    item row.key ++ item row.value ++ item row.unit ++ item row.person
    ++ item (moment_text row.moment) ++ item (reason_text row.reason)

-- all that stands before the rows
unfoldable pub front_text : VersionParts → List ℕ
front_text parts =
    heading_text parts ++ subject_text parts ++ origin_text parts.origin.amendment
    ++ opening_text parts

-- the text of a version
unfoldable pub version_text : VersionParts → List ℕ
version_text parts = front_text parts ++ flat_map row_text parts.rows

-- the version of these parts, but with these rows
abbrev pub with_rows : VersionParts → List EntryRow → VersionParts
with_rows parts rows = record {
  format = parts.format;
  lab = parts.lab;
  record_number = parts.record_number;
  origin = parts.origin;
  form = parts.form;
  form_version = parts.form_version;
  sample = parts.sample;
  opener = parts.opener;
  opened = parts.opened;
  rows = rows;
}

-- 32 bytes
abbrev pub IsDigest : List ℕ → Type 0
IsDigest digest = (length digest ≡ 32) × IsBytes digest

-- what a heading holds is what its types admit
pub record IsHeading (parts : VersionParts) : Type 0 where
  pub lab : IsTrue (is_lab_code parts.lab)
  pub record_number : IsTrue (is_ordinal parts.record_number)
  pub number : IsTrue (is_ordinal parts.origin.number)

-- and so is what a subject holds
pub record IsSubject (parts : VersionParts) : Type 0 where
  pub form : IsTrue (is_key parts.form)
  pub form_version : IsTrue (is_ordinal parts.form_version)
  pub sample : IsTrue (is_name parts.sample)

-- the parts of an amendment are what their types admit, or there is none
abbrev pub IsAmendment : Option Amendment → Type 0
IsAmendment None = Unit {0}
IsAmendment (Some amendment) = IsDigest amendment.previous × IsTrue (is_note amendment.reason)

-- an origin amends a version exactly where it is not the first
pub record IsOrigin (origin : OriginParts) : Type 0 where
  pub order : AmendsUnlessFirst origin.number origin.amendment
  pub amendment : IsAmendment origin.amendment

-- an opening's parts are what their types admit, and the rows are no more than a list in memory has
pub record IsOpening (parts : VersionParts) : Type 0 where
  pub opener : IsTrue (is_person_code parts.opener)
  pub opened : IsTrue (is_moment parts.opened)
  pub few : length parts.rows < 2 ^ 64

-- all parts but the rows are what their types admit
pub record IsFrontAdmitted (parts : VersionParts) : Type 0 where
  pub heading : IsHeading parts
  pub subject : IsSubject parts
  pub origin : IsOrigin parts.origin
  pub opening : IsOpening parts

-- a reason is a note, or there is none
abbrev pub IsReason : Option (List ℕ) → Type 0
IsReason None = Unit {0}
IsReason (Some reason) = IsTrue (is_note reason)

-- the parts of a row are what their types admit
pub record IsRow (row : EntryRow) : Type 0 where
  pub key : IsTrue (is_key row.key)
  pub value : IsTrue (is_note row.value)
  pub unit : IsTrue (is_unit row.unit)
  pub person : IsTrue (is_person_code row.person)
  pub moment : IsTrue (is_moment row.moment)
  pub reason : IsReason row.reason

-- the parts of a version are what their types admit
pub record IsVersion (parts : VersionParts) : Type 0 where
  pub front : IsFrontAdmitted parts
  pub rows : All IsRow parts.rows

-- no version has these bytes as its text
abbrev pub IsNoVersion : List ℕ → Type 0
IsNoVersion bytes = (parts : VersionParts) → IsVersion parts → version_text parts ≢ bytes

-- a version has these bytes as its text
pub record IsSomeVersion (bytes : List ℕ) : Type 0 where
  pub parts : VersionParts
  pub version : IsVersion parts
  pub text : version_text parts ≡ bytes

-- no text of a version is the front of another, and a version has one text: where two texts of
-- versions, of whichever formats, stand at the front of the same bytes, the versions are the same,
-- and so is what follows
abbrev pub OneSpelling : Type 0
OneSpelling =
    (one other : VersionParts) (rest more : List ℕ) → IsVersion one → IsVersion other
    → version_text one ++ rest ≡ version_text other ++ more → (one ≡ other) × (rest ≡ more)
