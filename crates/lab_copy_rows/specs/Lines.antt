-- Lines whose parts are what their types admit. The row of such a line stands for it, and for
-- nothing else.
use Rattle.std.specs.Prelude.{◌≡◌, ◌≢◌, ℕ, ◌≤◌, IsTrue, List, Option, Some, None}
use Rattle.lab_forms_texts.specs.Moment.{is_moment}
use Rattle.lab_forms_texts.specs.Names.{is_lab_code, is_person_code, is_key, is_name, is_note}
use Rattle.lab_forms_texts.specs.Ordinals.{is_ordinal}
use Rattle.lab_seal_versions.specs.Origins.{first_number}
use Rattle.lab_seal_versions.specs.Versions.{IsDigest, IsRow}
use Rattle.lab_seal_versions.specs.declared.seals.Meaning.{Meaning}
use Rattle.lab_seal_versions.specs.declared.seals.Meaning.TheVariants.{Authorship, Review, Rejection, Approval}
use Rattle.lab_copy_rows.specs.Reading.{last_count, line_of}
use Rattle.lab_copy_rows.specs.Rows.{columns_of_line}
use Rattle.lab_copy_rows.specs.declared.lines.CopyLine.{CopyLine}
use Rattle.lab_copy_rows.specs.declared.lines.RecordLine.{RecordLine}
use Rattle.lab_copy_rows.specs.declared.lines.VersionLine.{VersionLine}
use Rattle.lab_copy_rows.specs.declared.lines.EntryLine.{EntryLine}
use Rattle.lab_copy_rows.specs.declared.lines.SignatureLine.{SignatureLine}
use Rattle.lab_copy_rows.specs.declared.lines.EndLine.{EndLine}
use Rattle.lab_copy_rows.specs.declared.lines.Line.{Line}
use Rattle.lab_copy_rows.specs.declared.lines.Line.TheVariants.{Copy, Record, Version, Entry, Signature, End}

abbrev pub IsPersonOrNone : Option (List ℕ) → Type 0
IsPersonOrNone None = Unit {0}
IsPersonOrNone (Some person) = IsTrue (is_person_code person)

pub record IsCopyLine (line : CopyLine) : Type 0 where
  pub lab : IsTrue (is_lab_code line.lab)
  pub from : IsTrue (is_ordinal line.from)
  pub to : IsTrue (is_ordinal line.to)
  pub person : IsPersonOrNone line.person
  pub name : IsTrue (is_name line.name)
  pub moment : IsTrue (is_moment line.moment)

pub record IsRecordLine (line : RecordLine) : Type 0 where
  pub lab : IsTrue (is_lab_code line.lab)
  pub record_number : IsTrue (is_ordinal line.record_number)
  pub form_version : IsTrue (is_ordinal line.form_version)
  pub form : IsTrue (is_key line.form)
  pub sample : IsTrue (is_name line.sample)

-- the first version has no reason, and every later one has
abbrev pub IsVersionReason : ℕ → Option (List ℕ) → Type 0
IsVersionReason number None = number ≡ first_number
IsVersionReason number (Some reason) = (number ≢ first_number) × IsTrue (is_note reason)

pub record IsVersionLine (line : VersionLine) : Type 0 where
  pub lab : IsTrue (is_lab_code line.lab)
  pub record_number : IsTrue (is_ordinal line.record_number)
  pub number : IsTrue (is_ordinal line.number)
  pub opener : IsTrue (is_person_code line.opener)
  pub opened : IsTrue (is_moment line.opened)
  pub reason : IsVersionReason line.number line.reason
  pub digest : IsDigest line.digest

pub record IsEntryLine (line : EntryLine) : Type 0 where
  pub lab : IsTrue (is_lab_code line.lab)
  pub record_number : IsTrue (is_ordinal line.record_number)
  pub version : IsTrue (is_ordinal line.version)
  pub row : IsRow line.row

abbrev pub IsMeaning : Meaning → Type 0
IsMeaning Authorship = Unit {0}
IsMeaning Review = Unit {0}
IsMeaning (Rejection reason) = IsTrue (is_note reason)
IsMeaning Approval = Unit {0}

pub record IsSignatureLine (line : SignatureLine) : Type 0 where
  pub lab : IsTrue (is_lab_code line.parts.lab)
  pub record_number : IsTrue (is_ordinal line.record_number)
  pub version : IsTrue (is_ordinal line.version)
  pub meaning : IsMeaning line.parts.meaning
  pub person : IsTrue (is_person_code line.parts.person)
  pub name : IsTrue (is_name line.parts.name)
  pub moment : IsTrue (is_moment line.parts.moment)
  pub digest : IsDigest line.parts.version
  pub seal : IsDigest line.seal

-- an end row tells of so many rows at most
pub record IsEndLine (line : EndLine) : Type 0 where
  pub lab : IsTrue (is_lab_code line.lab)
  pub records : line.counts.records ≤ last_count
  pub versions : line.counts.versions ≤ last_count
  pub entries : line.counts.entries ≤ last_count
  pub signatures : line.counts.signatures ≤ last_count

abbrev pub IsLine : Line → Type 0
IsLine (Copy line) = IsCopyLine line
IsLine (Record line) = IsRecordLine line
IsLine (Version line) = IsVersionLine line
IsLine (Entry line) = IsEntryLine line
IsLine (Signature line) = IsSignatureLine line
IsLine (End line) = IsEndLine line

-- the row of a line stands for that line
abbrev pub RowsReadBack : Type 0
RowsReadBack = (line : Line) → IsLine line → line_of (columns_of_line line) ≡ Some line
