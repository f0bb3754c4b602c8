-- A laboratory that is legible: what a copy shows of it are codes, names, notes, numbers and moments
-- such as their types admit, so that each row of a copy stands for what was recorded (ISO/IEC
-- 17025:2017, 8.4.1, "legible records"; 21 CFR 11.10(b), "accurate and complete copies"). And the
-- changes that leave it so.
use Rattle.std.specs.Prelude.{◌≡◌, ◌≤◌, ℕ, IsTrue, List, Option, All, MatchOption}
use Rattle.std.specs.Io.KnownBytes.{Appends}
use Rattle.lab_forms_texts.specs.Moment.{is_moment}
use Rattle.lab_forms_texts.specs.Names.{is_key, is_lab_code, is_name, is_person_code}
use Rattle.lab_forms_texts.specs.Ordinals.{is_ordinal}
use Rattle.lab_seal_versions.specs.Versions.{IsDigest, IsRow}
use Rattle.lab_people_access.specs.declared.persons.Person.{Person}
use Rattle.lab_records_kept.specs.declared.changes.Change.{Change}
use Rattle.lab_records_kept.specs.declared.changes.Change.TheVariants.{PersonAdded, PersonSet, RecordAdded, RowAdded, VersionOpened, SignatureAdded}
use Rattle.lab_records_kept.specs.declared.labs.Lab.{Lab}
use Rattle.lab_records_kept.specs.declared.records.Record.{Record}
use Rattle.lab_records_kept.specs.declared.records.Signature.{Signature}
use Rattle.lab_records_kept.specs.declared.records.Version.{Version}
use Rattle.lab_records_kept.specs.Bound.{IsBound}
use Rattle.lab_records_kept.specs.Dual.{IsDual}
use Rattle.lab_records_kept.specs.Limits.{IsWithin}
use Rattle.lab_records_kept.specs.Lookups.{records_within}
use Rattle.lab_records_keeper.specs.Worlds.{World}
use Rattle.lab_copy_rows.specs.Copies.{counts_of, IsSoundCopy}
use Rattle.lab_copy_rows.specs.Csv.{csv_text}
use Rattle.lab_copy_rows.specs.Lines.{IsMeaning, IsPersonOrNone, IsVersionReason}
use Rattle.lab_copy_rows.specs.declared.lines.Counts.{Counts}
use Rattle.lab_records_copies.specs.declared.orders.CopyOrder.{CopyOrder}
use Rattle.lab_records_copies.specs.CopyLines.{body_lines, copy_of, reason_of}

-- ---- what is kept

pub record IsLegibleSignature (signature : Signature) : Type 0 where
  pub person : IsTrue (is_person_code signature.person)
  pub name : IsTrue (is_name signature.name)
  pub meaning : IsMeaning signature.meaning
  pub moment : IsTrue (is_moment signature.moment)
  pub digest : IsDigest signature.digest
  pub seal : IsDigest signature.seal

pub record IsLegibleVersion (version : Version) : Type 0 where
  pub number : IsTrue (is_ordinal version.origin.number)
  pub reason : IsVersionReason version.origin.number (reason_of version)
  pub opener : IsTrue (is_person_code version.opener)
  pub opened : IsTrue (is_moment version.opened)
  pub rows : All IsRow version.rows
  pub signatures : All IsLegibleSignature version.signatures

pub record IsLegibleRecord (kept : Record) : Type 0 where
  pub number : IsTrue (is_ordinal kept.number)
  pub form_version : IsTrue (is_ordinal kept.form.version)
  pub form : IsTrue (is_key kept.form.code)
  pub sample : IsTrue (is_name kept.sample)
  pub versions : All IsLegibleVersion kept.versions

-- the code of a person, who may ask for a copy
abbrev pub IsLegiblePerson : Person → Type 0
IsLegiblePerson person = IsTrue (is_person_code person.code)

pub record IsLegible (lab : Lab) : Type 0 where
  pub code : IsTrue (is_lab_code lab.code)
  pub name : IsTrue (is_name lab.name)
  pub persons : All IsLegiblePerson lab.persons
  pub records : All IsLegibleRecord lab.records

-- ---- changes

-- what a change brings is such
abbrev pub IsLegibleChange : Change → Type 0
IsLegibleChange (PersonAdded person) = IsLegiblePerson person
IsLegibleChange (PersonSet person) = IsLegiblePerson person
IsLegibleChange (RecordAdded kept) = IsLegibleRecord kept
IsLegibleChange (RowAdded number row) = IsRow row
IsLegibleChange (VersionOpened number version) = IsLegibleVersion version
IsLegibleChange (SignatureAdded number version signature) = IsLegibleSignature signature
IsLegibleChange _ = Unit {0}

-- ---- copies

-- what is asked for, by whom and when are such
pub record IsLegibleOrder (order : CopyOrder) : Type 0 where
  pub from : IsTrue (is_ordinal order.from)
  pub to : IsTrue (is_ordinal order.to)
  pub person : IsPersonOrNone order.person
  pub moment : IsTrue (is_moment order.moment)

-- all that a sound copy of a laboratory relies on
pub record IsCopiable (lab : Lab) : Type 0 where
  pub within : IsWithin lab
  pub bound : IsBound lab
  pub dual : IsDual lab
  pub legible : IsLegible lab

-- the laboratory of a code is such, where there is one and the keeper is live
abbrev pub CanCopy : World → List ℕ → Type 0
CanCopy world code = world.is_live → MatchOption (world.meaning code) (Unit {0}) IsCopiable

-- how many rows of each kind the records of the range have
abbrev pub counts_asked : Lab → CopyOrder → Counts
counts_asked lab order =
    counts_of (body_lines lab.code (records_within order.from order.to lab.records))

-- the copy of the laboratory is sound, and its end tells these numbers
abbrev pub IsSoundOf : CopyOrder → Lab → Type 0
IsSoundOf order lab = IsSoundCopy (copy_of lab order) (counts_asked lab order)

-- the whole text of the copy went out, and the copy is sound
pub record SendsSound (order : CopyOrder) (before after : Option (List ℕ)) (lab : Lab)
    : Type 0 where
  pub text : Appends before after (csv_text (copy_of lab order))
  pub sound : IsSoundOf order lab

-- every such laboratory gives sound copies, of whatever range that is none backwards
abbrev pub AllGiveSoundCopies : Type 0
AllGiveSoundCopies =
    (lab : Lab) (order : CopyOrder) → IsCopiable lab → IsLegibleOrder order → order.from ≤ order.to
    → IsSoundOf order lab
