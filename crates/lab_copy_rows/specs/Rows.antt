-- The rows of a copy (21 CFR 11.10(b): copies in human readable and electronic form), column by
-- column. Which columns a kind of row fills in is this system's own (docs/COPIES.md).
use Rattle.std.specs.Prelude.{ℕ, List, [], ◌∷◌, codes, decimal, Option, Some, None}
use Rattle.std.specs.Prelude.{true, false}
use Rattle.hex.specs.Hex.{encode_lower}
use Rattle.lab_forms_texts.specs.Moment.{moment_text}
use Rattle.lab_seal_versions.specs.Seals.{meaning_word, meaning_reason}
use Rattle.lab_seal_versions.specs.States.{state_word}
use Rattle.lab_seal_versions.specs.declared.versions.Format.{Format}
use Rattle.lab_seal_versions.specs.declared.versions.Format.TheVariants.{One, Two}
use Rattle.lab_copy_rows.specs.declared.lines.Edition.{Edition}
use Rattle.lab_copy_rows.specs.declared.lines.Edition.TheVariants as edition
use Rattle.lab_copy_rows.specs.declared.lines.CopyLine.{CopyLine}
use Rattle.lab_copy_rows.specs.declared.lines.RecordLine.{RecordLine}
use Rattle.lab_copy_rows.specs.declared.lines.VersionLine.{VersionLine}
use Rattle.lab_copy_rows.specs.declared.lines.EntryLine.{EntryLine}
use Rattle.lab_copy_rows.specs.declared.lines.SignatureLine.{SignatureLine}
use Rattle.lab_copy_rows.specs.declared.lines.EndLine.{EndLine}
use Rattle.lab_copy_rows.specs.declared.lines.Line.{Line}
use Rattle.lab_copy_rows.specs.declared.lines.Line.TheVariants.{Copy, Record, Version, Entry, Signature, End}

-- a row: its thirteen columns, each with a text
pub record Columns : Type 0 where
  pub kind : List ℕ
  pub lab : List ℕ
  pub record_number : List ℕ
  pub version : List ℕ
  pub key : List ℕ
  pub value : List ℕ
  pub unit : List ℕ
  pub person : List ℕ
  pub name : List ℕ
  pub moment : List ℕ
  pub reason : List ℕ
  pub digest : List ℕ
  pub seal : List ℕ

-- the fields of a row, in order
abbrev pub fields_in : Columns → List (List ℕ)
fields_in row =
    row.kind ∷ row.lab ∷ row.record_number ∷ row.version ∷ row.key ∷ row.value ∷ row.unit
    ∷ row.person ∷ row.name ∷ row.moment ∷ row.reason ∷ row.digest ∷ row.seal ∷ []

-- the kind of a row, which is its first field
abbrev pub kind_in : List (List ℕ) → List ℕ
kind_in [] = []
kind_in (kind ∷ fields) = kind

-- the header: the names of the columns
abbrev pub header_row : Columns
header_row = record {
  kind = codes "kind";
  lab = codes "lab";
  record_number = codes "record";
  version = codes "version";
  key = codes "key";
  value = codes "value";
  unit = codes "unit";
  person = codes "person";
  name = codes "name";
  moment = codes "moment";
  reason = codes "reason";
  digest = codes "digest";
  seal = codes "seal";
}

-- a row of a kind and a laboratory, with nothing else
abbrev pub row_of_kind : List ℕ → List ℕ → Columns
row_of_kind kind lab = record {
  kind = kind;
  lab = lab;
  record_number = [];
  version = [];
  key = [];
  value = [];
  unit = [];
  person = [];
  name = [];
  moment = [];
  reason = [];
  digest = [];
  seal = [];
}

-- the key of an edition
abbrev pub edition_key : Edition → List ℕ
edition_key edition.One = codes "1"
edition_key edition.Two = codes "2"

-- a text, or nothing
abbrev pub optional_text : Option (List ℕ) → List ℕ
optional_text None = []
optional_text (Some text) = text

-- which records the copy is of, who asked for it, the laboratory's name, and when it was made
abbrev pub copy_row : CopyLine → Columns
copy_row line = record (row_of_kind (codes "copy") line.lab) {
  record_number = decimal line.from;
  version = decimal line.to;
  key = edition_key line.edition;
  person = optional_text line.person;
  name = line.name;
  moment = moment_text line.moment;
}

-- a record's number, the form with its version, and the sample
abbrev pub record_row : RecordLine → Columns
record_row line = record (row_of_kind (codes "record") line.lab) {
  record_number = decimal line.record_number;
  version = decimal line.form_version;
  key = line.form;
  value = line.sample;
}

-- the format of a version's text
abbrev pub format_key : Format → List ℕ
format_key One = codes "1"
format_key (Two _) = codes "2"

-- whether the form wants an approval, of which only the newer format tells
abbrev pub approval_name : Format → List ℕ
approval_name One = []
approval_name (Two true) = codes "approval"
approval_name (Two false) = []

-- a version's numbers, its format and state, who opened it, when and why, and its digest
abbrev pub version_row : VersionLine → Columns
version_row line = record (row_of_kind (codes "version") line.lab) {
  record_number = decimal line.record_number;
  version = decimal line.number;
  key = format_key line.format;
  value = state_word line.state;
  person = line.opener;
  name = approval_name line.format;
  moment = moment_text line.opened;
  reason = optional_text line.reason;
  digest = encode_lower line.digest;
}

-- what was entered, with its unit, by whom, when and why
abbrev pub entry_row : EntryLine → Columns
entry_row line = record (row_of_kind (codes "entry") line.lab) {
  record_number = decimal line.record_number;
  version = decimal line.version;
  key = line.row.key;
  value = line.row.value;
  unit = line.row.unit;
  person = line.row.person;
  moment = moment_text line.row.moment;
  reason = optional_text line.row.reason;
}

-- what a version was signed as, by whom, when and why, with the digest that was signed and the seal
abbrev pub signature_row : SignatureLine → Columns
signature_row line = record (row_of_kind (codes "signature") line.parts.lab) {
  record_number = decimal line.record_number;
  version = decimal line.version;
  value = meaning_word line.parts.meaning;
  person = line.parts.person;
  name = line.parts.name;
  moment = moment_text line.parts.moment;
  reason = meaning_reason line.parts.meaning;
  digest = encode_lower line.parts.version;
  seal = encode_lower line.seal;
}

-- how many rows of each kind there are
abbrev pub end_row : EndLine → Columns
end_row line = record (row_of_kind (codes "end") line.lab) {
  record_number = decimal line.counts.records;
  version = decimal line.counts.versions;
  key = decimal line.counts.entries;
  value = decimal line.counts.signatures;
}

-- the row of a line
abbrev pub columns_of_line : Line → Columns
columns_of_line (Copy line) = copy_row line
columns_of_line (Record line) = record_row line
columns_of_line (Version line) = version_row line
columns_of_line (Entry line) = entry_row line
columns_of_line (Signature line) = signature_row line
columns_of_line (End line) = end_row line
