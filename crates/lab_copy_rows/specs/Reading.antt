-- What the rows of a copy stand for: the one line, if there is one, whose row has these fields. How
-- the parts are spelled is said where they are written (`Rows.antt`); each has one spelling.
use Rattle.std.specs.Prelude.{ℕ, true, false, ◌==◌, nat_le, not, ◌&&◌, if◌then◌else◌, List, [], ◌∷◌, length, codes, Option, Some, None, option_map}
use Rattle.std.specs.List.{list_all}
use Rattle.std.specs.Str.{bytes_eq}
use Rattle.lab_forms_texts.specs.Names.{is_lab_code, is_person_code, is_key, is_name, is_note, is_unit}
use Rattle.lab_seal_hashes.specs.Digits.{bytes_of_digits}
use Rattle.lab_seal_versions.specs.Origins.{first_number}
use Rattle.lab_seal.specs.Reading.{◌>>=◌, number_written, text_where, ordinal_in, reason_in, moment_in}
use Rattle.lab_seal_versions.specs.declared.versions.Format.{Format}
use Rattle.lab_seal_versions.specs.declared.versions.Format.TheVariants as format
use Rattle.lab_seal_versions.specs.declared.seals.Meaning.{Meaning}
use Rattle.lab_seal_versions.specs.declared.seals.Meaning.TheVariants.{Authorship, Review, Rejection, Approval}
use Rattle.lab_seal_versions.specs.declared.states.State.{State}
use Rattle.lab_seal_versions.specs.declared.states.State.TheVariants.{Open, Signed, Reviewed, Released, Rejected}
use Rattle.lab_copy_rows.specs.Rows.{Columns}
use Rattle.lab_copy_rows.specs.declared.lines.Edition.{Edition}
use Rattle.lab_copy_rows.specs.declared.lines.Edition.TheVariants as edition
use Rattle.lab_copy_rows.specs.declared.lines.CopyLine.{CopyLine}
use Rattle.lab_copy_rows.specs.declared.lines.RecordLine.{RecordLine}
use Rattle.lab_copy_rows.specs.declared.lines.VersionLine.{VersionLine}
use Rattle.lab_copy_rows.specs.declared.lines.EntryLine.{EntryLine}
use Rattle.lab_copy_rows.specs.declared.lines.SignatureLine.{SignatureLine}
use Rattle.lab_copy_rows.specs.declared.lines.EndLine.{EndLine}
use Rattle.lab_copy_rows.specs.declared.lines.Line.{Line}
use Rattle.lab_copy_rows.specs.declared.lines.TheConstants.{LAST_COUNT}
use Rattle.lab_copy_rows.specs.declared.lines.Line.TheVariants.{Copy, Record, Version, Entry, Signature, End}

-- thirteen fields as the columns of a row
abbrev pub columns_of : List (List ℕ) → Option Columns
columns_of (kind ∷ lab ∷ record_number ∷ version ∷ key ∷ value ∷ unit ∷ person ∷ name ∷ moment
    ∷ reason ∷ digest ∷ seal ∷ []) =
    Some (record {
      kind = kind;
      lab = lab;
      record_number = record_number;
      version = version;
      key = key;
      value = value;
      unit = unit;
      person = person;
      name = name;
      moment = moment;
      reason = reason;
      digest = digest;
      seal = seal;
    })
columns_of _ = None

-- ---- what the text of a column stands for

-- nothing stands in columns that a kind of row does not fill in
abbrev pub all_empty : List (List ℕ) → Option (Unit {0})
all_empty texts = if list_all (λ (text : List ℕ). length text == 0) texts then Some tt else None

-- a person's code, or nobody
abbrev pub person_in : List ℕ → Option (Option (List ℕ))
person_in [] = Some None
person_in (b ∷ bs) = text_where is_person_code (b ∷ bs) >>= (λ person. Some (Some person))

-- the most rows of one kind that an end row can tell of
abbrev pub last_count : ℕ
last_count = LAST_COUNT

-- a number of rows
abbrev pub count_in : List ℕ → Option ℕ
count_in digits =
    number_written digits >>= (λ count. if nat_le count last_count then Some count else None)

abbrev pub edition_in : List ℕ → Option Edition
edition_in key =
    if bytes_eq key (codes "1") then Some edition.One
    else if bytes_eq key (codes "2") then Some edition.Two else None

-- a format by its key, and the name that says whether an approval is wanted
abbrev pub format_in : List ℕ → List ℕ → Option Format
format_in key name =
    if bytes_eq key (codes "1") && bytes_eq name [] then Some format.One
    else if bytes_eq key (codes "2") && bytes_eq name [] then Some (format.Two false)
    else if bytes_eq key (codes "2") && bytes_eq name (codes "approval") then Some (format.Two true)
    else None

abbrev pub state_in : List ℕ → Option State
state_in word =
    if bytes_eq word (codes "open") then Some Open
    else if bytes_eq word (codes "signed") then Some Signed
    else if bytes_eq word (codes "reviewed") then Some Reviewed
    else if bytes_eq word (codes "released") then Some Released
    else if bytes_eq word (codes "rejected") then Some Rejected else None

-- a meaning by its word and its reason, which only a rejection has
abbrev pub meaning_in : List ℕ → List ℕ → Option Meaning
meaning_in word reason =
    if bytes_eq word (codes "rejection")
    then text_where is_note reason >>= (λ note. Some (Rejection note))
    else if not (length reason == 0) then None
    else if bytes_eq word (codes "authorship") then Some Authorship
    else if bytes_eq word (codes "review") then Some Review
    else if bytes_eq word (codes "approval") then Some Approval else None

-- the reason of a version: the first has none, and every later one has
abbrev pub version_reason_in : ℕ → List ℕ → Option (Option (List ℕ))
version_reason_in number text =
    if number == first_number then all_empty (text ∷ []) >>= (λ empty. Some None)
    else text_where is_note text >>= (λ note. Some (Some note))

-- ---- what a row of each kind stands for

unfoldable pub copy_line : Columns → Option CopyLine
copy_line row = do
  lab ← text_where is_lab_code row.lab
  first ← ordinal_in row.record_number
  last ← ordinal_in row.version
  key ← edition_in row.key
  person ← person_in row.person
  name ← text_where is_name row.name
  moment ← moment_in row.moment
  empty ← all_empty (row.value ∷ row.unit ∷ row.reason ∷ row.digest ∷ row.seal ∷ [])
  Some (record {
    edition = key;
    lab = lab;
    from = first;
    to = last;
    person = person;
    name = name;
    moment = moment;
  })

unfoldable pub record_line : Columns → Option RecordLine
record_line row = do
  lab ← text_where is_lab_code row.lab
  record_number ← ordinal_in row.record_number
  form_version ← ordinal_in row.version
  form ← text_where is_key row.key
  sample ← text_where is_name row.value
  empty ← all_empty
      (row.unit ∷ row.person ∷ row.name ∷ row.moment ∷ row.reason ∷ row.digest ∷ row.seal ∷ [])
  Some (record {
    lab = lab;
    record_number = record_number;
    form_version = form_version;
    form = form;
    sample = sample;
  })

unfoldable pub version_line : Columns → Option VersionLine
version_line row = do
  lab ← text_where is_lab_code row.lab
  record_number ← ordinal_in row.record_number
  number ← ordinal_in row.version
  text_format ← format_in row.key row.name
  state ← state_in row.value
  opener ← text_where is_person_code row.person
  opened ← moment_in row.moment
  reason ← version_reason_in number row.reason
  digest ← bytes_of_digits 32 row.digest
  empty ← all_empty (row.unit ∷ row.seal ∷ [])
  Some (record {
    lab = lab;
    record_number = record_number;
    number = number;
    format = text_format;
    state = state;
    opener = opener;
    opened = opened;
    reason = reason;
    digest = digest;
  })

unfoldable pub entry_line : Columns → Option EntryLine
entry_line row = do
  lab ← text_where is_lab_code row.lab
  record_number ← ordinal_in row.record_number
  version ← ordinal_in row.version
  key ← text_where is_key row.key
  value ← text_where is_note row.value
  unit ← text_where is_unit row.unit
  person ← text_where is_person_code row.person
  moment ← moment_in row.moment
  reason ← reason_in row.reason
  empty ← all_empty (row.name ∷ row.digest ∷ row.seal ∷ [])
  Some (record {
    lab = lab;
    record_number = record_number;
    version = version;
    row = record {
      key = key;
      value = value;
      unit = unit;
      person = person;
      moment = moment;
      reason = reason;
    };
  })

unfoldable pub signature_line : Columns → Option SignatureLine
signature_line row = do
  lab ← text_where is_lab_code row.lab
  record_number ← ordinal_in row.record_number
  version ← ordinal_in row.version
  meaning ← meaning_in row.value row.reason
  person ← text_where is_person_code row.person
  name ← text_where is_name row.name
  moment ← moment_in row.moment
  digest ← bytes_of_digits 32 row.digest
  seal ← bytes_of_digits 32 row.seal
  empty ← all_empty (row.key ∷ row.unit ∷ [])
  Some (record {
    record_number = record_number;
    version = version;
    parts = record {
      version = digest;
      lab = lab;
      person = person;
      name = name;
      meaning = meaning;
      moment = moment;
    };
    seal = seal;
  })

unfoldable pub end_line : Columns → Option EndLine
end_line row = do
  lab ← text_where is_lab_code row.lab
  records ← count_in row.record_number
  versions ← count_in row.version
  entries ← count_in row.key
  signatures ← count_in row.value
  empty ← all_empty
      (row.unit ∷ row.person ∷ row.name ∷ row.moment ∷ row.reason ∷ row.digest ∷ row.seal ∷ [])
  Some (record {
    lab = lab;
    counts = record {
      records = records;
      versions = versions;
      entries = entries;
      signatures = signatures;
    };
  })

-- what a row stands for, by its kind
unfoldable pub line_of : Columns → Option Line
line_of row =
    if bytes_eq row.kind (codes "copy") then option_map (λ line. Copy line) (copy_line row)
    else if bytes_eq row.kind (codes "record")
    then option_map (λ line. Record line) (record_line row)
    else if bytes_eq row.kind (codes "version")
    then option_map (λ line. Version line) (version_line row)
    else if bytes_eq row.kind (codes "entry") then option_map (λ line. Entry line) (entry_line row)
    else if bytes_eq row.kind (codes "signature")
    then option_map (λ line. Signature line) (signature_line row)
    else if bytes_eq row.kind (codes "end") then option_map (λ line. End line) (end_line row)
    else None
