-- The reading of a version's text, part by part: what stands at the front of a text, with the rest
-- of the text. No public clause names these steps; they are proved to read exactly the texts of
-- `version_text`.
use Rattle.std.specs.Prelude.{ℕ, zero, suc, ◌==◌, Bool, true, false, if◌then◌else◌, List, [], ◌∷◌, codes, Option, Some, None, option_map}
use Rattle.lab_forms_texts.specs.Names.{is_lab_code, is_person_code, is_key, is_name, is_note, is_unit}
use Rattle.lab_seal_hashes.specs.Digits.{bytes_of_digits}
use Rattle.lab_seal_versions.specs.Origins.{first_number}
use Rattle.lab_seal_versions.specs.declared.origins.Amendment.{Amendment}
use Rattle.lab_seal.specs.declared.parts.Heading.{Heading}
use Rattle.lab_seal.specs.declared.parts.Subject.{Subject}
use Rattle.lab_seal.specs.declared.parts.Reason.{Reason}
use Rattle.lab_seal.specs.declared.parts.Opening.{Opening}
use Rattle.lab_seal.specs.declared.parts.Front.{Front}
use Rattle.lab_seal.specs.declared.parts.Row.{Row}
use Rattle.lab_seal_versions.specs.declared.rows.EntryRow.{EntryRow}
use Rattle.lab_seal_versions.specs.declared.versions.Format.{Format}
use Rattle.lab_seal_versions.specs.declared.versions.Format.TheVariants.{One, Two}
use Rattle.lab_seal.specs.Reading.{◌>>=◌, number_written, first_as, text_where, this_word, which_word, ordinal_in, reason_in, moment_in}

-- which version it is: whether its format is the newer one, the laboratory, the record's number and
-- its own
abbrev pub HeadingValue : Type 0
HeadingValue = Bool × List ℕ × ℕ × ℕ

unfoldable pub first_heading : List ℕ → Option (HeadingValue × List ℕ)
first_heading text = do
  newer ← first_as (which_word (codes "labrecord 2") (codes "labrecord 1")) text
  lab ← first_as (text_where is_lab_code) newer.1
  record_number ← first_as ordinal_in lab.1
  number ← first_as ordinal_in record_number.1
  Some ((newer.0, lab.0, record_number.0, number.0), number.1)

-- the format, of which the newer one says whether an approval is wanted
unfoldable pub first_format : Bool → List ℕ → Option (Format × List ℕ)
first_format false text = Some (One, text)
first_format true text = do
  approval ← first_as (which_word (codes "yes") (codes "no")) text
  Some (Two approval.0, approval.1)

-- what the record is about: form, the form's version, the format, and sample
abbrev pub SubjectValue : Type 0
SubjectValue = List ℕ × ℕ × Format × List ℕ

unfoldable pub first_subject : Bool → List ℕ → Option (SubjectValue × List ℕ)
first_subject is_newer text = do
  form ← first_as (text_where is_key) text
  form_version ← first_as ordinal_in form.1
  format ← first_format is_newer form_version.1
  sample ← first_as (text_where is_name) format.1
  Some ((form.0, form_version.0, format.0, sample.0), sample.1)

-- that the version amends none
unfoldable pub first_no_amendment : List ℕ → Option (Unit {0} × List ℕ)
first_no_amendment text = do
  hyphen ← first_as (this_word (codes "-")) text
  first_as (this_word []) hyphen.1

-- what it amends, and why
unfoldable pub first_amendment : List ℕ → Option (Amendment × List ℕ)
first_amendment text = do
  previous ← first_as (bytes_of_digits 32) text
  reason ← first_as (text_where is_note) previous.1
  Some (record { previous = previous.0; reason = reason.0 }, reason.1)

-- the first version amends none, and every other one does
unfoldable pub first_origin : ℕ → List ℕ → Option (Option Amendment × List ℕ)
first_origin number text =
    if number == first_number then first_no_amendment text >>= (λ found. Some (None, found.1))
    else first_amendment text >>= (λ found. Some (Some found.0, found.1))

-- who opened the version and when, and how many rows it has
abbrev pub OpeningValue : Type 0
OpeningValue = List ℕ × ℕ × ℕ

unfoldable pub first_opening : List ℕ → Option (OpeningValue × List ℕ)
first_opening text = do
  opener ← first_as (text_where is_person_code) text
  opened ← first_as moment_in opener.1
  rows ← first_as number_written opened.1
  Some ((opener.0, opened.0, rows.0), rows.1)

-- all that stands before the rows
pub record FrontValue : Type 0 where
  pub heading : HeadingValue
  pub subject : SubjectValue
  pub amendment : Option Amendment
  pub opening : OpeningValue

unfoldable pub first_front : List ℕ → Option (FrontValue × List ℕ)
first_front text = do
  heading ← first_heading text
  subject ← first_subject heading.0.0 heading.1
  amendment ← first_origin heading.0.3 subject.1
  opening ← first_opening amendment.1
  Some (
    record {
      heading = heading.0;
      subject = subject.0;
      amendment = amendment.0;
      opening = opening.0;
    },
    opening.1,
  )

-- a row
unfoldable pub first_row : List ℕ → Option (EntryRow × List ℕ)
first_row text = do
  key ← first_as (text_where is_key) text
  value ← first_as (text_where is_note) key.1
  unit ← first_as (text_where is_unit) value.1
  person ← first_as (text_where is_person_code) unit.1
  moment ← first_as moment_in person.1
  reason ← first_as reason_in moment.1
  Some (
    record {
      key = key.0;
      value = value.0;
      unit = unit.0;
      person = person.0;
      moment = moment.0;
      reason = reason.0;
    },
    reason.1,
  )

-- so many rows
unfoldable pub first_rows : ℕ → List ℕ → Option (List EntryRow × List ℕ)
first_rows zero text = Some ([], text)
first_rows (suc n) text = do
  row ← first_row text
  rows ← first_rows n row.1
  Some (row.0 ∷ rows.0, rows.1)

-- ---- what the code reads, as these values

abbrev pub heading_of : Heading → HeadingValue
heading_of heading = (heading.is_newer, heading.lab.now, heading.record_number, heading.number)

abbrev pub subject_of : Subject → SubjectValue
subject_of subject = (subject.form.now, subject.form_version, subject.format, subject.sample.now)

abbrev pub amendment_of : Reason → Amendment
amendment_of found = record { previous = found.previous; reason = found.reason.now }

abbrev pub amends_of : Option Reason → Option Amendment
amends_of None = None
amends_of (Some found) = Some (amendment_of found)

abbrev pub opening_of : Opening → OpeningValue
opening_of opening = (opening.opener.now, opening.opened, opening.rows)

abbrev pub front_of : Front → FrontValue
front_of front = record {
  heading = heading_of front.heading;
  subject = subject_of front.subject;
  amendment = amends_of front.amendment;
  opening = opening_of front.opening;
}

abbrev pub entry_row_from : Row → EntryRow
entry_row_from row = record {
  key = row.key.now;
  value = row.value.now;
  unit = row.unit.now;
  person = row.person.now;
  moment = row.moment;
  reason = option_map (λ reason. reason.now) row.reason;
}
