-- How the fields of a row are read, one by one; what each stands for is said in lab_copy_rows,
-- `Reading.antt`.
use Rattle.std.specs.Prelude.{◌≡◌, ◌≢◌, ℕ, IsTrue, List, Option, Some, None}
use Rattle.lab_forms_texts.specs.Names.{is_person_code, is_note}
use Rattle.lab_seal_versions.specs.Origins.{first_number}
use Rattle.lab_seal_versions.specs.declared.seals.Meaning.{Meaning}
use Rattle.lab_seal_versions.specs.declared.seals.Meaning.TheVariants as meaning
use Rattle.lab_copy_rows.specs.Rows.{Columns}
use Rattle.lab_copy_lines.specs.declared.columns.RowFields.{RowFields}
use Rattle.lab_copy_lines.specs.declared.fields.MeaningParts.{MeaningParts}
use Rattle.lab_copy_lines.specs.declared.fields.MeaningParts.TheVariants.{Authorship, Review, Rejection, Approval}

-- the fields that the code has, as columns
abbrev pub columns_in : RowFields → Columns
columns_in row = record {
  kind = row.kind.now;
  lab = row.lab.now;
  record_number = row.record_number.now;
  version = row.version.now;
  key = row.key.now;
  value = row.value.now;
  unit = row.unit.now;
  person = row.person.now;
  name = row.name.now;
  moment = row.moment.now;
  reason = row.reason.now;
  digest = row.digest.now;
  seal = row.seal.now;
}

-- the first version has no reason, and every later one has
abbrev pub HasReasonUnlessFirst : ℕ → Option (List ℕ) → Type 0
HasReasonUnlessFirst number None = number ≡ first_number
HasReasonUnlessFirst number (Some _) = number ≢ first_number

-- the meaning that the code has of a row before it takes memory
abbrev pub meaning_in_row : MeaningParts → Meaning
meaning_in_row Authorship = meaning.Authorship
meaning_in_row Review = meaning.Review
meaning_in_row (Rejection reason) = meaning.Rejection reason.now
meaning_in_row Approval = meaning.Approval

-- ---- each text is one that its type admits

abbrev pub IsNoteOrNone : Option (List ℕ) → Type 0
IsNoteOrNone None = Unit {0}
IsNoteOrNone (Some note) = IsTrue (is_note note)

abbrev pub IsPersonOrNone : Option (List ℕ) → Type 0
IsPersonOrNone None = Unit {0}
IsPersonOrNone (Some code) = IsTrue (is_person_code code)

abbrev pub IsMeaningText : MeaningParts → Type 0
IsMeaningText Authorship = Unit {0}
IsMeaningText Review = Unit {0}
IsMeaningText (Rejection reason) = IsTrue (is_note reason.now)
IsMeaningText Approval = Unit {0}
