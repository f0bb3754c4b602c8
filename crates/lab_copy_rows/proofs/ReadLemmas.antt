-- The row of a line stands for that line.
use Rattle.std.proofs.Common.{◌≡◌, ℕ, ◌≤◌, IsTrue, true, false, List, [], ◌∷◌, Option, Some, None, refl, ap, ◌∙◌, arith, le-leb, ne_eqb}
use Rattle.std.specs.Prelude.{nat_le, ◌==◌, if◌then◌else◌, option_map}
use Rattle.std.proofs.lemmas.Bool.{cond-true, cond-false}
use Rattle.lab_forms_texts.specs.Names.{is_lab_code, is_person_code, is_key, is_name, is_note, is_unit}
use Rattle.lab_seal_versions.specs.Origins.{first_number}
use Rattle.lab_seal.specs.Reading.{◌>>=◌, text_where}
use Rattle.lab_seal_versions.specs.declared.versions.Format.{Format}
use Rattle.lab_seal_versions.specs.declared.versions.Format.TheVariants.{One, Two}
use Rattle.lab_seal.proofs.ReadLemmas.{number_complete}
use Rattle.lab_seal.proofs.SpellingLemmas.{text_complete, ordinal_spelling, moment_spelling, digest_spelling, reason_complete}
use Rattle.lab_seal.proofs.TextLemmas.{lab_code_utf8, person_code_utf8, key_utf8, name_utf8, note_utf8, unit_utf8}
use Rattle.lab_seal_versions.specs.declared.seals.Meaning.{Meaning}
use Rattle.lab_seal_versions.specs.declared.seals.Meaning.TheVariants.{Authorship, Review, Rejection, Approval}
use Rattle.lab_seal_versions.specs.declared.states.State.{State}
use Rattle.lab_seal_versions.specs.declared.states.State.TheVariants.{Open, Signed, Reviewed, Released, Rejected}
use Rattle.lab_seal_versions.specs.Seals.{meaning_word, meaning_reason}
use Rattle.lab_seal_versions.specs.States.{state_word}
use Rattle.std.specs.Prelude.{decimal}
use Rattle.lab_copy_rows.specs.Lines.{IsPersonOrNone, IsVersionReason, IsMeaning, IsCopyLine, IsRecordLine, IsVersionLine, IsEntryLine, IsSignatureLine, IsEndLine, IsLine}
use Rattle.lab_copy_rows.specs.Reading.{all_empty, person_in, edition_in, format_in, state_in, meaning_in, version_reason_in, count_in, last_count, copy_line, record_line, version_line, entry_line, signature_line, end_line, line_of}
use Rattle.lab_copy_rows.specs.Rows.{edition_key, format_key, approval_name, optional_text, copy_row, record_row, version_row, entry_row, signature_row, end_row, columns_of_line}
use Rattle.lab_copy_rows.specs.declared.lines.Edition.{Edition}
use Rattle.lab_copy_rows.specs.declared.lines.Edition.TheVariants as edition
use Rattle.lab_copy_rows.specs.declared.lines.CopyLine.{CopyLine}
use Rattle.lab_copy_rows.specs.declared.lines.RecordLine.{RecordLine}
use Rattle.lab_copy_rows.specs.declared.lines.VersionLine.{VersionLine}
use Rattle.lab_copy_rows.specs.declared.lines.EntryLine.{EntryLine}
use Rattle.lab_copy_rows.specs.declared.lines.SignatureLine.{SignatureLine}
use Rattle.lab_copy_rows.specs.declared.lines.EndLine.{EndLine}
use Rattle.lab_copy_rows.specs.declared.lines.Line.{Line}
use Rattle.lab_copy_rows.specs.declared.lines.Line.TheVariants.{Copy, Record, Version, Entry, Signature, End}

-- ---- each part

lab_back : (lab : List ℕ) → IsTrue (is_lab_code lab) → text_where is_lab_code lab ≡ Some lab
lab_back lab is = text_complete is_lab_code lab (lab_code_utf8 lab is) is

person_back : (person : List ℕ) → IsTrue (is_person_code person) → text_where is_person_code person ≡ Some person
person_back person is = text_complete is_person_code person (person_code_utf8 person is) is

key_back : (key : List ℕ) → IsTrue (is_key key) → text_where is_key key ≡ Some key
key_back key is = text_complete is_key key (key_utf8 key is) is

name_back : (name : List ℕ) → IsTrue (is_name name) → text_where is_name name ≡ Some name
name_back name is = text_complete is_name name (name_utf8 name is) is

note_back : (note : List ℕ) → IsTrue (is_note note) → text_where is_note note ≡ Some note
note_back note is = text_complete is_note note (note_utf8 note is) is

unit_back : (unit : List ℕ) → IsTrue (is_unit unit) → text_where is_unit unit ≡ Some unit
unit_back unit is = text_complete is_unit unit (unit_utf8 unit is) is

edition_back : (rules : Edition) → edition_in (edition_key rules) ≡ Some rules
edition_back edition.One = refl
edition_back edition.Two = refl

format_back : (text : Format) → format_in (format_key text) (approval_name text) ≡ Some text
format_back One = refl
format_back (Two true) = refl
format_back (Two false) = refl

state_back : (state : State) → state_in (state_word state) ≡ Some state
state_back Open = refl
state_back Signed = refl
state_back Reviewed = refl
state_back Released = refl
state_back Rejected = refl

meaning_back : (meaning : Meaning) → IsMeaning meaning → meaning_in (meaning_word meaning) (meaning_reason meaning) ≡ Some meaning
meaning_back Authorship is = refl
meaning_back Review is = refl
meaning_back (Rejection reason) is = ap (λ (o : Option (List ℕ)). o >>= (λ note. Some (Rejection note))) (note_back reason is)
meaning_back Approval is = refl

count_back : (count : ℕ) → count ≤ last_count → count_in (decimal count) ≡ Some count
count_back count few =
    ap (λ (o : Option ℕ). o >>= (λ n. if nat_le n last_count then Some n else None)) (number_complete count (omega (arith, few)))
    ∙ cond-true (nat_le count last_count) (Some count) None (le-leb count last_count few)

-- a code is no empty text
somebody : (person : List ℕ) → IsTrue (is_person_code person) → person_in person ≡ Some (Some person)
unfolding is_person_code
somebody [] is = let never : false ≡ true = is in absurd (cc)
somebody (b ∷ bs) is = ap (λ (o : Option (List ℕ)). o >>= (λ person. Some (Some person))) (person_back (b ∷ bs) is)

anybody_back : (person : Option (List ℕ)) → IsPersonOrNone person → person_in (optional_text person) ≡ Some person
anybody_back None is = refl
anybody_back (Some person) is = somebody person is

version_reason_back : (number : ℕ) (reason : Option (List ℕ)) → IsVersionReason number reason
    → version_reason_in number (optional_text reason) ≡ Some reason
version_reason_back number None is = rw is refl
version_reason_back number (Some reason) is =
    cond-false (number == first_number) (all_empty (reason ∷ []) >>= (λ empty. Some None))
    (text_where is_note reason >>= (λ note. Some (Some note))) (ne_eqb number first_number is.0)
    ∙ ap (λ (o : Option (List ℕ)). o >>= (λ note. Some (Some note))) (note_back reason is.1)

-- ---- each kind of row

copy_back : (line : CopyLine) → IsCopyLine line → copy_line (copy_row line) ≡ Some line
unfolding copy_line
copy_back line is =
    rw (
      lab_back line.lab is.lab,
      ordinal_spelling.complete line.from is.from,
      ordinal_spelling.complete line.to is.to,
      edition_back line.edition,
      anybody_back line.person is.person,
      name_back line.name is.name,
      moment_spelling.complete line.moment is.moment,
    ) refl

record_back : (line : RecordLine) → IsRecordLine line → record_line (record_row line) ≡ Some line
unfolding record_line
record_back line is =
    rw (
      lab_back line.lab is.lab,
      ordinal_spelling.complete line.record_number is.record_number,
      ordinal_spelling.complete line.form_version is.form_version,
      key_back line.form is.form,
      name_back line.sample is.sample,
    ) refl

version_back : (line : VersionLine) → IsVersionLine line → version_line (version_row line) ≡ Some line
unfolding version_line
version_back line is =
    rw (
      lab_back line.lab is.lab,
      ordinal_spelling.complete line.record_number is.record_number,
      ordinal_spelling.complete line.number is.number,
      format_back line.format,
      state_back line.state,
      person_back line.opener is.opener,
      moment_spelling.complete line.opened is.opened,
      version_reason_back line.number line.reason is.reason,
      digest_spelling.complete line.digest is.digest,
    ) refl

entry_back : (line : EntryLine) → IsEntryLine line → entry_line (entry_row line) ≡ Some line
unfolding entry_line
entry_back line is =
    rw (
      lab_back line.lab is.lab,
      ordinal_spelling.complete line.record_number is.record_number,
      ordinal_spelling.complete line.version is.version,
      key_back line.row.key is.row.key,
      note_back line.row.value is.row.value,
      unit_back line.row.unit is.row.unit,
      person_back line.row.person is.row.person,
      moment_spelling.complete line.row.moment is.row.moment,
      reason_complete line.row.reason is.row.reason,
    ) refl

signature_back : (line : SignatureLine) → IsSignatureLine line → signature_line (signature_row line) ≡ Some line
unfolding signature_line
signature_back line is =
    rw (
      lab_back line.parts.lab is.lab,
      ordinal_spelling.complete line.record_number is.record_number,
      ordinal_spelling.complete line.version is.version,
      meaning_back line.parts.meaning is.meaning,
      person_back line.parts.person is.person,
      name_back line.parts.name is.name,
      moment_spelling.complete line.parts.moment is.moment,
      digest_spelling.complete line.parts.version is.digest,
      digest_spelling.complete line.seal is.seal,
    ) refl

end_back : (line : EndLine) → IsEndLine line → end_line (end_row line) ≡ Some line
unfolding end_line
end_back line is =
    rw (
      lab_back line.lab is.lab,
      count_back line.counts.records is.records,
      count_back line.counts.versions is.versions,
      count_back line.counts.entries is.entries,
      count_back line.counts.signatures is.signatures,
    ) refl

pub read_back : (line : Line) → IsLine line → line_of (columns_of_line line) ≡ Some line
unfolding line_of
read_back (Copy line) is = ap (option_map (λ (told : CopyLine). Copy told)) (copy_back line is)
read_back (Record line) is = ap (option_map (λ (told : RecordLine). Record told)) (record_back line is)
read_back (Version line) is = ap (option_map (λ (told : VersionLine). Version told)) (version_back line is)
read_back (Entry line) is = ap (option_map (λ (told : EntryLine). Entry told)) (entry_back line is)
read_back (Signature line) is = ap (option_map (λ (told : SignatureLine). Signature told)) (signature_back line is)
read_back (End line) is = ap (option_map (λ (told : EndLine). End told)) (end_back line is)
