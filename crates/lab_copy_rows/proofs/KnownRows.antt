-- Values from outside, so that a wrong rule in the definitions does not check: the copy of one released
-- record, whose digest is that of docs/VERSIONS.md by sha256sum and whose seals are Python's, as it
-- is and with changes.
use Rattle.std.proofs.Common.{◌≡◌, refl, ℕ, List, [], ◌∷◌, ◌++◌, Some, Ok, Err}
use Rattle.csv.specs.Writing.{fields_text, is_blank, escaped}
use Rattle.std.specs.Prelude.{codes, Result}
use Rattle.std.specs.Fmt.{digits}
use Rattle.std.specs.Str.{is_utf8, chars}
use lib.Utf8.{encode}
use Rattle.hex.specs.Hex.{decode_pairs, encode_with}
use Rattle.sha2.specs.Sha256.{sha256, hash_after, compress, rounds, schedule, first_words, digest_bytes}
use Rattle.lab_forms_texts.specs.Calendar.{days_of_spans, span_of, place_of, place_in_year, year_of, month_of, day_of_month, hour_of, minute_of, second_of}
use Rattle.lab_forms_texts.specs.Moment.{moment_of, moment_text}
use Rattle.lab_forms_texts.specs.Names.{is_lab_code, is_person_code, is_key, is_name, is_note, is_unit}
use Rattle.lab_seal_hashes.specs.Digits.{bytes_of_digits}
use Rattle.lab_seal.specs.Reading.{number_written}
use Rattle.lab_seal_versions.specs.Versions.{item, heading_text, subject_text, origin_text, opening_text, row_text, front_text, version_text}
use Rattle.lab_seal_versions.specs.Seals.{signer_text, signing_text, seal_text}
use Rattle.lab_copy_rows.specs.Copies.{verdict, verdict_after, flaw_of_line, flaw_at_end, flaw_of_signature, flaw_of_last_version, last_told, is_in_place}
use Rattle.lab_copy_rows.specs.Reading.{line_of, copy_line, record_line, version_line, entry_line, signature_line, end_line}
use Rattle.lab_copy_rows.specs.Csv.{csv_row, csv_text}
use Rattle.lab_copy_rows.specs.Rows.{fields_in, header_row, copy_row, end_row}
use Rattle.lab_copy_rows.specs.declared.flaws.Flaw.{Flaw}
use Rattle.lab_copy_rows.specs.declared.flaws.Flaw.TheVariants.{BadRow, Digest, Seal, Order, NoEnd, OnePerson}
use Rattle.lab_copy_rows.specs.declared.lines.Counts.{Counts}
use Rattle.lab_copy_rows.specs.declared.lines.CopyLine.{CopyLine}
use Rattle.lab_copy_rows.specs.declared.lines.Edition.TheVariants as edition
use Rattle.lab_copy_rows.specs.declared.lines.EndLine.{EndLine}

abbrev asked : List ℕ → List (List ℕ)
asked key =
    codes "copy" ∷ codes "aqua" ∷ codes "1" ∷ codes "5" ∷ key ∷ [] ∷ [] ∷ codes "hal" ∷
    codes "Aqua Lab" ∷ codes "1970-01-01T01:23:20Z" ∷ [] ∷ [] ∷ [] ∷ []

abbrev about : List (List ℕ)
about =
    codes "record" ∷ codes "aqua" ∷ codes "1" ∷ codes "1" ∷ codes "water" ∷ codes "S1" ∷ [] ∷ [] ∷
    [] ∷ [] ∷ [] ∷ [] ∷ [] ∷ []

abbrev made : List ℕ → List ℕ → List (List ℕ)
made state digest =
    codes "version" ∷ codes "aqua" ∷ codes "1" ∷ codes "1" ∷ codes "2" ∷ state ∷ [] ∷
    codes "dan" ∷ [] ∷ codes "1970-01-01T00:16:40Z" ∷ [] ∷
    digest ∷ [] ∷ []

abbrev entered : List ℕ → List ℕ → List (List ℕ)
entered lab value =
    codes "entry" ∷ lab ∷ codes "1" ∷ codes "1" ∷ codes "lead" ∷ value ∷
    codes "mg/L" ∷ codes "dan" ∷ [] ∷ codes "1970-01-01T00:18:20Z" ∷ [] ∷ [] ∷ [] ∷ []

abbrev authored : List (List ℕ)
authored =
    codes "signature" ∷ codes "aqua" ∷ codes "1" ∷ codes "1" ∷ [] ∷ codes "authorship" ∷ [] ∷
    codes "dan" ∷ codes "Dan Day" ∷ codes "1970-01-01T00:21:40Z" ∷ [] ∷
    codes "79610b0b80020b06ccc32eb56d5e2930ad6cea239d32569de11013459ebf2b0c" ∷
    codes "4b8b1847d87f588306a1ea4aef56c05de05085d45e71883f1df448a3ec8b1333" ∷ []

abbrev reviewed : List ℕ → List (List ℕ)
reviewed name =
    codes "signature" ∷ codes "aqua" ∷ codes "1" ∷ codes "1" ∷ [] ∷ codes "review" ∷ [] ∷
    codes "eve" ∷ name ∷ codes "1970-01-01T00:23:20Z" ∷ [] ∷
    codes "79610b0b80020b06ccc32eb56d5e2930ad6cea239d32569de11013459ebf2b0c" ∷
    codes "26e9a430a37b913129c8ded320b17ea91311925b45f56d1ef105fd44b28d16de" ∷ []

abbrev ended : List ℕ → List ℕ → List (List ℕ)
ended entries signatures =
    codes "end" ∷ codes "aqua" ∷ codes "1" ∷ codes "1" ∷ entries ∷ signatures ∷ [] ∷ [] ∷ [] ∷
    [] ∷ [] ∷ [] ∷ [] ∷ []

abbrev signed_digest : List ℕ
signed_digest = codes "79610b0b80020b06ccc32eb56d5e2930ad6cea239d32569de11013459ebf2b0c"

abbrev first_rows : List (List (List ℕ))
first_rows = fields_in header_row ∷ asked (codes "2") ∷ about ∷ []

abbrev sound_version : List (List ℕ)
sound_version = made (codes "released") signed_digest

abbrev sound_entry : List (List ℕ)
sound_entry = entered (codes "aqua") (codes "7.50")

abbrev sound_review : List (List ℕ)
sound_review = reviewed (codes "Eve Eden")

abbrev sound_end : List (List ℕ)
sound_end = ended (codes "1") (codes "2")

-- what is found of these rows after the first three
abbrev found : List (List (List ℕ)) → Result Counts Flaw
found rows = verdict (first_rows ++ rows)

pub as_it_was_written : found (sound_version ∷ sound_entry ∷ authored ∷ sound_review ∷ sound_end ∷ [])
    ≡ Ok (record { records = 1; versions = 1; entries = 1; signatures = 2 })
unfolding verdict verdict_after flaw_of_line flaw_at_end flaw_of_signature flaw_of_last_version last_told is_in_place line_of copy_line record_line version_line entry_line signature_line end_line number_written moment_of days_of_spans moment_text year_of place_in_year month_of day_of_month hour_of minute_of second_of span_of place_of is_lab_code is_person_code is_key is_name is_note is_unit is_utf8 chars encode digits bytes_of_digits decode_pairs encode_with version_text front_text heading_text subject_text origin_text opening_text row_text item seal_text signer_text signing_text sha256 hash_after compress rounds schedule first_words digest_bytes
as_it_was_written = refl

pub name_changed : found (sound_version ∷ sound_entry ∷ authored ∷ reviewed (codes "Eve Edan") ∷ sound_end ∷ [])
    ≡ Err (Seal 7)
unfolding verdict verdict_after flaw_of_line flaw_at_end flaw_of_signature flaw_of_last_version last_told is_in_place line_of copy_line record_line version_line entry_line signature_line end_line number_written moment_of days_of_spans moment_text year_of place_in_year month_of day_of_month hour_of minute_of second_of span_of place_of is_lab_code is_person_code is_key is_name is_note is_unit is_utf8 chars encode digits bytes_of_digits decode_pairs encode_with version_text front_text heading_text subject_text origin_text opening_text row_text item seal_text signer_text signing_text sha256 hash_after compress rounds schedule first_words digest_bytes
name_changed = refl

pub value_changed : found (sound_version ∷ entered (codes "aqua") (codes "7.51") ∷ authored ∷ sound_review ∷ sound_end ∷ [])
    ≡ Err (Digest 4)
unfolding verdict verdict_after flaw_of_line flaw_at_end flaw_of_signature flaw_of_last_version last_told is_in_place line_of copy_line record_line version_line entry_line signature_line end_line number_written moment_of days_of_spans moment_text year_of place_in_year month_of day_of_month hour_of minute_of second_of span_of place_of is_lab_code is_person_code is_key is_name is_note is_unit is_utf8 chars encode digits bytes_of_digits decode_pairs encode_with version_text front_text heading_text subject_text origin_text opening_text row_text item seal_text signer_text signing_text sha256 hash_after compress rounds schedule first_words digest_bytes
value_changed = refl

pub signatures_exchanged : found (sound_version ∷ sound_entry ∷ sound_review ∷ authored ∷ sound_end ∷ [])
    ≡ Err (OnePerson 4)
unfolding verdict verdict_after flaw_of_line flaw_at_end flaw_of_signature flaw_of_last_version last_told is_in_place line_of copy_line record_line version_line entry_line signature_line end_line number_written moment_of days_of_spans moment_text year_of place_in_year month_of day_of_month hour_of minute_of second_of span_of place_of is_lab_code is_person_code is_key is_name is_note is_unit is_utf8 chars encode digits bytes_of_digits decode_pairs encode_with version_text front_text heading_text subject_text origin_text opening_text row_text item seal_text signer_text signing_text sha256 hash_after compress rounds schedule first_words digest_bytes
signatures_exchanged = refl

pub review_left_out : (found (sound_version ∷ sound_entry ∷ authored ∷ sound_end ∷ []) ≡ Err (Order 7))
    × (found (sound_version ∷ sound_entry ∷ authored ∷ ended (codes "1") (codes "1") ∷ []) ≡ Err (OnePerson 4))
unfolding verdict verdict_after flaw_of_line flaw_at_end flaw_of_signature flaw_of_last_version last_told is_in_place line_of copy_line record_line version_line entry_line signature_line end_line number_written moment_of days_of_spans moment_text year_of place_in_year month_of day_of_month hour_of minute_of second_of span_of place_of is_lab_code is_person_code is_key is_name is_note is_unit is_utf8 chars encode digits bytes_of_digits decode_pairs encode_with version_text front_text heading_text subject_text origin_text opening_text row_text item seal_text signer_text signing_text sha256 hash_after compress rounds schedule first_words digest_bytes
review_left_out = (refl, refl)

pub digest_changed : found (made (codes "released") (codes "79610b0b80020b06ccc32eb56d5e2930ad6cea239d32569de11013459ebf2b00") ∷ sound_entry ∷ authored ∷ sound_review ∷ sound_end ∷ [])
    ≡ Err (Digest 6)
unfolding verdict verdict_after flaw_of_line flaw_at_end flaw_of_signature flaw_of_last_version last_told is_in_place line_of copy_line record_line version_line entry_line signature_line end_line number_written moment_of days_of_spans moment_text year_of place_in_year month_of day_of_month hour_of minute_of second_of span_of place_of is_lab_code is_person_code is_key is_name is_note is_unit is_utf8 chars encode digits bytes_of_digits decode_pairs encode_with version_text front_text heading_text subject_text origin_text opening_text row_text item seal_text signer_text signing_text sha256 hash_after compress rounds schedule first_words digest_bytes
digest_changed = refl

pub end_left_out : (found (sound_version ∷ sound_entry ∷ authored ∷ sound_review ∷ []) ≡ Err NoEnd) × (verdict [] ≡ Err NoEnd)
unfolding verdict verdict_after flaw_of_line flaw_at_end flaw_of_signature flaw_of_last_version last_told is_in_place line_of copy_line record_line version_line entry_line signature_line end_line number_written moment_of days_of_spans moment_text year_of place_in_year month_of day_of_month hour_of minute_of second_of span_of place_of is_lab_code is_person_code is_key is_name is_note is_unit is_utf8 chars encode digits bytes_of_digits decode_pairs encode_with version_text front_text heading_text subject_text origin_text opening_text row_text item seal_text signer_text signing_text sha256 hash_after compress rounds schedule first_words digest_bytes
end_left_out = (refl, refl)

pub end_twice : found (sound_version ∷ sound_entry ∷ authored ∷ sound_review ∷ sound_end ∷ sound_end ∷ []) ≡ Err (Order 9)
unfolding verdict verdict_after flaw_of_line flaw_at_end flaw_of_signature flaw_of_last_version last_told is_in_place line_of copy_line record_line version_line entry_line signature_line end_line number_written moment_of days_of_spans moment_text year_of place_in_year month_of day_of_month hour_of minute_of second_of span_of place_of is_lab_code is_person_code is_key is_name is_note is_unit is_utf8 chars encode digits bytes_of_digits decode_pairs encode_with version_text front_text heading_text subject_text origin_text opening_text row_text item seal_text signer_text signing_text sha256 hash_after compress rounds schedule first_words digest_bytes
end_twice = refl

-- another laboratory in one row, a row cut short, a header cut short, an older copy with newer versions
pub rows_refused : (found (sound_version ∷ entered (codes "brick") (codes "7.50") ∷ []) ≡ Err (Order 5))
    × (found (sound_version ∷ (codes "entry" ∷ codes "aqua" ∷ []) ∷ []) ≡ Err (BadRow 5))
    × (verdict ((codes "kind" ∷ codes "lab" ∷ []) ∷ []) ≡ Err (BadRow 1))
    × (verdict (fields_in header_row ∷ asked (codes "1") ∷ about ∷ sound_version ∷ []) ≡ Err (BadRow 4))
unfolding verdict verdict_after flaw_of_line flaw_at_end flaw_of_signature flaw_of_last_version last_told is_in_place line_of copy_line record_line version_line entry_line signature_line end_line number_written moment_of days_of_spans moment_text year_of place_in_year month_of day_of_month hour_of minute_of second_of span_of place_of is_lab_code is_person_code is_key is_name is_note is_unit is_utf8 chars encode digits bytes_of_digits decode_pairs encode_with version_text front_text heading_text subject_text origin_text opening_text row_text item seal_text signer_text signing_text sha256 hash_after compress rounds schedule first_words digest_bytes
rows_refused = (refl, refl, refl, refl)

-- no record of the range
pub nothing_asked : verdict (fields_in header_row ∷ asked (codes "2") ∷ (codes "end" ∷ codes "aqua" ∷ codes "0" ∷ codes "0" ∷ codes "0" ∷ codes "0" ∷ [] ∷ [] ∷ [] ∷ [] ∷ [] ∷ [] ∷ [] ∷ []) ∷ [])
    ≡ Ok (record { records = 0; versions = 0; entries = 0; signatures = 0 })
unfolding verdict verdict_after flaw_of_line flaw_at_end flaw_of_signature flaw_of_last_version last_told is_in_place line_of copy_line record_line version_line entry_line signature_line end_line number_written moment_of days_of_spans moment_text year_of place_in_year month_of day_of_month hour_of minute_of second_of span_of place_of is_lab_code is_person_code is_key is_name is_note is_unit is_utf8 chars encode digits bytes_of_digits decode_pairs encode_with version_text front_text heading_text subject_text origin_text opening_text row_text item seal_text signer_text signing_text sha256 hash_after compress rounds schedule first_words digest_bytes
nothing_asked = refl

-- the copy from 3 to 5 of a laboratory that has no such record, as text
abbrev range_asked : CopyLine
range_asked = record {
  edition = edition.Two;
  lab = codes "aqua";
  from = 3;
  to = 5;
  person = Some (codes "hal");
  name = codes "Aqua Lab";
  moment = 5000;
}

abbrev nothing_told : EndLine
nothing_told = record {
  lab = codes "aqua";
  counts = record { records = 0; versions = 0; entries = 0; signatures = 0 };
}

pub known_text : csv_text (fields_in header_row ∷ fields_in (copy_row range_asked) ∷ fields_in (end_row nothing_told) ∷ [])
    ≡ codes "kind,lab,record,version,key,value,unit,person,name,moment,reason,digest,seal\ncopy,aqua,3,5,2,,,hal,Aqua Lab,1970-01-01T01:23:20Z,,,\nend,aqua,0,0,0,0,,,,,,,\n"
unfolding fields_text is_blank digits moment_text year_of place_in_year month_of day_of_month hour_of minute_of second_of span_of place_of
known_text = refl

-- a field with a comma, quotes and a line feed
pub known_quotes : csv_row (codes "entry" ∷ codes "a,\"b\"\nc" ∷ []) ≡ codes "entry,\"a,\"\"b\"\"\nc\"\n"
unfolding fields_text is_blank escaped
known_quotes = refl
