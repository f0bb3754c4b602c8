-- Values from outside, so that a wrong rule in the definitions does not check: the parts of the worked texts of docs/VERSIONS.md, each
-- read off the front of a text.
use Rattle.std.proofs.Common.{◌≡◌, refl, [], codes, Some, None, true, false}
use Rattle.std.specs.Fmt.{digits}
use Rattle.std.specs.Str.{is_utf8, chars}
use lib.Utf8.{encode}
use Rattle.lab_forms_texts.specs.Calendar.{days_of_spans, span_of, place_of, place_in_year, year_of, month_of, day_of_month, hour_of, minute_of, second_of}
use Rattle.lab_forms_texts.specs.Moment.{moment_of, moment_text}
use Rattle.lab_forms_texts.specs.Names.{is_lab_code, is_person_code, is_key, is_name, is_note, is_unit}
use Rattle.lab_seal_hashes.specs.Digits.{bytes_of_digits}
use Rattle.lab_seal.specs.Reading.{number_written, line_of, first_item, first_as}
use Rattle.lab_seal_versions.specs.declared.versions.Format.TheVariants.{One, Two}
use Rattle.lab_seal_versions.specs.declared.rows.EntryRow.{EntryRow}
use Rattle.lab_seal.specs.Parts.{first_heading, first_format, first_subject, first_no_amendment, first_amendment, first_origin, first_opening, first_row}

-- which version it is, in either format; a zero is no number of a record
pub known_headings :
    (first_heading (codes "11:labrecord 1\n4:aqua\n1:1\n1:2\n5:water\n") ≡ Some ((false, codes "aqua", 1, 2), codes "5:water\n"))
    × (first_heading (codes "11:labrecord 2\n4:aqua\n2:17\n1:1\n") ≡ Some ((true, codes "aqua", 17, 1), []))
    × (first_heading (codes "11:labrecord 3\n4:aqua\n1:1\n1:1\n") ≡ None)
    × (first_heading (codes "11:labrecord 1\n4:Aqua\n1:1\n1:1\n") ≡ None)
    × (first_heading (codes "11:labrecord 1\n4:aqua\n1:0\n1:1\n") ≡ None)
unfolding first_heading first_as first_item line_of number_written digits is_lab_code is_utf8 chars encode
known_headings = (refl, refl, refl, refl, refl)

-- what the record is about; the newer format alone says whether an approval is wanted
pub known_subjects :
    (first_subject false (codes "5:water\n1:1\n2:S1\n1:-\n") ≡ Some ((codes "water", 1, One, codes "S1"), codes "1:-\n"))
    × (first_subject true (codes "5:water\n1:1\n2:no\n2:S1\n") ≡ Some ((codes "water", 1, Two false, codes "S1"), []))
    × (first_subject true (codes "5:water\n1:1\n3:yes\n2:S1\n") ≡ Some ((codes "water", 1, Two true, codes "S1"), []))
    × (first_subject true (codes "5:water\n1:1\n2:S1\n") ≡ None)
unfolding first_subject first_format first_as first_item line_of number_written digits is_key is_name is_utf8 chars encode
known_subjects = (refl, refl, refl, refl)

-- the first version amends none, and every other one the version of a digest, of 64 digits
pub known_origins :
    (first_origin 1 (codes "1:-\n0:\n3:dan\n") ≡ Some (None, codes "3:dan\n"))
    × (first_origin 1 (codes "64:0000000000000000000000000000000000000000000000000000000000000000\n7:misread\n") ≡ None)
    × (first_origin 2 (codes "1:-\n0:\n") ≡ None)
unfolding first_origin first_no_amendment first_amendment first_as first_item line_of number_written digits bytes_of_digits
known_origins = (refl, refl, refl)

-- who opened it and when, and how many rows it has
pub known_openings : first_opening (codes "3:dan\n20:1970-01-01T00:16:40Z\n1:1\n4:lead\n") ≡ Some ((codes "dan", 1000, 1), codes "4:lead\n")
unfolding first_opening first_as first_item line_of number_written digits is_person_code is_utf8 chars encode moment_of moment_text year_of place_in_year month_of day_of_month hour_of minute_of second_of days_of_spans span_of place_of
known_openings = refl

abbrev entered : EntryRow
entered = record {
  key = codes "lead";
  value = codes "7.50";
  unit = codes "mg/L";
  person = codes "dan";
  moment = 1100;
  reason = None;
}

-- a row, without a reason and with one
pub known_rows :
    (first_row (codes "4:lead\n4:7.50\n4:mg/L\n3:dan\n20:1970-01-01T00:18:20Z\n0:\n") ≡ Some (entered, []))
    × (first_row (codes "4:lead\n4:7.50\n4:mg/L\n3:dan\n20:1970-01-01T00:18:20Z\n7:misread\n4:lead\n")
    ≡ Some (record entered { reason = Some (codes "misread") }, codes "4:lead\n"))
    × (first_row (codes "4:lead\n4:7.50\n4:mg/L\n3:dan\n19:1970-01-01 00:18:20\n0:\n") ≡ None)
unfolding first_row first_as first_item line_of number_written digits is_key is_note is_unit is_name is_person_code is_utf8 chars encode moment_of moment_text year_of place_in_year month_of day_of_month hour_of minute_of second_of days_of_spans span_of place_of
known_rows = (refl, refl, refl)
