-- Values from outside, so that a wrong rule in the definitions does not check: texts as Python's csv reads them, what is found
-- of copies, and the fault of a row that wasn't read.
use Rattle.std.proofs.Common.{◌≡◌, refl, ℕ, List, [], ◌∷◌, ◌++◌, Ok, Err, true, false, Option, Some, None}
use Rattle.std.specs.Prelude.{codes}
use Rattle.std.specs.Fmt.{digits}
use Rattle.std.specs.Str.{is_utf8, chars}
use lib.Utf8.{encode}
use Rattle.csv.specs.Machine.{next_record}
use Rattle.csv.specs.Reading.{records_from, strip_bom}
use Rattle.lab_forms_texts.specs.Calendar.{days_of_spans, span_of, place_of, place_in_year, year_of, month_of, day_of_month, hour_of, minute_of, second_of}
use Rattle.lab_forms_texts.specs.Moment.{moment_of, moment_text}
use Rattle.lab_forms_texts.specs.Names.{is_lab_code, is_person_code, is_key, is_name, is_note, is_unit}
use Rattle.lab_forms_texts.specs.declared.faults.OutOfMemory.{OutOfMemory}
use Rattle.lab_seal.specs.Reading.{number_written}
use Rattle.lab_copy_rows.specs.Copies.{last_told, verdict, verdict_after, flaw_of_line, flaw_at_end, flaw_of_signature, flaw_of_last_version, is_in_place}
use Rattle.lab_copy_rows.specs.Reading.{line_of, copy_line, record_line, version_line, entry_line, signature_line, end_line}
use Rattle.lab_copy_rows.specs.declared.flaws.Flaw.TheVariants.{BadRow, NoEnd, Digest}
use Rattle.lab_forms_texts.specs.declared.refusals.Fault.TheVariants as row_fault
use Rattle.lab_copy.specs.Private.Checks.{fault_at}
use Rattle.lab_copy.specs.Checks.{csv_rows_of}
use Rattle.lab_copy.specs.declared.faults.CopyFault.TheVariants.{Flawed, Memory}
use Rattle.lab_seal_versions.specs.declared.versions.Format.TheVariants as format
use Rattle.lab_seal_versions.specs.declared.seals.Meaning.TheVariants.{Authorship}
use Rattle.lab_seal_versions.specs.declared.states.State.TheVariants.{Signed}
use Rattle.lab_copy_rows.specs.declared.lines.Edition.TheVariants as edition
use Rattle.lab_copy_rows.specs.declared.lines.Line.{Line}
use Rattle.lab_copy_rows.specs.declared.lines.Line.TheVariants as line
use Rattle.lab_copy_rows.specs.declared.lines.SignatureLine.{SignatureLine}
use Rattle.lab_copy.specs.Private.Kept.{flaw_of_signature_kept, is_in_place_kept, kept_with}
use Rattle.lab_copy.specs.Kept.{kept_none, kept_of, verdict_kept}
use Rattle.lab_copy.specs.declared.kept.Kept.{Kept}

-- a byte order mark in front, lines that end in CR LF, LF, CR or with the text, an empty line, and quotes where none are needed
pub known_rows : csv_rows_of (0xEF ∷ 0xBB ∷ 0xBF ∷ codes "kind,lab\r\n\"entry\",\"a, \"\"b\"\"\nc\"\n\n,\rend,aqua")
    ≡ (codes "kind" ∷ codes "lab" ∷ []) ∷ (codes "entry" ∷ codes "a, \"b\"\nc" ∷ []) ∷ ([] ∷ [] ∷ [])
    ∷ (codes "end" ∷ codes "aqua" ∷ []) ∷ []
unfolding strip_bom records_from next_record
known_rows = refl

abbrev header : List ℕ
header = codes "kind,lab,record,version,key,value,unit,person,name,moment,reason,digest,seal\n"

-- a copy of no records is sound, cut before its last row it isn't, and of a row too short the row is told
pub known_found : (verdict (csv_rows_of (header ++ codes "copy,aqua,3,5,2,,,hal,Aqua Lab,1970-01-01T01:23:20Z,,,\nend,aqua,0,0,0,0,,,,,,,\n"))
    ≡ Ok (record { records = 0; versions = 0; entries = 0; signatures = 0 }))
    × (verdict (csv_rows_of (header ++ codes "copy,aqua,3,5,2,,,hal,Aqua Lab,1970-01-01T01:23:20Z,,,\n")) ≡ Err NoEnd)
    × (verdict (csv_rows_of (header ++ codes "copy,aqua,3,5,2,,,hal,Aqua Lab,1970-01-01T01:23:20Z,,,\nend,aq")) ≡ Err (BadRow 3))
    × (verdict (csv_rows_of []) ≡ Err NoEnd)
unfolding strip_bom records_from next_record verdict verdict_after flaw_of_line flaw_at_end flaw_of_signature flaw_of_last_version last_told is_in_place line_of copy_line record_line version_line entry_line signature_line end_line number_written moment_of days_of_spans moment_text year_of place_in_year month_of day_of_month hour_of minute_of second_of span_of place_of is_lab_code is_person_code is_key is_name is_note is_unit is_utf8 chars encode digits
known_found = (refl, refl, refl, refl)

-- a row that is none is told with its number, and of one that memory didn't suffice for nothing is told
pub known_faults : (fault : OutOfMemory)
    → (fault_at 5 row_fault.Memory ≡ Memory fault) × (fault_at 5 (row_fault.Refused (record {})) ≡ Flawed (BadRow 5))
known_faults fault = (refl, refl)

abbrev copy : ℕ → ℕ → Line
copy from to = line.Copy (record {
  edition = edition.Two;
  lab = codes "aqua";
  from = from;
  to = to;
  person = None;
  name = codes "Aqua Lab";
  moment = 5000;
})

abbrev about : List ℕ → ℕ → Line
about lab number = line.Record (record {
  lab = lab;
  record_number = number;
  form_version = 1;
  form = codes "water";
  sample = codes "S1";
})

abbrev version : ℕ → Option (List ℕ) → Line
version number reason = line.Version (record {
  lab = codes "aqua";
  record_number = 4;
  number = number;
  format = format.Two false;
  state = Signed;
  opener = codes "dan";
  opened = 1000;
  reason = reason;
  digest = 7 ∷ [];
})

abbrev entry : ℕ → Line
entry number = line.Entry (record {
  lab = codes "aqua";
  record_number = 4;
  version = number;
  row = record {
    key = codes "lead";
    value = codes "7.50";
    unit = codes "mg/L";
    person = codes "dan";
    moment = 1100;
    reason = None;
  };
})

abbrev signature : List ℕ → SignatureLine
signature digest = record {
  record_number = 4;
  version = 1;
  parts = record {
    version = digest;
    lab = codes "aqua";
    person = codes "dan";
    name = codes "Dan Day";
    meaning = Authorship;
    moment = 1200;
  };
  seal = [];
}

-- what is kept of each line behind the others is what is kept of all, with the row at which the version stands
abbrev behind_copy : Kept
behind_copy = kept_with 2 kept_none (copy 1 5)

abbrev behind_version : Kept
behind_version = kept_with 4 (kept_with 3 behind_copy (about (codes "aqua") 4)) (version 1 None)

pub known_kept : kept_with 6 (kept_with 5 behind_version (entry 1)) (line.Signature (signature (7 ∷ [])))
    ≡ kept_of (copy 1 5 ∷ about (codes "aqua") 4 ∷ version 1 None ∷ entry 1 ∷ line.Signature (signature (7 ∷ [])) ∷ [])
unfolding last_told
known_kept = refl

-- the copy row comes first, and its range isn't backwards; a record is of the laboratory and of the range, its first version
-- has number 1, no version comes behind one that isn't settled, and an entry has the number of its version
pub known_places : (is_in_place_kept kept_none (copy 5 5) ≡ true) × (is_in_place_kept kept_none (copy 5 4) ≡ false)
    × (is_in_place_kept kept_none (about (codes "aqua") 4) ≡ false) × (is_in_place_kept behind_copy (about (codes "aqua") 5) ≡ true)
    × (is_in_place_kept behind_copy (about (codes "aqua") 6) ≡ false) × (is_in_place_kept behind_copy (about (codes "brick") 4) ≡ false)
    × (is_in_place_kept behind_copy (version 1 None) ≡ false)
    × (is_in_place_kept (kept_with 3 behind_copy (about (codes "aqua") 4)) (version 2 (Some (codes "misread"))) ≡ false)
    × (is_in_place_kept behind_version (version 2 (Some (codes "misread"))) ≡ false)
    × (is_in_place_kept behind_version (entry 1) ≡ true) × (is_in_place_kept behind_version (entry 2) ≡ false)
known_places = (refl, refl, refl, refl, refl, refl, refl, refl, refl, refl, refl)

-- another digest than the version's is told at the signature, before its seal is looked at
pub known_signature : (flaw_of_signature_kept 6 behind_version.version (signature (8 ∷ [])) ≡ Some (Digest 6))
    × (flaw_of_signature_kept 6 None (signature (7 ∷ [])) ≡ Some (Digest 6)) × (verdict_kept kept_none ≡ Err NoEnd)
known_signature = (refl, refl, refl)
