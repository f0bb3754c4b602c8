-- Values from outside, so that a wrong rule in the definitions does not check: rows of docs/COPIES.md as they are
-- read, and which kind of row may come after which.
use Rattle.std.proofs.Common.{◌≡◌, refl, ap, true≢false, ℕ, true, false, List, [], ◌∷◌, Some, None, Ok, Err}
use Rattle.std.specs.Prelude.{◌==◌, codes, unwrap_or}
use Rattle.std.specs.Fmt.{digits}
use Rattle.std.specs.Str.{is_utf8, chars}
use lib.Utf8.{encode}
use Rattle.csv.specs.Records.{field_at}
use Rattle.lab_forms_texts.specs.Calendar.{days_of_spans, span_of, place_of, place_in_year, year_of, month_of, day_of_month, hour_of, minute_of, second_of}
use Rattle.lab_forms_texts.specs.Moment.{moment_of, moment_text}
use Rattle.lab_forms_texts.specs.Names.{is_lab_code, is_person_code, is_key, is_name, is_note, is_unit}
use Rattle.lab_seal.specs.Reading.{number_written}
use Rattle.lab_copy_rows.specs.Reading.{line_of, copy_line, record_line, version_line, entry_line, signature_line, end_line}
use Rattle.lab_copy_rows.specs.declared.lines.Edition.TheVariants.{Two}
use Rattle.lab_copy_rows.specs.declared.lines.Line.TheVariants as line
use Rattle.lab_copy_lines.specs.Lines.{IsRowRead, line_at}
use Rattle.lab_copy_lines.specs.Private.Lines.{field_in}
use Rattle.lab_copy_lines.specs.Kinds.{is_end_kind, may_come_after}
use Rattle.lab_forms_texts.specs.declared.refusals.Fault.TheVariants.{Refused}
use Rattle.lab_copy_lines.specs.declared.kinds.LineKind.TheVariants.{Copy, Record, Version, Entry, Signature, End}

abbrev entry : List ℕ → List ℕ → List (List ℕ)
entry number name =
    codes "entry" ∷ codes "aqua" ∷ number ∷ codes "2" ∷ codes "lead" ∷ codes "7.50" ∷ codes "mg/L" ∷ codes "dan" ∷ name
    ∷ codes "1970-01-01T00:18:20Z" ∷ codes "misread" ∷ [] ∷ [] ∷ []

-- an entry: its fields tell numbers, a moment and a reason
pub known_entry : line_at Two (entry (codes "12") [])
    ≡ Some (line.Entry (record {
      lab = codes "aqua";
      record_number = 12;
      version = 2;
      row = record {
        key = codes "lead";
        value = codes "7.50";
        unit = codes "mg/L";
        person = codes "dan";
        moment = 1100;
        reason = Some (codes "misread");
      };
    }))
unfolding line_of copy_line record_line version_line entry_line signature_line end_line number_written moment_of days_of_spans moment_text year_of place_in_year month_of day_of_month hour_of minute_of second_of span_of place_of is_lab_code is_person_code is_key is_name is_note is_unit is_utf8 chars encode digits
known_entry = refl

-- no row: a leading zero, number 0, one past the last, a field that has to be empty, a field too few or too many, none
pub known_unread : (line_at Two (entry (codes "012") []) ≡ None) × (line_at Two (entry (codes "0") []) ≡ None)
    × (line_at Two (entry (codes "1000000001") []) ≡ None) × (line_at Two (entry (codes "12") (codes "Dan Day")) ≡ None)
    × (line_at Two (codes "entry" ∷ codes "aqua" ∷ []) ≡ None) × (line_at Two ([] ∷ entry (codes "12") []) ≡ None)
    × (line_at Two [] ≡ None)
unfolding line_of copy_line record_line version_line entry_line signature_line end_line number_written moment_of days_of_spans moment_text year_of place_in_year month_of day_of_month hour_of minute_of second_of span_of place_of is_lab_code is_person_code is_key is_name is_note is_unit is_utf8 chars encode digits
known_unread = (refl, refl, refl, refl, refl, refl, refl)

-- a field past the last is empty
pub known_fields : (field_in (codes "a" ∷ codes "b" ∷ []) 1 ≡ codes "b") × (field_in (codes "a" ∷ codes "b" ∷ []) 2 ≡ [])
unfolding field_at
known_fields = (refl, refl)

-- a copy may end at once, and a record not without a version; signatures come behind the entries; nothing behind the end,
-- and no second copy row
pub known_order : (may_come_after Copy End ≡ true) × (may_come_after Copy Version ≡ false)
    × (may_come_after Record Version ≡ true) × (may_come_after Record End ≡ false)
    × (may_come_after Version Version ≡ true) × (may_come_after Entry Signature ≡ true)
    × (may_come_after Signature Entry ≡ false) × (may_come_after Signature Version ≡ true)
    × (may_come_after End End ≡ false) × (may_come_after Version Copy ≡ false)
    × (is_end_kind End ≡ true) × (is_end_kind Signature ≡ false)
known_order = (refl, refl, refl, refl, refl, refl, refl, refl, refl, refl, refl, refl)

some_is : {A : Type 0} (one : A) → Some one ≡ None → ⊥
some_is one wrong = absurd cc

-- a row that stands for something is never told as a bad one
pub known_told : IsRowRead {A = ℕ} None (Err (Refused (record {}))) × (IsRowRead {A = ℕ} (Some 7) (Err (Refused (record {}))) → ⊥) × (IsRowRead {A = ℕ} (Some 7) (Ok 8) → ⊥)
known_told = (refl, λ same. some_is 7 same, λ same. true≢false (ap (λ found. unwrap_or found 0 == 7) same))
