-- Values from other programs' calendars, so that a wrong rule in the definitions does not check.
use Rattle.std.proofs.Common.{◌≡◌, refl, arith, true, false, Some, None}
use Rattle.std.specs.Prelude.{ℕ, List, codes, [], ◌∷◌, encode_utf8_all}
use Rattle.std.specs.Str.{is_utf8, all_scalars}
use Rattle.std.proofs.lemmas.Str.{is_utf8-from_IsUtf8}
use Rattle.lab_forms_texts.specs.Calendar.{day_of, is_leap_year, days_of_spans, second_of_date, year_of, place_in_year, month_of, day_of_month, weekday_of, hour_of, minute_of, second_of, span_of, place_of}
use Rattle.lab_forms_texts.specs.Moment.{last_moment, last_day, moment_text, moment_of}
use Rattle.lab_forms_texts.proofs.CalendarLemmas.{IsDateOf, AreSame, own_date, same_date}
use Rattle.lab_forms_texts.specs.Faults.{memory_entry, name_fault_entry, moment_fault_entry}
use Rattle.lab_forms_texts.specs.declared.refusals.Fault.TheVariants.{Refused}
use Rattle.lab_forms_texts.specs.declared.faults.MomentFault.TheVariants.{BadMoment}
use Rattle.lab_forms_texts.specs.Names.{is_lab_code, is_person_code, is_key, is_name, is_note, is_unit}

pub known_moments : (moment_text 0 ≡ codes "1970-01-01T00:00:00Z")
    × (moment_text 951782400 ≡ codes "2000-02-29T00:00:00Z")
    × (moment_text 4102444800 ≡ codes "2100-01-01T00:00:00Z")
unfolding moment_text year_of place_in_year month_of day_of_month hour_of minute_of second_of span_of place_of
known_moments = (refl, refl, refl)

-- of years that four or a hundred divides
pub known_years : (is_leap_year 1970 ≡ false) × (is_leap_year 1972 ≡ true) × (is_leap_year 2000 ≡ true) × (is_leap_year 2100 ≡ false)
known_years = (refl, refl, refl, refl)

-- the seconds that Python's `datetime` gives
pub known_seconds : (second_of_date 1970 1 1 0 0 0 ≡ 0) × (second_of_date 1994 11 6 8 49 37 ≡ 784111777)
    × (second_of_date 2004 2 28 23 59 59 ≡ 1078012799) × (second_of_date 9999 12 31 23 59 59 ≡ last_moment)
unfolding days_of_spans
known_seconds = (refl, refl, refl, refl)

pub read_moments : (moment_of (codes "1970-01-01T00:00:00Z") ≡ Some 0) × (moment_of (codes "1994-11-06T08:49:37Z") ≡ Some 784111777)
    × (moment_of (codes "2100-02-29T00:00:00Z") ≡ None) × (moment_of (codes "2001-04-01 00:00:00Z") ≡ None)
unfolding moment_of moment_text year_of place_in_year month_of day_of_month hour_of minute_of second_of days_of_spans span_of place_of
read_moments = (refl, refl, refl, refl)

-- the last day is that of the last moment, and has the last date of the year 9999
pub last_date : IsDateOf 9999 12 31 last_day × (day_of last_moment ≡ last_day)
unfolding days_of_spans
last_date = (record { year_in = omega arith; month_in = (omega arith, omega arith); day_in = (omega arith, omega arith); counted = refl }, refl)

pub known_last_date : AreSame (year_of last_day) (month_of last_day) (day_of_month last_day) 9999 12 31
known_last_date = same_date (year_of last_day) (month_of last_day) (day_of_month last_day) 9999 12 31 last_day (own_date last_day) last_date.0

-- 1970-01-01 was a Thursday, 1994-11-06 a Sunday and 2000-02-29 a Tuesday
pub known_weekdays : (weekday_of 0 ≡ 4) × (weekday_of 9075 ≡ 7) × (weekday_of 11016 ≡ 2)
unfolding weekday_of
known_weekdays = (refl, refl, refl)

pub known_codes : (is_lab_code (codes "a") ≡ true) × (is_lab_code (codes "lab-7-north") ≡ true) × (is_lab_code (codes "abcdefghijkl") ≡ true)
    × (is_lab_code (codes "") ≡ false) × (is_lab_code (codes "abcdefghijklm") ≡ false) × (is_lab_code (codes "7lab") ≡ false) × (is_lab_code (codes "-lab") ≡ false) × (is_lab_code (codes "Lab") ≡ false) × (is_lab_code (codes "la_b") ≡ false)
unfolding is_lab_code
known_codes = (refl, refl, refl, refl, refl, refl, refl, refl, refl)

pub known_person_codes : (is_person_code (codes "jo") ≡ true) × (is_person_code (codes "ann-2") ≡ true) × (is_person_code (codes "abcdefghijklmnop") ≡ true)
    × (is_person_code (codes "a") ≡ false) × (is_person_code (codes "abcdefghijklmnopq") ≡ false) × (is_person_code (codes "2jo") ≡ false) × (is_person_code (codes "jo_2") ≡ false)
unfolding is_person_code
known_person_codes = (refl, refl, refl, refl, refl, refl, refl)

pub known_keys : (is_key (codes "k") ≡ true) × (is_key (codes "lead_2") ≡ true) × (is_key (codes "abcdefghijklmnopqrstuvwx") ≡ true)
    × (is_key (codes "") ≡ false) × (is_key (codes "abcdefghijklmnopqrstuvwxy") ≡ false) × (is_key (codes "_lead") ≡ false) × (is_key (codes "lead-2") ≡ false)
unfolding is_key
known_keys = (refl, refl, refl, refl, refl, refl, refl)

-- characters below 128 are their own bytes
plain : (text : List ℕ) → all_scalars text ≡ true → encode_utf8_all text ≡ text → is_utf8 text ≡ true
plain text scalars same = is_utf8-from_IsUtf8 text (text, (scalars, same))

pub known_names : (is_name (codes "Aqua North") ≡ true) × (is_name (codes "") ≡ false) × (is_name (codes " Aqua") ≡ false) × (is_name (codes "Aqua ") ≡ false) × (is_name (127 ∷ []) ≡ false)
unfolding is_name lib.Utf8.encode
known_names = (rw (plain (codes "Aqua North") refl refl), rw (plain (codes "") refl refl), rw (plain (codes " Aqua") refl refl), rw (plain (codes "Aqua ") refl refl), rw (plain (127 ∷ []) refl refl))

pub known_notes : (is_note (codes " two words ") ≡ true) × (is_note (65 ∷ 10 ∷ 66 ∷ []) ≡ true) × (is_note (codes "") ≡ false) × (is_note (65 ∷ 13 ∷ 10 ∷ []) ≡ false)
unfolding is_note lib.Utf8.encode
known_notes = (rw (plain (codes " two words ") refl refl), rw (plain (65 ∷ 10 ∷ 66 ∷ []) refl refl), rw (plain (codes "") refl refl), rw (plain (65 ∷ 13 ∷ 10 ∷ []) refl refl))

pub known_units : (is_unit (codes "") ≡ true) × (is_unit (codes "mg/L") ≡ true) × (is_unit (codes "abcdefghijklmnopqrstu") ≡ false) × (is_unit (codes "mg/L ") ≡ false)
unfolding is_unit is_name lib.Utf8.encode
known_units = (refl, rw (plain (codes "mg/L") refl refl), refl, rw (plain (codes "mg/L ") refl refl))

-- numbers and words of docs/REFUSALS.md
pub known_faults : (memory_entry.number ≡ 90) × (memory_entry.word ≡ codes "memory")
    × ((name_fault_entry (Refused (record {}))).number ≡ 1) × ((name_fault_entry (Refused (record {}))).word ≡ codes "bad_name")
    × ((moment_fault_entry BadMoment).number ≡ 2) × ((moment_fault_entry BadMoment).word ≡ codes "bad_moment")
known_faults = (refl, refl, refl, refl, refl, refl)
