-- Values from outside, so that a wrong rule in the definitions does not check.
use Rattle.std.proofs.Common.{◌≡◌, List, [], ◌∷◌, refl, true, false, Some, None, pos, negsuc}
use Rattle.std.specs.Prelude.{codes}
use Rattle.lab_forms.specs.declared.forms.Field.{Field}
use Rattle.lab_forms.specs.declared.kinds.Kind.TheVariants.{Number, Text}
use Rattle.lab_forms.specs.declared.faults.FormRefusal.TheVariants.{NoFields, KeyTwice, BadField, NoSuchField, BadValue, WrongUnit, OutOfRange}
use Rattle.lab_forms.specs.Numbers.{is_number, amount, without_comparison, is_digits, decimal_value, is_unsigned_number, millionths_of, without_sign}
use Rattle.lab_forms.specs.Dates.{is_date, is_calendar_day}
use Rattle.lab_forms.specs.Forms.{form_refusal, value_refusal}
use Rattle.lab_forms_texts.specs.Names.{is_note}
use Rattle.std.specs.Str.{is_utf8, chars}
use lib.Utf8.{encode}

pub known_numbers : (is_number 2 (codes "7.5") ≡ true) × (is_number 2 (codes "7.50") ≡ true) × (is_number 2 (codes "+7") ≡ true) × (is_number 2 (codes "-0") ≡ true)
    × (is_number 2 (codes "999999999999999") ≡ true) × (is_number 2 (codes "7.505") ≡ false) × (is_number 2 (codes "7.") ≡ false) × (is_number 2 (codes ".5") ≡ false)
    × (is_number 2 (codes "") ≡ false) × (is_number 2 (codes "1234567890123456") ≡ false) × (is_number 0 (codes "7.5") ≡ false) × (is_number 2 (codes "--7") ≡ false)
    × (is_number 2 (codes "7.5.") ≡ false) × (is_number 2 (codes "7,5") ≡ false)
unfolding is_number is_unsigned_number is_digits without_sign
known_numbers = (refl, refl, refl, refl, refl, refl, refl, refl, refl, refl, refl, refl, refl, refl)

pub known_amounts : (amount (codes "7.5") ≡ pos 7500000) × (amount (codes "7.50") ≡ pos 7500000) × (amount (codes "-0") ≡ pos 0) × (amount (codes "+7") ≡ pos 7000000)
    × (amount (codes "-0.000001") ≡ negsuc 0) × (amount (codes "-1.5") ≡ negsuc 1499999) × (amount (codes "999999999999999.999999") ≡ pos 999999999999999999999)
unfolding amount millionths_of decimal_value without_sign
known_amounts = (refl, refl, refl, refl, refl, refl, refl)

pub known_comparisons : (without_comparison (codes "<0.05") ≡ codes "0.05") × (without_comparison (codes ">7") ≡ codes "7") × (without_comparison (codes "7") ≡ codes "7") × (without_comparison (codes "<") ≡ [])
unfolding without_comparison
known_comparisons = (refl, refl, refl, refl)

pub known_dates : (is_date (codes "1600-02-29") ≡ true) × (is_date (codes "1900-02-29") ≡ false) × (is_date (codes "2000-02-29") ≡ true) × (is_date (codes "2100-02-29") ≡ false)
    × (is_date (codes "9999-12-31") ≡ true) × (is_date (codes "0001-01-01") ≡ true) × (is_date (codes "0000-12-31") ≡ false) × (is_date (codes "2001-04-31") ≡ false)
    × (is_date (codes "2001-13-01") ≡ false) × (is_date (codes "2001-1-01") ≡ false) × (is_date (codes "2001/01/01") ≡ false) × (is_date (codes "2001-01-01 ") ≡ false)
unfolding is_date is_calendar_day is_digits decimal_value
known_dates = (refl, refl, refl, refl, refl, refl, refl, refl, refl, refl, refl, refl)

-- a form with a number in milligrams a litre that is not below zero, and a note
abbrev lead : Field
lead = record {
  key = codes "lead";
  label = codes "Lead";
  required = true;
  kind = Number (codes "mg/L") 2 (Some (codes "0")) None;
}

abbrev fields : List Field
fields = lead ∷ (record { key = codes "note"; label = codes "Note"; required = false; kind = Text 200 }) ∷ []

abbrev too_fine : Field
too_fine = record {
  key = codes "lead";
  label = codes "Lead";
  required = true;
  kind = Number (codes "mg/L") 7 None None;
}

pub known_forms : (form_refusal fields ≡ None) × (form_refusal [] ≡ Some NoFields) × (form_refusal (lead ∷ lead ∷ []) ≡ Some KeyTwice) × (form_refusal (too_fine ∷ []) ≡ Some BadField)
unfolding form_refusal is_number amount is_unsigned_number is_digits without_sign millionths_of decimal_value
known_forms = (refl, refl, refl, refl)

pub known_refusals : (value_refusal fields (codes "iron") (codes "7.5") (codes "mg/L") ≡ Some NoSuchField) × (value_refusal fields (codes "lead") (codes "7.505") (codes "mg/L") ≡ Some BadValue)
    × (value_refusal fields (codes "lead") (codes "7.5") (codes "mg/l") ≡ Some WrongUnit) × (value_refusal fields (codes "lead") (codes "-1") (codes "mg/L") ≡ Some OutOfRange)
    × (value_refusal fields (codes "lead") (codes "<0.05") (codes "mg/L") ≡ None) × (value_refusal fields (codes "lead") (codes "-0") (codes "mg/L") ≡ None)
    × (value_refusal fields (codes "note") (codes "clear") [] ≡ None)
unfolding value_refusal is_note is_utf8 chars encode is_number amount is_unsigned_number is_digits without_sign without_comparison millionths_of decimal_value
known_refusals = (refl, refl, refl, refl, refl, refl, refl)
