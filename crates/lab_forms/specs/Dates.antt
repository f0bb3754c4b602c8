-- Dates as texts: YYYY-MM-DD (ISO 8601-1:2019, 5.2.2.1, as RFC 3339 has it in section 5.6), of the
-- proleptic Gregorian calendar, from the year 0001 to the year 9999.
use Rattle.std.specs.Prelude.{ℕ, Bool, ◌&&◌, ◌==◌, nat_le, List, length, slice_index, slice_range}
use Rattle.lab_forms_texts.specs.Calendar.{days_in_month}
use Rattle.lab_forms_texts.specs.Names.{hyphen}
use Rattle.lab_forms.specs.Numbers.{is_digits, decimal_value}

-- the year, the month and the day of the month as the text writes them
abbrev pub year_part : List ℕ → List ℕ
year_part text = slice_range text 0 4

abbrev pub month_part : List ℕ → List ℕ
month_part text = slice_range text 5 7

abbrev pub day_part : List ℕ → List ℕ
day_part text = slice_range text 8 10

-- ten bytes, with hyphens between the year, the month and the day
abbrev pub has_hyphens : List ℕ → Bool
has_hyphens text =
    (length text == 10) && (slice_index text 4 == hyphen) && (slice_index text 7 == hyphen)

-- the calendar has this day in a year from 1 to 9999
unfoldable pub is_calendar_day : ℕ → ℕ → ℕ → Bool
is_calendar_day year month day =
    nat_le 1 year && nat_le year 9999 && nat_le 1 month && nat_le month 12 && nat_le 1 day
    && nat_le day (days_in_month year month)

-- a date's text
unfoldable pub is_date : List ℕ → Bool
is_date text =
    has_hyphens text && is_digits 4 (year_part text) && is_digits 2 (month_part text)
    && is_digits 2 (day_part text)
    && is_calendar_day (decimal_value (year_part text)) (decimal_value (month_part text))
    (decimal_value (day_part text))
