-- Moments: whole seconds from 1970-01-01T00:00:00Z to the end of the year 9999, and their one text
-- each, in the form of RFC 3339, section 5.6, with T and Z in capitals, in UTC and without a
-- fraction.
use Rattle.std.specs.Prelude.{◌≢◌, ℕ, ◌+◌, ◌-◌, ◌*◌, Bool, ◌&&◌, nat_le, if◌then◌else◌, List, ◌++◌, slice_index, codes, Option, Some, None, IsTrue}
use Rattle.std.specs.Str.{bytes_eq}
use Rattle.lab_forms_texts.specs.declared.moment.TheConstants.{LAST_SECOND}
use Rattle.lab_forms_texts.specs.Calendar.{day_of, year_of, month_of, day_of_month, hour_of, minute_of, second_of, second_of_date, digit_zero, two_digits, four_digits}

-- 9999-12-31T23:59:59Z
abbrev pub last_moment : ℕ
last_moment = LAST_SECOND

-- its day
abbrev pub last_day : ℕ
last_day = 2932896

-- a number of seconds that lies before the year 10000
abbrev pub is_moment : ℕ → Bool
is_moment second = nat_le second last_moment

-- the text YYYY-MM-DDTHH:MM:SSZ of six numbers
abbrev pub date_time_text : ℕ → ℕ → ℕ → ℕ → ℕ → ℕ → List ℕ
date_time_text year month day hour minute second =
    four_digits year ++ codes "-" ++ two_digits month ++ codes "-" ++ two_digits day ++ codes "T"
    ++ two_digits hour ++ codes ":" ++ two_digits minute ++ codes ":"
    ++ two_digits second ++ codes "Z"

-- the text of a moment
unfoldable pub moment_text : ℕ → List ℕ
moment_text second =
    date_time_text
    (year_of (day_of second)) (month_of (day_of second)) (day_of_month (day_of second))
    (hour_of second) (minute_of second) (second_of second)

-- no moment has this text
abbrev pub IsNoMoment : List ℕ → Type 0
IsNoMoment text = (second : ℕ) → IsTrue (is_moment second) → text ≢ moment_text second

-- the number that two digits at a place show
abbrev pub two_at : List ℕ → ℕ → ℕ
two_at text place =
    (slice_index text place - digit_zero) * 10 + (slice_index text (place + 1) - digit_zero)

-- the second of the date and the time of day that the digits of a text show
abbrev pub second_told : List ℕ → ℕ
second_told text =
    second_of_date (two_at text 0 * 100 + two_at text 2) (two_at text 5) (two_at text 8)
    (two_at text 11) (two_at text 14) (two_at text 17)

-- this moment, if this is its text
abbrev pub moment_if_spelled : List ℕ → ℕ → Option ℕ
moment_if_spelled text n = if is_moment n && bytes_eq (moment_text n) text then Some n else None

-- the moment that has this text
unfoldable pub moment_of : List ℕ → Option ℕ
moment_of text = moment_if_spelled text (second_told text)
