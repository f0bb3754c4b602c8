-- The date that a reply bears: a moment as IMF-fixdate (RFC 9110, section 5.6.7).
use Rattle.std.specs.Prelude.{ℕ, ◌-◌, List, [], ◌∷◌, ◌++◌, codes, slice_index_or}
use Rattle.lab_forms_texts.specs.Calendar.{day_of, year_of, month_of, day_of_month, weekday_of, hour_of, minute_of, second_of, two_digits, four_digits}

-- the name of a day of the week, from 1 for Monday
abbrev pub day_name : ℕ → List ℕ
day_name weekday =
    slice_index_or (codes "Mon" ∷ codes "Tue" ∷ codes "Wed" ∷ codes "Thu" ∷ codes "Fri"
    ∷ codes "Sat" ∷ codes "Sun" ∷ [])
    (weekday - 1) []

-- the name of a month, from 1 for January
abbrev pub month_name : ℕ → List ℕ
month_name month =
    slice_index_or
    (codes "Jan" ∷ codes "Feb" ∷ codes "Mar" ∷ codes "Apr" ∷ codes "May" ∷ codes "Jun"
    ∷ codes "Jul" ∷ codes "Aug" ∷ codes "Sep" ∷ codes "Oct" ∷ codes "Nov" ∷ codes "Dec" ∷ [])
    (month - 1) []

-- the time of day, as `00:01:40`
abbrev pub clock_text : ℕ → ℕ → ℕ → List ℕ
clock_text hour minute second =
    two_digits hour ++ codes ":" ++ two_digits minute ++ codes ":" ++ two_digits second

-- the date and the time of day, as `Thu, 01 Jan 1970 00:01:40 GMT`
abbrev pub fixdate_text : ℕ → ℕ → ℕ → ℕ → List ℕ → List ℕ
fixdate_text weekday day month year clock =
    day_name weekday ++ codes ", " ++ two_digits day ++ codes " " ++ month_name month ++ codes " "
    ++ four_digits year ++ codes " " ++ clock ++ codes " GMT"

-- that of a moment, which is a number of seconds since 1970-01-01T00:00:00Z
unfoldable pub imf_fixdate : ℕ → List ℕ
imf_fixdate moment =
    fixdate_text (weekday_of (day_of moment)) (day_of_month (day_of moment))
    (month_of (day_of moment)) (year_of (day_of moment))
    (clock_text (hour_of moment) (minute_of moment) (second_of moment))
