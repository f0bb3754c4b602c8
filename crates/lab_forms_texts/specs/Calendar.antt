-- The proleptic Gregorian calendar (ISO 8601-1:2019, 4.2.1; the rule of leap years as in RFC 3339,
-- appendix C), for days counted from 1970-01-01, which is day 0, and the time of day in UTC, for
-- seconds counted from 1970-01-01T00:00:00Z.
use Rattle.std.specs.Prelude.{ℕ, zero, suc, ◌+◌, ◌-◌, ◌*◌, ◌/◌, ◌%◌, Bool, not, ◌&&◌, ◌||◌, ◌==◌, nat_lt, if◌then◌else◌, List, [], ◌∷◌, ◌++◌}

-- every fourth year, but of the centuries only every fourth
abbrev pub is_leap_year : ℕ → Bool
is_leap_year y = (y % 4 == 0) && (not (y % 100 == 0) || (y % 400 == 0))

-- the days of a year
abbrev pub days_in_year : ℕ → ℕ
days_in_year y = if is_leap_year y then 366 else 365

-- the days of a month: thirty have April, June, September and November
abbrev pub days_in_month : ℕ → ℕ → ℕ
days_in_month y m =
    if m == 2 then (if is_leap_year y then 29 else 28)
    else (if (m == 4) || (m == 6) || (m == 9) || (m == 11) then 30 else 31)

-- the days of so many spans from span k on, which follow one another as years or months do
unfoldable pub days_of_spans : (ℕ → ℕ) → ℕ → ℕ → ℕ
days_of_spans days k zero = 0
days_of_spans days k (suc n) = days_of_spans days k n + days (k + n)

-- the days from 1970-01-01 to the first of January of a year
abbrev pub days_before_year : ℕ → ℕ
days_before_year year = days_of_spans days_in_year 1970 (year - 1970)

-- the days from the first of January to the first of a month
abbrev pub days_before_month : ℕ → ℕ → ℕ
days_before_month year month = days_of_spans (days_in_month year) 1 (month - 1)

-- the day of a date
abbrev pub day_of_date : ℕ → ℕ → ℕ → ℕ
day_of_date year month day = days_before_year year + days_before_month year month + (day - 1)

-- no day has a leap second
abbrev pub seconds_in_day : ℕ
seconds_in_day = 86400

-- the second of a date and a time of day
abbrev pub second_of_date : ℕ → ℕ → ℕ → ℕ → ℕ → ℕ → ℕ
second_of_date year month day hour minute second =
    day_of_date year month day * seconds_in_day + hour * 3600 + minute * 60 + second

-- Spans that follow one another, as years or months do: the span with number k has `days k` days.
-- The number of the span in which a day falls, where days are counted from 0 at the first day of
-- span k; at most n spans are passed.
unfoldable pub span_of : (ℕ → ℕ) → ℕ → ℕ → ℕ → ℕ
span_of days zero k day = k
span_of days (suc n) k day =
    if nat_lt day (days k) then k else span_of days n (k + 1) (day - days k)

-- and the place of the day in that span, counted from 0
unfoldable pub place_of : (ℕ → ℕ) → ℕ → ℕ → ℕ → ℕ
place_of days zero k day = day
place_of days (suc n) k day =
    if nat_lt day (days k) then day else place_of days n (k + 1) (day - days k)

-- the year of a day
unfoldable pub year_of : ℕ → ℕ
year_of day = span_of days_in_year day 1970 day

-- the place of a day in its year, from 0
unfoldable pub place_in_year : ℕ → ℕ
place_in_year day = place_of days_in_year day 1970 day

-- the month of a day, from 1 for January
unfoldable pub month_of : ℕ → ℕ
month_of day = span_of (days_in_month (year_of day)) 11 1 (place_in_year day)

-- the day of the month of a day, from 1
unfoldable pub day_of_month : ℕ → ℕ
day_of_month day = place_of (days_in_month (year_of day)) 11 1 (place_in_year day) + 1

-- the day of the week of a day, from 1 for Monday to 7 for Sunday: 1970-01-01 was a Thursday
unfoldable pub weekday_of : ℕ → ℕ
weekday_of day = (day + 3) % 7 + 1

-- the day of a second
abbrev pub day_of : ℕ → ℕ
day_of second = second / seconds_in_day

-- the hour, the minute and the second of a second
unfoldable pub hour_of : ℕ → ℕ
hour_of second = second % seconds_in_day / 3600

unfoldable pub minute_of : ℕ → ℕ
minute_of second = second % 3600 / 60

unfoldable pub second_of : ℕ → ℕ
second_of second = second % 60

-- the byte of the digit 0
abbrev pub digit_zero : ℕ
digit_zero = 48

-- a number below 100 as two decimal digits
abbrev pub two_digits : ℕ → List ℕ
two_digits n = (digit_zero + n / 10) ∷ (digit_zero + n % 10) ∷ []

-- a number below 10000 as four decimal digits
abbrev pub four_digits : ℕ → List ℕ
four_digits n = two_digits (n / 100) ++ two_digits (n % 100)
