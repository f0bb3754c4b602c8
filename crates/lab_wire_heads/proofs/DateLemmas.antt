-- The date that `httpdate` gives a moment is the date that the calendar gives it.
use Rattle.std.proofs.Common.{◌≡◌, ℕ, zero, suc, ◌+◌, ◌-◌, ◌*◌, ◌%◌, ◌<◌, refl, sym, ◌∙◌, arith}
use Rattle.httpdate.specs.Calendar.{days_of_years, days_of_months, days_from_civil, IsCivilDate}
use Rattle.httpdate.specs.Date.{date_text, unix_secs}
use Rattle.httpdate.specs.declared.date.HttpDate.{HttpDate}
use Rattle.lab_forms_texts.specs.Calendar.{day_of, days_in_year, days_in_month, days_of_spans, day_of_date, year_of, month_of, day_of_month, weekday_of, hour_of, minute_of, second_of}
use Rattle.lab_forms_texts.proofs.CalendarLemmas.{own_date, same_date}
use Rattle.lab_forms_texts.proofs.SpanLemmas.{total-zero, total-last}
use Rattle.lab_wire_heads.specs.Dates.{imf_fixdate}

years-total : (n : ℕ) → days_of_years n ≡ days_of_spans days_in_year 1970 n
unfolding days_of_years
years-total zero = sym (total-zero days_in_year 1970)
years-total (suc n) = omega (arith, years-total n, total-last days_in_year 1970 n)

months-total : (y n : ℕ) → days_of_months y n ≡ days_of_spans (days_in_month y) 1 n
unfolding days_of_months
months-total y zero = sym (total-zero (days_in_month y) 1)
months-total y (suc n) =
    let same : 1 + n ≡ suc n = omega arith in
    omega (arith, months-total y n, rw same at (total-last (days_in_month y) 1 n))

-- the year, the month and the day of the month of a date are those of its day
pub record IsDateOf (y m d day : ℕ) : Type 0 where
  pub year : year_of day ≡ y
  pub month : month_of day ≡ m
  pub day_in_month : day_of_month day ≡ d

pub date_of_civil : (y m d : ℕ) → IsCivilDate y m d → IsDateOf y m d (days_from_civil y m d)
date_of_civil y m d h =
    let day = days_from_civil y m d in
    let counted : day_of_date y m d ≡ day = omega (arith, years-total (y - 1970), months-total y (m - 1)) in
    let same = same_date (year_of day) (month_of day) (day_of_month day) y m d day (own_date day)
    (record { year_in = h.0.0; month_in = h.1; day_in = h.2; counted = counted }) in
    record { year = same.year; month = same.month; day_in_month = same.day_in_month }

-- day, hour, minute and second of a moment that is made of them
pub record IsTimeOf (day hour minute second moment : ℕ) : Type 0 where
  pub days : day_of moment ≡ day
  pub hours : hour_of moment ≡ hour
  pub minutes : minute_of moment ≡ minute
  pub seconds : second_of moment ≡ second

pub time_of_clock : (day hour minute second : ℕ) → hour < 24 → minute < 60 → second < 60 → IsTimeOf day hour minute second (day * 86400 + hour * 3600 + minute * 60 + second)
unfolding hour_of minute_of second_of
time_of_clock day hour minute second h m s = record {
  days = omega arith;
  hours = omega arith;
  minutes = omega arith;
  seconds = omega arith;
}

weekday_is : (day : ℕ) → weekday_of day ≡ (day + 3) % 7 + 1
unfolding weekday_of
weekday_is day = refl

-- `httpdate` writes the date of the moment
pub date_text_is : (d : HttpDate) (moment : ℕ) → unix_secs d ≡ moment → date_text d ≡ imf_fixdate moment
unfolding imf_fixdate
date_text_is d moment e =
    let p = d.parts in
    let time = rw e at (time_of_clock (days_from_civil p.year p.mon p.day) p.hour p.min p.sec d.time.0 d.time.1 d.time.2) in
    let date = date_of_civil p.year p.mon p.day d.civil in
    let weekday : weekday_of (days_from_civil p.year p.mon p.day) ≡ p.wday = weekday_is _ ∙ sym d.right_day in
    rw (time.days, time.hours, time.minutes, time.seconds, date.year, date.month, date.day_in_month, weekday)
