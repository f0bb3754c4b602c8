-- The day of a date, by the calendar's rules counted from 1970 and in `jiff`'s calendar.
use Rattle.std.proofs.Common.{◌≡◌, ℕ, zero, suc, ◌+◌, ◌-◌, ◌<◌, ◌≤◌, inl, inr, refl, sym, ◌∙◌, arith, ℤ, pos}
use Rattle.std.proofs.lemmas.Bool.{cases_lt}
use Rattle.std.proofs.lemmas.Bool.Decides.{nat_tests}
use Rattle.std.proofs.lemmas.Int.{by_lt_z}
use Rattle.jiff_core.specs.Calendar.{days_of_months, day_count, days_from_civil, IsCivilDate}
use Rattle.jiff_core.proofs.CalendarLemmas.{day_count-epoch, days_from_civil-day_count, days_of_months-zero, days_of_months_more, days_of_months_all, day_count-day_of_year, day_count-next_year, day_count-lt_year, day_count-end}
use Rattle.jiff_core.proofs.SignedLemmas.{signed_arith}
use Rattle.lab_forms_texts.specs.Calendar.{days_in_year, days_in_month, days_of_spans, days_before_month, day_of_date, year_of, place_in_year, month_of, day_of_month, span_of, place_of}
use Rattle.lab_forms_texts.proofs.SpanLemmas.{total-zero, total-last, total_mono, total_ge, same_span, falls}
use borrow.Author.Differences.{up, down}

-- a year from 1970 on begins so many days after 1970-01-01
day_count-total : (n : ℕ) → day_count (pos (1970 + n)) 1 1 ≡ 4_371_953 + days_of_spans days_in_year 1970 n
day_count-total zero = omega (arith, day_count-epoch, total-zero days_in_year 1970)
day_count-total (suc n) =
    let next = day_count-next_year (pos (1970 + n)) (pos (1970 + suc n)) (omega (arith, signed_arith)) (omega (arith, signed_arith)) in
    omega (arith, next, day_count-total n, total-last days_in_year 1970 n)

-- the days of a year's first months
days_of_months-total : (y n : ℕ) → days_of_months (pos y) n ≡ days_of_spans (days_in_month y) 1 n
days_of_months-total y zero = days_of_months-zero (pos y) ∙ sym (total-zero (days_in_month y) 1)
days_of_months-total y (suc n) =
    let back : suc n - 1 ≡ n = omega arith in
    let same : 1 + n ≡ suc n = omega arith in
    let more = rw back at (days_of_months_more (pos y) (suc n) (omega arith)) in
    let last = rw same at (total-last (days_in_month y) 1 n) in
    omega (arith, days_of_months-total y n, more, last)

total-months : (y : ℕ) → days_of_spans (days_in_month y) 1 12 ≡ days_in_year y
total-months y = sym (days_of_months-total y 12) ∙ days_of_months_all (pos y)

-- `jiff` counts the days of a date from 1970 on alike
pub days_from_civil-date : (y m d : ℕ) → 1970 ≤ y → 1 ≤ d → days_from_civil (pos y) m d ≡ pos (day_of_date y m d)
days_from_civil-date y m d low first =
    let n = y - 1970 in
    let year : 1970 + n ≡ y = omega arith in
    let begins = rw year at (day_count-total n) in
    let months = days_of_months-total y (m - 1) in
    omega (arith, signed_arith, days_from_civil-day_count (pos y) m d, day_count-day_of_year (pos y) m d first, begins, months)

-- a date from 1970 on, and its day
pub record IsDateOf (y m d day : ℕ) : Type 0 where
  pub year_in : 1970 ≤ y
  pub month_in : (1 ≤ m) × (m ≤ 12)
  pub day_in : (1 ≤ d) × (d ≤ days_in_month y m)
  pub counted : day_of_date y m d ≡ day

-- a date lies in its month and its year
in_month : {y m d day : ℕ} → IsDateOf y m d day → d - 1 < days_in_month y (1 + (m - 1))
in_month {y} {m} {d} is =
    let month : 1 + (m - 1) ≡ m = omega (arith, is.month_in.0) in
    rw month (omega (arith, is.day_in.0, is.day_in.1))

in_year : {y m d day : ℕ} → IsDateOf y m d day → days_before_month y m + (d - 1) < days_in_year (1970 + (y - 1970))
in_year {y} {m} {d} is =
    let year : 1970 + (y - 1970) ≡ y = omega (arith, is.year_in) in
    let few : suc (m - 1) ≤ 12 = omega (arith, is.month_in.1) in
    rw year (omega (arith, in_month is, total-last (days_in_month y) 1 (m - 1), total_mono (days_in_month y) 1 (suc (m - 1)) 12 few, total-months y))

-- two dates with one day are one
pub record AreSame (y m d y₂ m₂ d₂ : ℕ) : Type 0 where
  pub year : y ≡ y₂
  pub month : m ≡ m₂
  pub day_in_month : d ≡ d₂

same_in_year : (y m d m₂ d₂ day : ℕ) → IsDateOf y m d day → IsDateOf y m₂ d₂ day → AreSame y m d y m₂ d₂
same_in_year y m d m₂ d₂ day a b =
    let months = same_span (days_in_month y) 1 (m - 1) (m₂ - 1) (d - 1) (d₂ - 1) (in_month a) (in_month b) (omega (arith, a.counted, b.counted)) in
    let month : m ≡ m₂ = omega (arith, months, a.month_in.0, b.month_in.0) in
    let counted = rw month at a.counted in
    record { year = refl; month = month; day_in_month = omega (arith, counted, b.counted, a.day_in.0, b.day_in.0) }

pub same_date : (y m d y₂ m₂ d₂ day : ℕ) → IsDateOf y m d day → IsDateOf y₂ m₂ d₂ day → AreSame y m d y₂ m₂ d₂
same_date y m d y₂ m₂ d₂ day a b =
    let years = same_span days_in_year 1970 (y - 1970) (y₂ - 1970) (days_before_month y m + (d - 1)) (days_before_month y₂ m₂ + (d₂ - 1)) (in_year a) (in_year b) (omega (arith, a.counted, b.counted)) in
    let year : y ≡ y₂ = omega (arith, years, a.year_in, b.year_in) in
    let rest = same_in_year y₂ m d m₂ d₂ day (rw year at a) b in
    record { year = year; month = rest.month; day_in_month = rest.day_in_month }

days_in_year_ge : (y : ℕ) → 1 ≤ days_in_year y
days_in_year_ge y = grind (arith, nat_tests)

-- a day's own date
pub own_date : (day : ℕ) → IsDateOf (year_of day) (month_of day) (day_of_month day) day
unfolding year_of place_in_year month_of day_of_month
own_date day =
    let f = falls days_in_year day 1970 day (total_ge days_in_year 1970 (suc day) days_in_year_ge) in
    let y = span_of days_in_year day 1970 day in
    let place = place_of days_in_year day 1970 day in
    let in_y : place < days_in_year y = rw f.span_is f.in_span in
    let g = falls (days_in_month y) 11 1 place (omega (arith, in_y, total-months y)) in
    let m = span_of (days_in_month y) 11 1 place in
    let in_m : place_of (days_in_month y) 11 1 place < days_in_month y m = rw g.span_is g.in_span in
    let years : y - 1970 ≡ f.passed = omega (arith, f.span_is) in
    let months : m - 1 ≡ g.passed = omega (arith, g.span_is) in
    let few : g.passed ≤ 11 = elim (cases_lt g.passed 12) [
      | inl lt ↦ omega (arith, lt)
      | inr le ↦ absurd (omega (arith, g.day_is, in_y, total-months y, total_mono (days_in_month y) 1 12 g.passed le))
    ] in
    record {
      year_in = omega (arith, f.span_is);
      month_in = (omega (arith, g.span_is), omega (arith, g.span_is, few));
      day_in = (omega arith, omega (arith, in_m));
      counted = rw (years, months) (omega (arith, f.day_is, g.day_is));
    }

-- of a day before the year 10000
pub own_year : (day : ℕ) → day ≤ 2_932_896 → year_of day ≤ 9999
own_year day before =
    let own = own_date day in
    elim (cases_lt (year_of day) 10_000) [
      | inl lt ↦ omega (arith, lt)
      | inr le ↦ absurd (omega (arith, before, own.counted, total_mono days_in_year 1970 8030 (year_of day - 1970) (omega (arith, le)), day_count-total 8030, day_count-end))
    ]

-- the date that `jiff` has of a day is the day's own
pub record IsYmdOf (y : ℤ) (m d day : ℕ) : Type 0 where
  pub year : y ≡ pos (year_of day)
  pub month : m ≡ month_of day
  pub day_in_month : d ≡ day_of_month day

pub is_ymd_of : (y : ℤ) (m d day : ℕ) → IsCivilDate y m d → days_from_civil y m d ≡ pos day → IsYmdOf y m d day
is_ymd_of y m d day h e = by_lt_z y (pos 1970)
    (λ lt. absurd (omega (arith, signed_arith, e, days_from_civil-day_count y m d, day_count-epoch, day_count-lt_year y m d (pos 1970) 1 1 h (omega arith) lt)))
    (λ le.
    let n = up y - down y in
    let year : y ≡ pos n = omega (arith, signed_arith) in
    let low : 1970 ≤ n = omega (arith, signed_arith) in
    let date : IsDateOf n m d day = record {
      year_in = low;
      month_in = h.1;
      day_in = (h.2.0, rw year at h.2.1);
      counted = omega (arith, signed_arith, rw year at e, days_from_civil-date n m d low h.2.0);
    } in
    let same = same_date n m d (year_of day) (month_of day) (day_of_month day) day date (own_date day) in
    record { year = rw same.year at year; month = same.month; day_in_month = same.day_in_month })
