-- The days that `jiff` has are those of the calendar's rules.
use Rattle.std.proofs.Common.{◌≡◌, ℕ, ◌<◌, ◌≤◌, Bool, true, false, arith, to_z, w8, w16}
use Rattle.std.proofs.lemmas.Int.{to_z_pos}
use Rattle.std.proofs.lemmas.Bool.Decides.{nat_tests}
use Rattle.jiff_core.specs.Calendar.{IsDate}
use Rattle.jiff_core.proofs.SignedLemmas.{signed_arith}
use Rattle.lab_forms_texts.specs.Calendar.{days_in_month}
use Rattle.lab_forms.specs.Dates.{is_calendar_day}

-- the rules of a calendar's day, one by one
record Falls (year month day : ℕ) : Type 0 where
  year_low : 1 ≤ year
  year_high : year ≤ 9999
  month_low : 1 ≤ month
  month_high : month ≤ 12
  day_low : 1 ≤ day
  day_high : day ≤ days_in_month year month

falls : (year month day : ℕ) → is_calendar_day year month day ≡ true → Falls year month day
unfolding is_calendar_day
falls year month day e = record {
  year_low = grind (arith, nat_tests);
  year_high = grind (arith, nat_tests);
  month_low = grind (arith, nat_tests);
  month_high = grind (arith, nat_tests);
  day_low = grind (arith, nat_tests);
  day_high = grind (arith, nat_tests);
}

is_day : (year month day : ℕ) → Falls year month day → is_calendar_day year month day ≡ true
unfolding is_calendar_day
is_day year month day h = grind (arith, nat_tests, h.year_low, h.year_high, h.month_low, h.month_high, h.day_low, h.day_high)

pub to_date : (year month day : ℕ) → year < 10000 → month < 100 → day < 100 → is_calendar_day year month day ≡ true → IsDate (to_z w16 year) (to_z w8 month) (to_z w8 day)
to_date year month day y m d e =
    let h = falls year month day e in
    let wide_year = to_z_pos w16 year (omega arith) in
    let wide_month = to_z_pos w8 month (omega arith) in
    let wide_day = to_z_pos w8 day (omega arith) in
    rw (wide_year, wide_month, wide_day) ((omega (arith, signed_arith, h.year_low), omega (arith, signed_arith, h.year_high)), (omega (arith, signed_arith, h.month_low), omega (arith, signed_arith, h.month_high)), (omega (arith, signed_arith, h.day_low), omega (arith, signed_arith, h.day_high)))

pub from_date : (year month day : ℕ) → 1 ≤ year → year < 10000 → month < 100 → day < 100 → IsDate (to_z w16 year) (to_z w8 month) (to_z w8 day) → is_calendar_day year month day ≡ true
from_date year month day low y m d h =
    let wide_year = to_z_pos w16 year (omega arith) in
    let wide_month = to_z_pos w8 month (omega arith) in
    let wide_day = to_z_pos w8 day (omega arith) in
    let date = rw (wide_year, wide_month, wide_day) at h in
    is_day year month day (record {
      year_low = low;
      year_high = omega (arith, signed_arith, date.0.1);
      month_low = omega (arith, signed_arith, date.1.0);
      month_high = omega (arith, signed_arith, date.1.1);
      day_low = omega (arith, signed_arith, date.2.0);
      day_high = omega (arith, signed_arith, date.2.1);
    })

-- before the year 1 the text has no date
pub no_year_zero : (year month day : ℕ) → year < 1 → is_calendar_day year month day ≡ false
unfolding is_calendar_day
no_year_zero year month day h = grind (arith, nat_tests)

-- two tests that pass together are one
pub same_test : (a b : Bool) → (a ≡ true → b ≡ true) → (b ≡ true → a ≡ true) → a ≡ b
same_test a b there back = grind (arith, there, back)
