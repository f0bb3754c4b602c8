-- Each pair of digits is that of its number.
use Rattle.std.proofs.Common.{◌≡◌, ◌∙◌, ◌/◌, ◌%◌, ap, arith, refl}
use Rattle.jiff_core.proofs.SignedLemmas.{signed_casts}
use Rattle.lab_forms_texts.specs.Calendar.{day_of, year_of, month_of, day_of_month, hour_of, minute_of, second_of, two_digits}
use Rattle.lab_forms_texts.specs.Moment.{moment_text}
use Rattle.lab_forms_texts.proofs.moment.Moment.print.Goals as goal

pub returns-clause-written : goal.returns-clause-written
unfolding moment_text hour_of minute_of second_of
returns-clause-written c =
    let n = c.args.self.now in
    let day = c.day.ensures.value in
    let date = c.civil_date-date.ensures in
    let year = ap year_of day in
    let century : c.digits_of.result ≡ two_digits (year_of (day_of n) / 100) = c.digits_of.ensures ∙ ap two_digits (omega (arith, signed_casts, date.year, year)) in
    let rest : c.digits_of-2.result ≡ two_digits (year_of (day_of n) % 100) = c.digits_of-2.ensures ∙ ap two_digits (omega (arith, signed_casts, date.year, year)) in
    let month : c.digits_of-3.result ≡ two_digits (month_of (day_of n)) = c.digits_of-3.ensures ∙ ap two_digits (date.month ∙ ap month_of day) in
    let in_month : c.digits_of-4.result ≡ two_digits (day_of_month (day_of n)) = c.digits_of-4.ensures ∙ ap two_digits (date.day ∙ ap day_of_month day) in
    let hour : c.digits_of-5.result ≡ two_digits (hour_of n) = c.digits_of-5.ensures ∙ ap two_digits (omega (arith, c.self.view_is)) in
    let minute : c.digits_of-6.result ≡ two_digits (minute_of n) = c.digits_of-6.ensures ∙ ap two_digits (omega (arith, c.self.view_is)) in
    let second : c.digits_of-7.result ≡ two_digits (second_of n) = c.digits_of-7.ensures ∙ ap two_digits (omega (arith, c.self.view_is)) in
    rw (century, rest, month, in_month, hour, minute, second) refl
