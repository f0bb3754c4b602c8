-- Of a moment's text `jiff` makes the date and the time of that moment.
use Rattle.std.proofs.Common.{arith, ◌≡◌, ◌∙◌, pos, to_z, of_z, to_z-of_z, FitsSigned, w64}
use Rattle.jiff_core.proofs.SignedLemmas.{signed_arith}
use Rattle.jiff_core.specs.Date.{IsYmd}
use Rattle.jiff_core.specs.Time.{IsHms}
use Rattle.lab_forms_texts.proofs.MomentLemmas.{told_long, told_date, told_time, told_seconds, made, at_ok}
use Rattle.lab_forms_texts.proofs.moment.moment_of_digits.Goals as goal

pub returns-then-text-ne-TEXT_LEN : goal.returns-then-text-ne-TEXT_LEN
returns-then-text-ne-TEXT_LEN c = λ n is e. absurd (c.if-text-ne-TEXT_LEN.true (told_long c.args.text.now n is e))

pub returns-in_err-date : goal.returns-in_err-date
returns-in_err-date c = λ n is e.
    let date = told_date c.args.text.now n _ _ _ _ is e c.number_at.ensures.shown c.number_at-2.ensures.shown c.number_at-month.ensures.shown c.number_at-day.ensures.shown in
    let made = c.new.ensures.succeeds.1 date.is_date in
    let failed = c.in_err-date.ensures.variant in absurd (cc)

pub returns-in_err-time : goal.returns-in_err-time
returns-in_err-time c = λ n is e.
    let time = told_time c.args.text.now n _ _ _ is e c.number_at-hour.ensures.shown c.number_at-minute.ensures.shown c.number_at-second.ensures.shown in
    let made = c.new-2.ensures.succeeds.1 time.is_time in
    let failed = c.in_err-time.ensures.variant in absurd (cc)

pub returns : goal.returns
returns c = λ n is e.
    let date = told_date c.args.text.now n _ _ _ _ is e c.number_at.ensures.shown c.number_at-2.ensures.shown c.number_at-month.ensures.shown c.number_at-day.ensures.shown in
    let time = told_time c.args.text.now n _ _ _ is e c.number_at-hour.ensures.shown c.number_at-minute.ensures.shown c.number_at-second.ensures.shown in
    let ymd = at_ok (IsYmd _ _ _) c.new.result c.in_ok-date.date c.in_ok-date.ensures.value c.new.ensures.value in
    let hms = at_ok (IsHms _ _ _ _) c.new-2.result c.in_ok-time.time c.in_ok-time.ensures.value c.new-2.ensures.value in
    let whole : FitsSigned w64 c.to_second.result = omega (arith, signed_arith, c.to_second.ensures.bound) in
    let seconds : to_z w64 (of_z w64 c.to_second.result) ≡ pos n = to_z-of_z whole ∙ c.to_second.ensures.value ∙ told_seconds n c.in_ok-date.date c.in_ok-time.time date time ymd hms in
    c.ok-3.ensures.value ∙ made n _ c.from_seconds.result is seconds c.from_seconds.ensures.value c.from_seconds.ensures.fault
