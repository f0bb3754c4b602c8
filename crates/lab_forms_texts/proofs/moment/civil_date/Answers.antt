-- The date that `jiff` gives is the one of the calendar's rules.
use Rattle.std.proofs.Common.{arith}
use Rattle.jiff_core.proofs.SignedLemmas.{signed_arith}
use Rattle.lab_forms_texts.proofs.CalendarLemmas.{is_ymd_of, IsYmdOf}
use Rattle.lab_forms_texts.proofs.moment.civil_date.Goals as goal

ymd : (c : goal.After-from_days_since_min) → IsYmdOf c.from_days_since_min.result.year c.from_days_since_min.result.month c.from_days_since_min.result.day c.args.day
ymd c =
    let date = c.from_days_since_min.result in
    is_ymd_of date.year date.month date.day c.args.day (date.year_in, date.month_in, date.day_in)
    (omega (arith, signed_arith))

pub returns-clause-year : goal.returns-clause-year
returns-clause-year c = (ymd c).year

pub returns-clause-month : goal.returns-clause-month
returns-clause-month c = (ymd c).month

pub returns-clause-day : goal.returns-clause-day
returns-clause-day c = (ymd c).day_in_month
