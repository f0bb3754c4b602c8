-- `jiff` makes a date of the numbers exactly where the calendar has the day.
use Rattle.std.proofs.Common.{◌∙◌, sym, arith}
use Rattle.std.proofs.lemmas.Bool.Decides.{nat_tests}
use Rattle.lab_forms.proofs.DateLemmas.{to_date, from_date, no_year_zero, same_test}
use Rattle.lab_forms.specs.Dates.{is_calendar_day}
use Rattle.lab_forms.proofs.dates.is_gregorian.Goals as goal

pub returns-then-year-ge1 : goal.returns-then-year-ge1
returns-then-year-ge1 c =
    let year = c.args.year in
    let month = c.args.month in
    let day = c.args.day in
    same_test c.is_ok.result (is_calendar_day year month day)
    (λ made. from_date year month day (omega arith) c.requires.year c.requires.month c.requires.day (c.new.ensures.succeeds.0 (sym c.is_ok.ensures.value ∙ made)))
    (λ falls. c.is_ok.ensures.value ∙ c.new.ensures.succeeds.1 (to_date year month day c.requires.year c.requires.month c.requires.day falls))

pub returns-else-year-ge1 : goal.returns-else-year-ge1
returns-else-year-ge1 c =
    let none = no_year_zero c.args.year c.args.month c.args.day (omega arith) in
    rw none (grind (arith, nat_tests))
