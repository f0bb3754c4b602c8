-- Each part of a date's text is read as the digits that it is.
use Rattle.std.proofs.Common.{◌∙◌, sym, refl}
use Rattle.lab_forms.specs.Numbers.{is_digits, decimal_value}
use Rattle.lab_forms.specs.Dates.{is_date, year_part, month_part, day_part}
use Rattle.lab_forms.proofs.NumberLemmas.{read_none, read_some}
use Rattle.lab_forms.proofs.dates.is_date_text.Goals as goal

pub returns-then-not-has_date_hyphens : goal.returns-then-not-has_date_hyphens
unfolding is_date
returns-then-not-has_date_hyphens c =
    let bad = sym c.has_date_hyphens.ensures ∙ c.if-not-has_date_hyphens.true in
    rw bad refl

pub returns-in_default : goal.returns-in_default
unfolding is_date
returns-in_default c =
    let text = c.args.text.now in
    let form = sym c.has_date_hyphens.ensures ∙ c.if-not-has_date_hyphens.false in
    let year = read_some (is_digits 4 (year_part text)) (decimal_value (year_part text)) c.in_default.field-0-0 (rw c.in_default.is-0 at c.read_digits-year.ensures.value) in
    let month = read_some (is_digits 2 (month_part text)) (decimal_value (month_part text)) c.in_default.field-0-1 (rw c.in_default.is-1 at c.read_digits-month.ensures.value) in
    let bad = read_none (is_digits 2 (day_part text)) (decimal_value (day_part text)) (rw c.in_default.is-2 at c.read_digits-day.ensures.value) in
    rw (form, year.0, month.0, bad) refl

pub returns-in_default-2 : goal.returns-in_default-2
unfolding is_date
returns-in_default-2 c =
    let text = c.args.text.now in
    let form = sym c.has_date_hyphens.ensures ∙ c.if-not-has_date_hyphens.false in
    let year = read_some (is_digits 4 (year_part text)) (decimal_value (year_part text)) c.in_default.field-0-0 (rw c.in_default.is-0 at c.read_digits-year.ensures.value) in
    let bad = read_none (is_digits 2 (month_part text)) (decimal_value (month_part text)) (rw c.in_default.is-1 at c.read_digits-month.ensures.value) in
    rw (form, year.0, bad) refl

pub returns-in_default-3 : goal.returns-in_default-3
unfolding is_date
returns-in_default-3 c =
    let text = c.args.text.now in
    let form = sym c.has_date_hyphens.ensures ∙ c.if-not-has_date_hyphens.false in
    let bad = read_none (is_digits 4 (year_part text)) (decimal_value (year_part text)) (rw c.in_default.is-0 at c.read_digits-year.ensures.value) in
    rw (form, bad) refl

pub returns : goal.returns
unfolding is_date
returns c =
    let text = c.args.text.now in
    let form = sym c.has_date_hyphens.ensures ∙ c.if-not-has_date_hyphens.false in
    let year = read_some (is_digits 4 (year_part text)) (decimal_value (year_part text)) c.in-Some-Some-Some.year (rw c.in-Some-Some-Some.is-0 at c.read_digits-year.ensures.value) in
    let month = read_some (is_digits 2 (month_part text)) (decimal_value (month_part text)) c.in-Some-Some-Some.month (rw c.in-Some-Some-Some.is-1 at c.read_digits-month.ensures.value) in
    let day = read_some (is_digits 2 (day_part text)) (decimal_value (day_part text)) c.in-Some-Some-Some.day (rw c.in-Some-Some-Some.is-2 at c.read_digits-day.ensures.value) in
    rw (form, year.0, month.0, day.0, ← year.1, ← month.1, ← day.1) c.is_gregorian.ensures
