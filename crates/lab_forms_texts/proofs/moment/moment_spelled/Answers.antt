-- The moment that the digits tell is the one that has the text, where it has that text.
use Rattle.std.proofs.Common.{sym, ◌∙◌}
use Rattle.lab_forms_texts.proofs.MomentLemmas.{none_told, other_told, moment_told}
use Rattle.lab_forms_texts.proofs.moment.moment_spelled.Goals as goal

pub returns-in_err-moment : goal.returns-in_err-moment
returns-in_err-moment c = c.from_residual.ensures ∙ none_told c.args.text.now c.moment_of_digits.result c.moment_of_digits.ensures c.in_err-moment.was

pub returns-then-eq : goal.returns-then-eq
returns-then-eq c =
    let same = rw (c.as_slice.ensures ∙ c.print.ensures.written) at (sym c.eq.ensures ∙ c.if-eq.true) in
    moment_told c.args.text.now c.in_ok-moment.moment c.print.ensures.in_range same

pub returns-else-eq : goal.returns-else-eq
returns-else-eq c =
    let differs = rw (c.as_slice.ensures ∙ c.print.ensures.written) at (sym c.eq.ensures ∙ c.if-eq.false) in
    other_told c.args.text.now c.moment_of_digits.result c.in_ok-moment.moment c.moment_of_digits.ensures c.in_ok-moment.was differs
