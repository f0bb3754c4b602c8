use Rattle.std.proofs.Common.{sym, ap, ◌∙◌}
use Rattle.lab_seal.specs.Reading.{number_written}
use Rattle.lab_wire.proofs.NumberLemmas.{ordinal_read, no_ordinal, over_last}
use Rattle.lab_wire.proofs.numbers.ordinal_in.Goals as goal

pub returns-in_err-value : goal.returns-in_err-value
returns-in_err-value c =
    let read = sym (c.value_of.ensures ∙ ap number_written c.as_bytes.ensures.value) in
    c.from_residual.ensures ∙ sym (no_ordinal c.args.digits.now (read ∙ c.in_err-value.was))

pub returns-then-value-gt-LAST : goal.returns-then-value-gt-LAST
returns-then-value-gt-LAST c =
    let read = sym (c.value_of.ensures ∙ ap number_written c.as_bytes.ensures.value) in
    sym (ordinal_read c.args.digits.now c.in_ok-value.value (read ∙ c.in_ok-value.was)
    ∙ over_last c.in_ok-value.value c.if-value-gt-LAST.true)

pub returns : goal.returns
returns c =
    let read = sym (c.value_of.ensures ∙ ap number_written c.as_bytes.ensures.value) in
    c.new.ensures ∙ sym (ordinal_read c.args.digits.now c.in_ok-value.value (read ∙ c.in_ok-value.was))
