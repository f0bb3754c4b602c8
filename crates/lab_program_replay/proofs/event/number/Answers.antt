use Rattle.std.proofs.Common.{◌≡◌, ◌*◌, ◌+◌, ◌-◌, ◌<◌, nat_le, get_or, sym, ◌∙◌, arith}
use Rattle.lab_program_replay.proofs.NumberLemmas.{number_where-empty, number_where-on, read_other, read_digit, read_over, read_end}
use Rattle.lab_program_replay.proofs.event.number.Goals as goal

pub returns-then-is_empty-clause-value : goal.returns-then-is_empty-clause-value
returns-then-is_empty-clause-value c =
    sym (number_where-empty _ c.args.text.now (sym c.is_empty.ensures ∙ c.if-is_empty.true))

pub loop-byte-init : goal.loop-byte-init
loop-byte-init c = number_where-on _ c.args.text.now (sym c.is_empty.ensures ∙ c.if-is_empty.false)

pub returns-then-not-is_ascii_digit-clause-value : goal.returns-then-not-is_ascii_digit-clause-value
returns-then-not-is_ascii_digit-clause-value c =
    sym (read_other _ c.loop-byte.value c.loop-byte.byte-index c.args.text.now c.loop-byte-test.true
    (sym c.is_ascii_digit.ensures.value ∙ c.if-not-is_ascii_digit.true) c.loop-byte.invariant)

pub returns-in_err-checked_mul-clause-value : goal.returns-in_err-checked_mul-clause-value
returns-in_err-checked_mul-clause-value c =
    let large = c.in_err-checked_mul.ensures in
    let over : c.args.most < c.loop-byte.value * 10 + (get_or c.args.text.now c.loop-byte.byte-index
    0 - 48) = omega (arith, large) in
    c.from_residual.ensures ∙ sym (read_over c.args.most c.loop-byte.value c.loop-byte.byte-index
    c.args.text.now c.loop-byte-test.true
    (sym c.is_ascii_digit.ensures.value ∙ c.if-not-is_ascii_digit.false) over c.loop-byte.invariant)

pub returns-in_err-value-clause-value : goal.returns-in_err-value-clause-value
returns-in_err-value-clause-value c =
    let large = c.in_err-value.ensures in
    let scaled = c.in_ok-checked_mul.ensures in
    let over : c.args.most < c.loop-byte.value * 10 + (get_or c.args.text.now c.loop-byte.byte-index
    0 - 48) = omega (arith, large, scaled, c.from.ensures) in
    c.from_residual-in_err-value.ensures
    ∙ sym (read_over c.args.most c.loop-byte.value c.loop-byte.byte-index c.args.text.now
    c.loop-byte-test.true
    (sym c.is_ascii_digit.ensures.value ∙ c.if-not-is_ascii_digit.false) over c.loop-byte.invariant)

pub loop-byte-preserved : goal.loop-byte-preserved
loop-byte-preserved c =
    let scaled = c.in_ok-checked_mul.ensures in
    let summed = c.in_ok-value.ensures in
    let value : c.in_ok-value.value
    ≡ c.loop-byte.value * 10 + (get_or c.args.text.now c.loop-byte.byte-index 0 - 48) =
    omega (arith, scaled, summed, c.from.ensures) in
    rw value (read_digit (λ n. nat_le n c.args.most) c.loop-byte.value c.loop-byte.byte-index
    c.args.text.now c.loop-byte-test.true
    (sym c.is_ascii_digit.ensures.value ∙ c.if-not-is_ascii_digit.false) c.loop-byte.invariant)

pub returns-clause-value : goal.returns-clause-value
returns-clause-value c =
    c.then_some.ensures ∙ sym (read_end c.args.most c.loop-byte.value c.loop-byte.byte-index
    c.args.text.now c.loop-byte-test.false c.loop-byte.invariant)
