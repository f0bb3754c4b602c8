-- The parts of the text round its point, or the whole of it where it has none, are read as the digits that they are.
use Rattle.std.proofs.Common.{◌≡◌, ◌+◌, refl, take, drop, Some, None}
use Rattle.std.specs.Prelude.{position}
use Rattle.lab_forms.specs.Numbers.{is_point, is_digits, decimal_value}
use Rattle.lab_forms.proofs.NumberLemmas.{read_none, read_some, unsigned-whole, unsigned-split}
use Rattle.lab_forms.proofs.WordLemmas.{rest_all}
use Rattle.lab_forms.proofs.numbers.read_unsigned.Goals as goal

pub returns-in_err-whole-clause-value : goal.returns-in_err-whole-clause-value
returns-in_err-whole-clause-value c =
    let text = c.args.text.now in
    let none : None ≡ position is_point text = cc in
    let whole = unsigned-whole c.args.decimals text none in
    let bad = read_none (is_digits 15 text) (decimal_value text) c.in_err-whole.ensures.value in
    rw (c.from_residual.ensures, whole.0, bad) refl

pub returns-in_default-clause-value : goal.returns-in_default-clause-value
returns-in_default-clause-value c =
    let text = c.args.text.now in
    let none : None ≡ position is_point text = cc in
    let whole = unsigned-whole c.args.decimals text none in
    let good = read_some (is_digits 15 text) (decimal_value text) c.in_ok-whole.whole c.in_ok-whole.ensures.value in
    rw (whole.0, whole.1, good.0) (cc)

pub returns-in_err-whole-2-clause-value : goal.returns-in_err-whole-2-clause-value
returns-in_err-whole-2-clause-value c =
    let text = c.args.text.now in
    let i = c.in-Some.place in
    let some : Some i ≡ position is_point text = cc in
    let split = unsigned-split c.args.decimals i text some in
    let bad = read_none (is_digits 15 (take i text)) (decimal_value (take i text)) c.in_err-whole-2.ensures.value in
    rw (c.from_residual-in_err-whole-2.ensures, split.0, bad) refl

pub returns-in_err-parts-clause-value : goal.returns-in_err-parts-clause-value
returns-in_err-parts-clause-value c =
    let text = c.args.text.now in
    let i = c.in-Some.place in
    let some : Some i ≡ position is_point text = cc in
    let split = unsigned-split c.args.decimals i text some in
    let first = read_some (is_digits 15 (take i text)) (decimal_value (take i text)) c.in_ok-whole-2.whole c.in_ok-whole-2.ensures.value in
    let bad = read_none (is_digits c.args.decimals (drop (i + 1) text)) (decimal_value (drop (i + 1) text)) (rw (rest_all text (i + 1)) at c.in_err-parts.ensures.value) in
    rw (c.from_residual-in_err-parts.ensures, split.0, first.0, bad) refl

pub returns-clause-value : goal.returns-clause-value
returns-clause-value c =
    let text = c.args.text.now in
    let i = c.in-Some.place in
    let some : Some i ≡ position is_point text = cc in
    let split = unsigned-split c.args.decimals i text some in
    let first = read_some (is_digits 15 (take i text)) (decimal_value (take i text)) c.in_ok-whole-2.whole c.in_ok-whole-2.ensures.value in
    let second = read_some (is_digits c.args.decimals (drop (i + 1) text)) (decimal_value (drop (i + 1) text)) c.in_ok-parts.parts (rw (rest_all text (i + 1)) at c.in_ok-parts.ensures.value) in
    let rest = rest_all text (i + 1) in
    let scale = rw rest at c.pow-scale.ensures in
    rw (split.0, split.1, first.0, second.0) (cc)
