use Rattle.std.proofs.Common.{arith, sym, ap, ◌∙◌}
use Rattle.std.specs.Prelude.{option_map}
use Rattle.lab_seal.proofs.RowLemmas.{rest_more, rest_none, rest_end}
use Rattle.lab_seal.proofs.parts.after_rows.Goals as goal

pub returns-in_err-after : goal.returns-in_err-after
returns-in_err-after c =
    ap (option_map (λ rest. rest.now)) c.from_residual.ensures
    ∙ sym (rest_none c.args.count c.args.text.now c.loop.counter c.loop.rest.now (omega arith) c.loop.invariant (sym c.in_err-after.ensures))

pub loop-preserved : goal.loop-preserved
loop-preserved c =
    rest_more c.args.count c.args.text.now c.loop.counter c.loop.rest.now c.in_ok-after.after.now _ (omega arith) c.loop.invariant
    (sym c.in_ok-after.ensures)

pub returns : goal.returns
returns c = sym (rest_end c.args.count c.args.text.now c.loop.counter c.loop.rest.now (omega arith) c.loop.invariant)
