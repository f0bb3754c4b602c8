use Rattle.std.proofs.Common.{◌∙◌, sym, ap, Ok}
use Rattle.lab_wire_members.proofs.ReadingLemmas.{exit_fault}
use Rattle.lab_wire_members.proofs.PartLemmas.{each_more, each_fault}
use Rattle.lab_wire_members.proofs.parts.each_of.Goals as goal

pub returns-in_err-element-clause-fault : goal.returns-in_err-element-clause-fault
returns-in_err-element-clause-fault g c =
    exit_fault _ _ _ c.from_residual.ensures.1
    (each_fault g.T.Element.says c.args.values.now c.loop-value.value-index c.value-item.result
    c.loop-value.list.items _ c.loop-value-test.true c.value-item.is c.loop-value.invariant
    c.in_err-element.ensures.fault)

pub loop-value-preserved : goal.loop-value-preserved
loop-value-preserved g c =
    each_more g.T.Element.says c.args.values.now c.loop-value.value-index c.value-item.result
    c.loop-value.list.items c.in_ok-element.element c.loop-value-test.true c.value-item.is
    c.loop-value.invariant c.in_ok-element.ensures.read
    ∙ ap Ok (sym c.in_ok-push.ensures.items)
