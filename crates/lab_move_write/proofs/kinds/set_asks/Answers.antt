use Rattle.std.proofs.Common.{arith}
use Rattle.lab_move_write.proofs.Turns.{nothing_made, item_more, item_fails, items_made, persons_asked_for, by_ask}
use Rattle.lab_move_write.proofs.kinds.set_asks.Goals as goal

pub loop-person-init : goal.loop-person-init
loop-person-init g c = nothing_made c.args.lab.id c.args.tx.now tt

pub loop-person-preserved : goal.loop-person-preserved
loop-person-preserved g c =
    item_more c.args.lab.id persons_asked_for by_ask c.args.persons.now c.loop-person.person-index c.loop-person.invariant c.person-item.result c.person-item.is
    (omega (arith, c.loop-person-test.true)) c.in_ok-set_ask.ensures

pub returns-in_err-set_ask : goal.returns-in_err-set_ask
returns-in_err-set_ask g c =
    item_fails c.args.lab.id persons_asked_for by_ask c.args.persons.now c.loop-person.person-index c.loop-person.invariant c.in_err-set_ask.ensures
    c.from_residual.result c.from_residual.ensures.1

pub returns : goal.returns
returns g c =
    items_made c.args.lab.id persons_asked_for by_ask c.args.persons.now c.loop-person.person-index c.loop-person.invariant (omega (arith, c.loop-person-test.false))
