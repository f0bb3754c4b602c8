use Rattle.std.proofs.Common.{arith}
use Rattle.lab_records_kept.specs.declared.changes.Change.TheVariants.{PersonAdded}
use Rattle.lab_store_tables.specs.Placing.{unasked}
use Rattle.lab_move_write.proofs.Turns.{nothing_made, item_more, item_fails, items_made, one_made, bare_persons, by_person}
use Rattle.lab_move_write.proofs.kinds.add_persons.Goals as goal

pub loop-person-init : goal.loop-person-init
loop-person-init g c = nothing_made c.args.lab.id c.args.tx.now tt

pub loop-person-preserved : goal.loop-person-preserved
loop-person-preserved g c =
    item_more c.args.lab.id bare_persons by_person c.args.persons.now c.loop-person.person-index c.loop-person.invariant c.person-item.result c.person-item.is
    (omega (arith, c.loop-person-test.true)) (one_made c.args.lab.id (PersonAdded (unasked c.person-item.result)) c.in_ok-add_bare.ensures)

pub returns-in_err-add_bare : goal.returns-in_err-add_bare
returns-in_err-add_bare g c =
    item_fails c.args.lab.id bare_persons by_person c.args.persons.now c.loop-person.person-index c.loop-person.invariant (one_made c.args.lab.id (PersonAdded (unasked c.person-item.result)) c.in_err-add_bare.ensures)
    c.from_residual.result c.from_residual.ensures.1

pub returns : goal.returns
returns g c =
    items_made c.args.lab.id bare_persons by_person c.args.persons.now c.loop-person.person-index c.loop-person.invariant (omega (arith, c.loop-person-test.false))
