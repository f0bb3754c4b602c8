use Rattle.std.proofs.Common.{arith}
use Rattle.lab_store_tables.specs.Changes.{AddsPerson}
use Rattle.lab_store_write.proofs.Givers.{by_nobody}
use Rattle.lab_store_write.proofs.Writers.{turns_begun, turns_on, turns_ended, then_fails}
use Rattle.lab_store_write_changes.proofs.rows.add_persons.Goals as goal

pub loop-person-init : goal.loop-person-init
loop-person-init g c = turns_begun (AddsPerson c.args.lab.id) c.args.tx.now tt

pub loop-person-preserved : goal.loop-person-preserved
loop-person-preserved g c =
    turns_on (AddsPerson c.args.lab.id) c.args.persons.now c.loop-person.person-index c.loop-person.invariant c.person-item.result c.person-item.is
    (omega (arith, c.loop-person-test.true)) (by_nobody c.args.lab.id c.in_ok-add_person.ensures)

pub returns-in_err-add_person : goal.returns-in_err-add_person
returns-in_err-add_person g c = then_fails c.loop-person.invariant c.in_err-add_person.ensures c.from_residual.result c.from_residual.ensures.1

pub returns : goal.returns
returns g c = turns_ended (AddsPerson c.args.lab.id) c.args.persons.now c.loop-person.person-index c.loop-person.invariant (omega (arith, c.loop-person-test.false))
