use Rattle.lab_store_read.proofs.Causes.{one_unread}
use Rattle.lab_store_read_people.specs.PersonsReadable.{HasPerson}
use Rattle.lab_store_read_people.specs.PersonsShown.{person_read}
use Rattle.lab_store_read_people.proofs.PersonLists.{mapped_more}
use Rattle.lab_store_read_people.proofs.persons.persons_of_rows.Goals as goal

pub loop-row-preserved : goal.loop-row-preserved
loop-row-preserved c =
    mapped_more person_read c.args.rows.now c.loop-row.row-index c.row-item.result c.loop-row.made.items _ c.in_ok-person_of_row.field-0
    c.loop-row.invariant c.loop-row-test.true c.row-item.is c.in_ok-person_of_row.ensures.value c.in_ok-push.ensures.items

pub returns-in_err-person_of_row-clause-fault : goal.returns-in_err-person_of_row-clause-fault
returns-in_err-person_of_row-clause-fault c =
    one_unread HasPerson c.args.rows.now c.loop-row.row-index c.row-item.result c.loop-row-test.true c.row-item.is c.in_err-person_of_row.ensures.fault
    c.from_residual.result c.from_residual.ensures.1
