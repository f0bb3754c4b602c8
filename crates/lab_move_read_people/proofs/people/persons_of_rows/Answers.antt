use Rattle.lab_move_read_people.specs.Persons.{person_read}
use Rattle.lab_store_read_people.proofs.PersonLists.{mapped_more}
use Rattle.lab_move_read_people.proofs.people.persons_of_rows.Goals as goal

pub loop-row-preserved : goal.loop-row-preserved
loop-row-preserved c =
    mapped_more (person_read c.args.older) c.args.rows.now c.loop-row.row-index c.row-item.result c.loop-row.made.items _ c.in_ok-person_of_row.field-0
    c.loop-row.invariant c.loop-row-test.true c.row-item.is c.in_ok-person_of_row.ensures.value c.in_ok-push.ensures.items
