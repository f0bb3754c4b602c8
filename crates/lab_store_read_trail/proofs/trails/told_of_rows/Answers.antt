use Rattle.lab_store_read.proofs.Causes.{one_unread}
use Rattle.lab_store_read_trail.specs.Readable.{HasTold}
use Rattle.lab_store_read_trail.proofs.trails.told_of_rows.Goals as goal

pub returns-in_err-told_of_row-clause-fault : goal.returns-in_err-told_of_row-clause-fault
returns-in_err-told_of_row-clause-fault c =
    one_unread HasTold c.args.rows.now c.loop-row.row-index c.row-item.result c.loop-row-test.true c.row-item.is c.in_err-told_of_row.ensures.fault
    c.from_residual.result c.from_residual.ensures.1
