use Rattle.lab_store_write.proofs.Writers.{fails_so}
use Rattle.lab_move_write.proofs.Whole.{writes_whole}
use Rattle.lab_move_write.proofs.placing.add_whole.Goals as goal

pub returns-in_err-row : goal.returns-in_err-row
returns-in_err-row g c = fails_so c.in_err-row.ensures.writes c.from_residual.result c.from_residual.ensures.1

pub returns : goal.returns
returns g c = writes_whole c.args.lab.now c.in_ok-row.row c.in_ok-row.ensures.writes c.in_ok-row.ensures.rules c.add_kinds.ensures
