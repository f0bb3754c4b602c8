use Rattle.lab_move_write.proofs.Turns.{made_then, turn_fails}
use Rattle.lab_move_write.proofs.kinds.add_work.Goals as goal

pub returns-in_err-add_records : goal.returns-in_err-add_records
returns-in_err-add_records g c = turn_fails c.in_err-add_records.ensures c.from_residual.result c.from_residual.ensures.1

pub returns : goal.returns
returns g c = made_then c.args.lab.id c.in_ok-add_records.ensures c.add_trail.ensures
