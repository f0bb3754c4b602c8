use Rattle.lab_move_write.proofs.Turns.{made_then, turn_fails}
use Rattle.lab_move_write.proofs.kinds.add_people.Goals as goal

pub returns-in_err-add_persons : goal.returns-in_err-add_persons
returns-in_err-add_persons g c = turn_fails c.in_err-add_persons.ensures c.from_residual.result c.from_residual.ensures.1

pub returns : goal.returns
returns g c = made_then c.args.lab.id c.in_ok-add_persons.ensures c.set_asks.ensures
