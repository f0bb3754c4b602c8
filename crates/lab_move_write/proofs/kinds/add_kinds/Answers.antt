use Rattle.lab_move_write.proofs.Whole.{kinds_made}
use Rattle.lab_move_write.proofs.Turns.{made_then, turn_fails}
use Rattle.lab_move_write.proofs.kinds.add_kinds.Goals as goal

pub returns-in_err-add_people : goal.returns-in_err-add_people
returns-in_err-add_people g c = turn_fails c.in_err-add_people.ensures c.from_residual.result c.from_residual.ensures.1

pub returns-in_err-add_sessions : goal.returns-in_err-add_sessions
returns-in_err-add_sessions g c =
    turn_fails (made_then c.args.row.id c.in_ok-add_people.ensures c.in_err-add_sessions.ensures)
    c.from_residual-in_err-add_sessions.result c.from_residual-in_err-add_sessions.ensures.1

pub returns-in_err-add_forms : goal.returns-in_err-add_forms
returns-in_err-add_forms g c =
    turn_fails (made_then c.args.row.id (made_then c.args.row.id c.in_ok-add_people.ensures c.in_ok-add_sessions.ensures) c.in_err-add_forms.ensures)
    c.from_residual-in_err-add_forms.result c.from_residual-in_err-add_forms.ensures.1

pub returns : goal.returns
returns g c =
    kinds_made c.args.lab.now c.as_slice.result.now c.as_slice-2.result.now c.as_slice-3.result.now c.as_slice-4.result.now c.as_slice-5.result.now
    c.as_slice.ensures c.as_slice-2.ensures c.as_slice-3.ensures c.as_slice-4.ensures c.as_slice-5.ensures c.args.row.id
    c.in_ok-add_people.ensures c.in_ok-add_sessions.ensures c.in_ok-add_forms.ensures c.add_work.ensures
