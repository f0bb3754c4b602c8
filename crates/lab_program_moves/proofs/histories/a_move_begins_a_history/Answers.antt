use Rattle.lab_program_moves.proofs.histories.a_move_begins_a_history.Goals as goal
use Rattle.lab_program_moves.proofs.MoveLemmas.{move_begins, move_begins_own}

pub returns : goal.returns
returns g c = record { own = move_begins_own; moved = move_begins }
