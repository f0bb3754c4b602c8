use Rattle.lab_move.proofs.MoveOwed.{one_refusal}
use Rattle.lab_move.proofs.moving.one_refusal_is_owed.Goals as goal

pub returns : goal.returns
returns c = one_refusal
