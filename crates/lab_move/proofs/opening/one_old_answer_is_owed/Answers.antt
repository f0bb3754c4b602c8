use Rattle.lab_move.proofs.OldOwed.{some_owed, one_owed}
use Rattle.lab_move.proofs.opening.one_old_answer_is_owed.Goals as goal

pub returns : goal.returns
returns c = record { some = some_owed; alone = one_owed }
