use Rattle.lab_move_write.proofs.placing_laws.a_laboratory_is_placed.Goals as goal
use Rattle.lab_move_write.proofs.LabPlaced.{lab_is_placed, rows_are_placed}

pub returns-clause-placed : goal.returns-clause-placed
returns-clause-placed c = λ old new lab rising well it within bound dual. (lab_is_placed old new lab rising well it within bound dual).0

pub returns-clause-kept : goal.returns-clause-kept
returns-clause-kept c = λ old new lab rising well it within bound dual. (lab_is_placed old new lab rising well it within bound dual).1

pub returns-clause-rows : goal.returns-clause-rows
returns-clause-rows c = λ old new lab it. rows_are_placed old new lab it
