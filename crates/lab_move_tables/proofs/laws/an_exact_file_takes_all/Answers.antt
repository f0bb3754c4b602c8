use Rattle.lab_move_tables.proofs.OldTaken.{exact_takes}
use Rattle.lab_move_tables.proofs.laws.an_exact_file_takes_all.Goals as goal

pub returns : goal.returns
returns c = exact_takes
