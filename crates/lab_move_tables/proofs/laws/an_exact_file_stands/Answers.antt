use Rattle.lab_move_tables.proofs.Stands.{exact_stands}
use Rattle.lab_move_tables.proofs.laws.an_exact_file_stands.Goals as goal

pub returns : goal.returns
returns c = exact_stands
