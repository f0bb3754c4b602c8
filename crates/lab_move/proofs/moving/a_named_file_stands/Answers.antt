use Rattle.lab_move.proofs.OldVerdicts.{named_stands}
use Rattle.lab_move.proofs.moving.a_named_file_stands.Goals as goal

pub returns : goal.returns
returns c = named_stands
