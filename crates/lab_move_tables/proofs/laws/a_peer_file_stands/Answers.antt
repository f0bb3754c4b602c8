use Rattle.lab_move_tables.proofs.Stands.{peer_stands}
use Rattle.lab_move_tables.proofs.laws.a_peer_file_stands.Goals as goal

pub returns : goal.returns
returns c = peer_stands
