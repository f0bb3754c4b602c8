use Rattle.lab_move.proofs.OldVerdicts.{exact_named, peer_named}
use Rattle.lab_move.proofs.moving.an_exact_file_is_named.Goals as goal

pub returns : goal.returns
returns c = record { exact = exact_named; peer = peer_named }
