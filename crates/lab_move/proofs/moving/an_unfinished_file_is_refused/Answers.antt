use Rattle.lab_move.proofs.Ends.{filling_refused, empty_refused}
use Rattle.lab_move.proofs.moving.an_unfinished_file_is_refused.Goals as goal

pub returns : goal.returns
returns g c = record { filling = filling_refused g.S.Store; blank = empty_refused g.S.Store }
