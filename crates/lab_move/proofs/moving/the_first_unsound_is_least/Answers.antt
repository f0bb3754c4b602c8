use Rattle.lab_move.proofs.FirstUnsound.{first_is_least, one_least, lesser_sound}
use Rattle.lab_move.proofs.moving.the_first_unsound_is_least.Goals as goal

pub returns : goal.returns
returns c = record { least = first_is_least; alone = one_least; before = lesser_sound }
