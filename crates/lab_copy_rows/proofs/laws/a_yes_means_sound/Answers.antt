use Rattle.lab_copy_rows.proofs.SoundLemmas.{yes_means_sound}
use Rattle.lab_copy_rows.proofs.laws.a_yes_means_sound.Goals as goal

pub returns : goal.returns
returns c = yes_means_sound
