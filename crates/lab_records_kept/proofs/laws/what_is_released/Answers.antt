use Rattle.lab_records_kept.proofs.laws.what_is_released.Goals as goal
use Rattle.lab_records_kept.proofs.ReleaseLemmas.{all_released}

pub returns : goal.returns
returns c = all_released
