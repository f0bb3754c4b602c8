use Rattle.lab_program_files.proofs.starts.what_is_founded_is_a_start.Goals as goal
use Rattle.lab_program_files.proofs.StartLemmas.{founded_over}

pub returns : goal.returns
returns g c = founded_over g.S.Store
