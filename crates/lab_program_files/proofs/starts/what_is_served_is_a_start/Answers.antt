use Rattle.lab_program_files.proofs.starts.what_is_served_is_a_start.Goals as goal
use Rattle.lab_program_files.proofs.StartLemmas.{served_over}

pub returns : goal.returns
returns g c = served_over g.S.Store
