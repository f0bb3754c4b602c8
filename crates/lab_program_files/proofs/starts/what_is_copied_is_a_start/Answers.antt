use Rattle.lab_program_files.proofs.starts.what_is_copied_is_a_start.Goals as goal
use Rattle.lab_program_files.proofs.StartLemmas.{copied_over}

pub returns : goal.returns
returns g c = copied_over g.S.Store
