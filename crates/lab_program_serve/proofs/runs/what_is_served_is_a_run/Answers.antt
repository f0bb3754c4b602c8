use Rattle.lab_program_serve.proofs.runs.what_is_served_is_a_run.Goals as goal
use Rattle.lab_program_serve.proofs.RunLemmas.{served_run}

pub returns : goal.returns
returns g c = served_run g.S.Keeper
