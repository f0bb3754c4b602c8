use Rattle.lab_records_laws.proofs.runs.a_run_is_right.Goals as goal
use Rattle.lab_records_laws.proofs.RunLemmas.{run_releasing, run_within}

pub returns-clause-released : goal.returns-clause-released
returns-clause-released c = run_releasing

pub returns-clause-within : goal.returns-clause-within
returns-clause-within c = run_within
