use Rattle.lab_program_files.proofs.histories.what_a_task_does_is_a_run.Goals as goal
use Rattle.lab_program_files.proofs.HistoryLemmas.{work_run}

pub returns : goal.returns
returns g c = work_run
