use Rattle.lab_program_files.proofs.histories.a_history_begins.Goals as goal
use Rattle.lab_program_files.proofs.HistoryLemmas.{begins_new}

pub returns : goal.returns
returns g c = begins_new
