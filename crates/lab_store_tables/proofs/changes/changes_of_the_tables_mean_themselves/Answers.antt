use Rattle.lab_store_tables.proofs.changes.changes_of_the_tables_mean_themselves.Goals as goal
use Rattle.lab_store_tables.proofs.AllChanges.{rows_changed}

pub returns-clause-changed : goal.returns-clause-changed
returns-clause-changed c = λ old new code changes rising well fit it. (rows_changed code changes old new rising well fit it).0

pub returns-clause-kept : goal.returns-clause-kept
returns-clause-kept c = λ old new code changes rising well fit it. (rows_changed code changes old new rising well fit it).1
