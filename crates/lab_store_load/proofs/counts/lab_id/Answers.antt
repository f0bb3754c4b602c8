use Rattle.lab_store_read.proofs.Causes.{passed_so}
use Rattle.lab_store_load.proofs.counts.lab_id.Goals as goal

pub returns-in_err-found-clause-cause : goal.returns-in_err-found-clause-cause
returns-in_err-found-clause-cause g c = passed_so c.in_err-found.ensures.cause c.from_residual.result c.from_residual.ensures.1
