use Rattle.std.proofs.Common.{ap}
use Rattle.lab_store_read.proofs.Readers.{may_end, may_and}
use Rattle.lab_store_read_trail.proofs.TrailsFound.{told_with}
use Rattle.lab_store_read_trail.proofs.trails.told_whole.Goals as goal

pub returns-in_err-person-clause-reads : goal.returns-in_err-person-clause-reads
returns-in_err-person-clause-reads g c = may_end c.in_err-person.ensures.reads c.from_residual.result _ c.from_residual.ensures.1

pub returns-clause-reads : goal.returns-clause-reads
returns-clause-reads g c = may_and c.in_ok-person.ensures.reads (λ once are. let it = once are in (ap (told_with c.args.head) it.0, it.1))
