use Rattle.std.proofs.Common.{w64}
use Rattle.std.proofs.lemmas.Int.{to_z-of_z}
use Rattle.lab_store_read.proofs.Readers.{may_read, reads_as}
use Rattle.lab_store_load.proofs.counts.persons_after.Goals as goal

pub returns-clause-reads : goal.returns-clause-reads
returns-clause-reads g c =
    may_read (reads_as (rw (to_z-of_z w64 c.args.lab c.ranges.lab) at c.person_count.ensures.reads) (λ persons is right. is))
