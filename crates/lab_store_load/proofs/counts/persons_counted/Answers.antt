use Rattle.std.proofs.Common.{w64, subst, IfSome}
use Rattle.std.proofs.lemmas.Int.{to_z-of_z}
use Rattle.lab_store_tables.specs.Ready.{tables_of}
use Rattle.lab_store_read.proofs.Readers.{may_read, reads_as}
use Rattle.lab_store_load.specs.Counts.{IsCounted}
use Rattle.lab_store_load.proofs.Counting.{may_as}
use Rattle.lab_store_load.proofs.counts.persons_counted.Goals as goal

pub returns-in-Some-clause-reads : goal.returns-in-Some-clause-reads
returns-in-Some-clause-reads g c =
    let t = tables_of (g.D.Readable.state c.args.conn.now) in
    may_as (rw (to_z-of_z w64 c.args.lab c.ranges.lab) at c.persons_after.ensures.reads)
    (λ persons is right. is (subst (λ o. IfSome o (IsCounted t)) c.in-Some.is right))

pub returns-in-None-clause-reads : goal.returns-in-None-clause-reads
returns-in-None-clause-reads g c =
    may_read (reads_as (rw (to_z-of_z w64 c.args.lab c.ranges.lab) at c.person_count.ensures.reads) (λ persons is right. is))
