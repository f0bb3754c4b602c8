use Rattle.std.proofs.Common.{subst, IfSome}
use Rattle.lab_store_tables.specs.Ready.{tables_of}
use Rattle.lab_store_load.specs.Counts.{IsCounted}
use Rattle.lab_store_load.proofs.Counting.{may_as}
use Rattle.lab_store_load.proofs.counts.lab_id_at.Goals as goal

pub returns-in-Some-clause-reads : goal.returns-in-Some-clause-reads
returns-in-Some-clause-reads g c =
    let t = tables_of (g.D.Readable.state c.args.conn.now) in
    may_as c.lab_id_after.ensures.reads (λ id is right. is (subst (λ o. IfSome o (IsCounted t)) c.in-Some.is right))
