use Rattle.std.proofs.Common.{◌∙◌, ap}
use Rattle.lab_store_tables.specs.Ready.{tables_of}
use Rattle.lab_store_read.proofs.Causes.{passed_on, then_so}
use Rattle.lab_store_read.proofs.Readers.{may_end, may_then}
use Rattle.lab_store_load.specs.Private.Parts.{slice_counted}
use Rattle.lab_store_load.proofs.loading.slice_at.Goals as goal

pub returns-in_err-counts-clause-reads : goal.returns-in_err-counts-clause-reads
returns-in_err-counts-clause-reads g c = may_end c.in_err-counts.ensures.reads c.from_residual.result _ c.from_residual.ensures.1

pub returns-in_err-counts-clause-cause : goal.returns-in_err-counts-clause-cause
returns-in_err-counts-clause-cause g c = passed_on c.in_err-counts.ensures.cause (λ there. tt) c.from_residual.result c.from_residual.ensures.1

pub returns-clause-reads : goal.returns-clause-reads
returns-clause-reads g c =
    let t = tables_of (g.D.Readable.state c.args.conn.now) in
    may_then c.in_ok-counts.ensures.reads c.slice_counted.ensures.reads
    (λ counts slice is right. is ∙ ap (slice_counted t c.args.need.now c.args.head) (counts right))

pub returns-clause-cause : goal.returns-clause-cause
returns-clause-cause g c =
    then_so c.in_ok-counts.ensures.reads c.in_ok-counts.ensures.cause.limit c.slice_counted.ensures.reads c.slice_counted.ensures.cause (λ counts there. there)
