use Rattle.std.proofs.Common.{◌∙◌, ap}
use Rattle.lab_store_tables.specs.Ready.{tables_of}
use Rattle.lab_store_read.proofs.Causes.{passed_on, then_so}
use Rattle.lab_store_read.proofs.Readers.{may_then}
use Rattle.lab_store_load.specs.Private.Parts.{slice_with}
use Rattle.lab_store_load.proofs.loading.slice_counted.Goals as goal

pub returns-in_err-listed-clause-cause : goal.returns-in_err-listed-clause-cause
returns-in_err-listed-clause-cause g c = passed_on c.in_err-listed.ensures.cause (λ there. there.list) c.from_residual.result c.from_residual.ensures.1

pub returns-clause-reads : goal.returns-clause-reads
returns-clause-reads g c =
    let t = tables_of (g.D.Readable.state c.args.conn.now) in
    may_then c.in_ok-listed.ensures.reads c.slice_with.ensures.reads (λ listed slice is. is ∙ ap (slice_with t c.args.need.now c.args.head c.args.counts) listed)

pub returns-clause-cause : goal.returns-clause-cause
returns-clause-cause g c =
    then_so c.in_ok-listed.ensures.reads c.in_ok-listed.ensures.cause.limit c.slice_with.ensures.reads c.slice_with.ensures.cause (λ listed there. (there.people, there.things))
