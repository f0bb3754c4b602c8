use Rattle.std.proofs.Common.{◌∙◌, ap, sym, subst, option_map, IfSome}
use Rattle.lab_store_tables.specs.Ready.{tables_of}
use Rattle.lab_store_read.proofs.Causes.{passed_on, then_so}
use Rattle.lab_store_read.proofs.Readers.{may_read, reads_fail, reads_then}
use Rattle.lab_store_load.specs.Counts.{IsCounted}
use Rattle.lab_store_load.specs.Private.Parts.{slice_by}
use Rattle.lab_store_load.specs.Readable.{HasSlice}
use Rattle.lab_store_load.proofs.Loaded.{loaded}
use Rattle.lab_store_load.proofs.loading.load.Goals as goal

pub returns-in_err-head-clause-reads : goal.returns-in_err-head-clause-reads
returns-in_err-head-clause-reads g c = reads_fail c.in_err-head.ensures.reads c.from_residual.result _ c.from_residual.ensures.1

pub returns-in_err-head-clause-cause : goal.returns-in_err-head-clause-cause
returns-in_err-head-clause-cause g c = passed_on c.in_err-head.ensures.cause (λ there. there.lab) c.from_residual.result c.from_residual.ensures.1

pub returns-clause-reads : goal.returns-clause-reads
returns-clause-reads g c =
    let t = tables_of (g.D.Readable.state c.args.conn.now) in
    let need = c.args.need.now in
    reads_then c.in_ok-head.ensures.reads c.slice_if.ensures.reads
    (λ kept found slice is right.
    let it = is (subst (λ o. IfSome o (IsCounted t)) (sym c.take-before.ensures.value) right) found in
    (it.0 ∙ ap (option_map (slice_by t need)) found ∙ loaded t kept.rows need c.args.code.now, it.1))

pub returns-clause-cause : goal.returns-clause-cause
returns-clause-cause g c =
    let t = tables_of (g.D.Readable.state c.args.conn.now) in
    then_so (may_read c.in_ok-head.ensures.reads) c.in_ok-head.ensures.cause.limit c.slice_if.ensures.reads c.slice_if.ensures.cause
    (λ found there. subst (λ o. IfSome o (λ one. HasSlice t one c.args.need.now)) (sym found) there.parts)
