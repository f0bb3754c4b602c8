use Rattle.std.proofs.Common.{◌≡◌, inl, sym, subst}
use Rattle.std.proofs.lemmas.Result.{err_from_is_err_and}
use Rattle.sqlite.specs.Effect.{Database}
use Rattle.sqlite.specs.Held.{state}
use Rattle.lab_store_tables.specs.Held.{IsTyped}
use Rattle.lab_store_tables.specs.Rows.{tables_in}
use Rattle.lab_store_files.specs.declared.faults.FileFault.TheVariants.{Storage}
use Rattle.lab_move_tables.proofs.OldReaders.{may_and, may_end}
use Rattle.lab_move.specs.Counting.{HasAsMany}
use Rattle.lab_move.proofs.CountedFiles.{finishes_then, fails_then, named_counted}
use Rattle.lab_move.proofs.Matching.{unnamed_by}
use Rattle.lab_move.proofs.filling.finish_compared.Goals as goal

pub finish_with-requires : goal.finish_with-requires
finish_with-requires g c = record { at_rest = c.in_ok-compare_counts.ensures.passes.passes.at_rest c.requires.at_rest }

pub returns-clause-reads : goal.returns-clause-reads
returns-clause-reads g c = may_and c.in_ok-compare_counts.ensures.reads (λ t file it. c.finish_with.ensures.count)

pub returns-clause-finished : goal.returns-clause-finished
returns-clause-finished g c = finishes_then c.in_ok-compare_counts.ensures.passes c.finish_with.result c.finish_with.ensures.finished

pub returns-clause-counted : goal.returns-clause-counted
returns-clause-counted g c clean late filling =
    let old = state g.T.Store c.args.new.now in
    let mid = state g.T.Store c.compare_counts.new.new in
    let new = state g.T.Store c.finish_with.new.new in
    let before = g.D.Readable.state c.args.old.now in
    let early = c.finish_with.ensures.named.once.clean late in
    let same = c.in_ok-compare_counts.ensures.passes.shows early in
    named_counted before.now c.finish_with.result late (subst IsTyped (sym same) filling.typed)
    (subst (λ (db : Database). HasAsMany before.now (tables_in db.trees)) (sym same) (c.in_ok-compare_counts.ensures.counted clean early filling.typed)) c.finish_with.ensures.named

pub returns-in_err-compare_counts-clause-reads : goal.returns-in_err-compare_counts-clause-reads
returns-in_err-compare_counts-clause-reads g c = may_end c.in_err-compare_counts.ensures.reads c.from_residual.result _ c.from_residual.ensures.1

pub returns-in_err-compare_counts-clause-finished : goal.returns-in_err-compare_counts-clause-finished
returns-in_err-compare_counts-clause-finished g c =
    let failed = err_from_is_err_and c.from_residual.result c.from_residual.ensures.1 in
    rw failed.1 (fails_then c.requires.at_rest c.in_err-compare_counts.ensures.passes)

pub returns-in_err-compare_counts-clause-fault : goal.returns-in_err-compare_counts-clause-fault
returns-in_err-compare_counts-clause-fault g c =
    let failed = err_from_is_err_and c.from_residual.result c.from_residual.ensures.1 in
    rw (failed.1, failed.2) c.in_err-compare_counts.ensures.fault

pub returns-clause-cause : goal.returns-clause-cause
returns-clause-cause g c clean ours late =
    unnamed_by g.T.Store (g.D.Readable.state c.args.old.now) (g.D.Readable.state c.compare_counts.new.old) c.args.new.now c.compare_counts.new.new c.finish_with.new.new c.in_ok-compare_counts.ensures.passes c.finish_with.ensures.finished.once.clean c.finish_with.result
    (c.finish_with.ensures.cause late)

pub returns-in_err-compare_counts-clause-cause : goal.returns-in_err-compare_counts-clause-cause
returns-in_err-compare_counts-clause-cause g c clean ours late =
    let failed = err_from_is_err_and c.from_residual.result c.from_residual.ensures.1 in
    rw (failed.1, failed.2) (λ told. inl (c.in_err-compare_counts.ensures.cause clean late ours (let same : c.in_err-compare_counts.field-0.0 ≡ Storage = cc in same)))
