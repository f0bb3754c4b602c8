use Rattle.std.proofs.Common.{◌≡◌, inl, subst}
use Rattle.std.proofs.lemmas.Result.{err_from_is_err_and}
use Rattle.lab_store_read.specs.Cells.{storage}
use Rattle.lab_store_read.specs.Causes.{IsCaused}
use Rattle.sqlite.specs.Held.{state}
use Rattle.lab_store_tables.specs.Ready.{tables_of}
use Rattle.lab_store_read.proofs.Queries.{if_then}
use Rattle.lab_move_tables.proofs.OldReaders.{rows_read, may_and, may_end}
use Rattle.lab_move.specs.Counting.{AreAlike}
use Rattle.lab_move.proofs.Counts.{counts_read, counts_known, counts_by}
use Rattle.lab_move.proofs.OldVerdicts.{any_ok}
use Rattle.lab_move.proofs.Matching.{are_lacking, are_unlike, new_caused}
use Rattle.lab_move.proofs.counting.has_so_many.Goals as goal

pub returns-clause-reads : goal.returns-clause-reads
returns-clause-reads g c =
    may_and (rows_read {Answer = λ t rows. Unit {0}} counts_read c.in_ok-others.ensures (λ t file rows shown. tt)) (λ t file it. any_ok c.are_alike.result)

pub returns-clause-counted : goal.returns-clause-counted
returns-clause-counted g c clean typed =
    let old = state g.T.Store c.args.new.now in
    let new = state g.T.Store c.new_rows.new.new in
    let others = c.in_ok-others.others.items in
    if_then c.are_alike.result
    (λ yes same true. counts_by c.args.rows.now others (tables_of old) (counts_known old new others typed (c.in_ok-others.ensures.ok clean)) (subst (AreAlike c.args.rows.now) c.deref.ensures.value (same true)))
    c.are_alike.ensures.alike

pub returns-in_err-others-clause-reads : goal.returns-in_err-others-clause-reads
returns-in_err-others-clause-reads g c =
    may_end (rows_read {Answer = λ t rows. Unit {0}} counts_read c.in_err-others.ensures (λ t file rows shown. tt)) c.from_residual.result _ c.from_residual.ensures.1

pub returns-clause-unlike : goal.returns-clause-unlike
returns-clause-unlike g c clean ours =
    are_unlike (state g.T.Store c.args.new.now) (state g.T.Store c.new_rows.new.new) c.in_ok-others.others c.in_ok-others.ensures clean ours c.args.rows.now c.are_alike.result
    (rw c.deref.ensures.value at c.are_alike.ensures.unlike)

pub returns-clause-cause : goal.returns-clause-cause
returns-clause-cause g c clean ours =
    let old = state g.T.Store c.args.new.now in
    let new = state g.T.Store c.new_rows.new.new in
    are_lacking old new c.in_ok-others.others c.in_ok-others.ensures clean ours c.args.rows.now (λ fault. fault ≡ storage) (IsCaused old new) c.are_alike.result
    (rw c.deref.ensures.value at c.are_alike.ensures.fault)

pub returns-in_err-others-clause-cause : goal.returns-in_err-others-clause-cause
returns-in_err-others-clause-cause g c clean ours =
    let failed = err_from_is_err_and c.from_residual.result c.from_residual.ensures.1 in
    rw (failed.1, failed.2) (λ told. inl (new_caused (state g.T.Store c.args.new.now) (state g.T.Store c.new_rows.new.new) c.in_err-others.field-0.0 c.in_err-others.ensures clean ours told))
