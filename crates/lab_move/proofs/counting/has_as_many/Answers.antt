use Rattle.std.proofs.Common.{◌≡◌, inl, List, [], subst}
use Rattle.std.proofs.lemmas.Result.{err_from_is_err_and}
use Rattle.lab_store_read.specs.Cells.{storage}
use Rattle.sqlite.specs.Held.{state}
use Rattle.sqlite_value.specs.Order.{Row}
use Rattle.lab_store_tables.specs.Ready.{tables_of}
use Rattle.lab_store_read.proofs.Queries.{if_then}
use Rattle.lab_move_tables.proofs.OldReaders.{rows_read, may_and, may_end}
use Rattle.lab_move.specs.Counting.{AreCounts, counts_text}
use Rattle.lab_move_tables.proofs.Bare.{shows_of}
use Rattle.lab_move.proofs.Counts.{counts_read}
use Rattle.lab_move.proofs.OldVerdicts.{any_ok, none_asked}
use Rattle.lab_move.proofs.Matching.{counts_differ, unanswered, unmatched}
use Rattle.lab_move.proofs.counting.has_as_many.Goals as goal

pub returns-clause-reads : goal.returns-clause-reads
returns-clause-reads g c =
    may_and (rows_read {Answer = λ t rows. Unit {0}} counts_read c.in_ok-rows.ensures (λ t file rows shown. tt)) (λ t file it. any_ok c.has_so_many.result)

pub returns-clause-counted : goal.returns-clause-counted
returns-clause-counted g c clean late typed =
    let old = g.D.Readable.state c.args.old.now in
    let mid = g.D.Readable.state c.old_rows.new.old in
    let new = state g.T.Store c.args.new.now in
    let rows = c.in_ok-rows.rows.items in
    if_then c.has_so_many.result
    (λ yes same true. record { rows = rows; shown = shows_of counts_text counts_read [] old mid rows (c.in_ok-rows.ensures.ok clean); same = subst (λ (l : List Row). AreCounts l (tables_of new)) c.deref.ensures.value (same true) })
    (c.has_so_many.ensures.counted late typed)

pub returns-in_err-rows-clause-reads : goal.returns-in_err-rows-clause-reads
returns-in_err-rows-clause-reads g c =
    may_end (rows_read {Answer = λ t rows. Unit {0}} counts_read c.in_err-rows.ensures (λ t file rows shown. tt)) c.from_residual.result _ c.from_residual.ensures.1

pub returns-in_err-rows-clause-passes : goal.returns-in_err-rows-clause-passes
returns-in_err-rows-clause-passes g c =
    let failed = err_from_is_err_and c.from_residual.result c.from_residual.ensures.1 in
    rw failed.1 (none_asked _ (state g.T.Store c.args.new.now))

pub returns-clause-unlike : goal.returns-clause-unlike
returns-clause-unlike g c clean late ours =
    counts_differ g.T.Store (g.D.Readable.state c.args.old.now) (g.D.Readable.state c.old_rows.new.old) c.args.new.now c.has_so_many.new.new c.in_ok-rows.rows.items (c.in_ok-rows.ensures.ok clean) c.has_so_many.result
    (rw c.deref.ensures.value at (c.has_so_many.ensures.unlike late ours))

pub returns-clause-cause : goal.returns-clause-cause
returns-clause-cause g c clean late ours =
    unmatched g.T.Store (g.D.Readable.state c.args.old.now) (g.D.Readable.state c.old_rows.new.old) c.args.new.now c.has_so_many.new.new c.in_ok-rows.rows.items (c.in_ok-rows.ensures.ok clean) (λ fault. fault ≡ storage) c.has_so_many.result
    (rw c.deref.ensures.value at (c.has_so_many.ensures.cause late ours))

pub returns-in_err-rows-clause-cause : goal.returns-in_err-rows-clause-cause
returns-in_err-rows-clause-cause g c clean late ours =
    let failed = err_from_is_err_and c.from_residual.result c.from_residual.ensures.1 in
    rw (failed.1, failed.2) (λ told. inl (unanswered (g.D.Readable.state c.args.old.now) (g.D.Readable.state c.old_rows.new.old) c.in_err-rows.field-0.0 (c.in_err-rows.ensures.err clean) told))
