use Rattle.std.proofs.Common.{inl, refl}
use Rattle.std.proofs.lemmas.Result.{err_from_is_err_and}
use Rattle.sqlite.specs.Held.{state}
use Rattle.lab_store_tables.specs.Ready.{tables_of}
use Rattle.lab_move_tables.proofs.OldReaders.{by_schema, may_end}
use Rattle.lab_move.proofs.AllLabs.{all_counted, all_filled, all_blamed}
use Rattle.lab_move.proofs.CountedFiles.{counted_since}
use Rattle.lab_move.proofs.OldVerdicts.{of_store}
use Rattle.lab_move.proofs.Steps.{nothing_by_steps}
use Rattle.lab_move.proofs.RefusedLabs.{stops_of, told_storage}
use Rattle.lab_move.proofs.filling.fill.Goals as goal

pub returns-clause-reads : goal.returns-clause-reads
returns-clause-reads g c =
    all_counted c.in_ok-codes.codes (g.D.Readable.state c.args.old.now) (g.D.Readable.state c.codes.new.conn) (g.D.Readable.state c.move_all.new.old)
    (by_schema c.in_ok-codes.ensures.reads) (rw c.as_slice.ensures at c.move_all.ensures.reads)

pub returns-clause-fills : goal.returns-clause-fills
returns-clause-fills g c =
    all_filled c.in_ok-codes.codes (g.D.Readable.state c.args.old.now) (g.D.Readable.state c.codes.new.conn) (g.D.Readable.state c.move_all.new.old) (by_schema c.in_ok-codes.ensures.reads)
    c.move_all.ensures.reads.passes.clean c.move_all.result (rw c.as_slice.ensures at c.move_all.ensures.fills)

pub returns-clause-counted : goal.returns-clause-counted
returns-clause-counted g c clean late opened begun =
    let before = g.D.Readable.state c.args.old.now in
    let mid = g.D.Readable.state c.codes.new.conn in
    counted_since c.move_all.result before.now mid.now (tables_of (state g.T.Store c.move_all.new.new)) (c.in_ok-codes.ensures.reads.shows (c.move_all.ensures.reads.passes.clean clean))
    (c.move_all.ensures.counted clean late opened begun)

pub returns-clause-fault : goal.returns-clause-fault
returns-clause-fault g c =
    all_blamed c.in_ok-codes.codes (g.D.Readable.state c.args.old.now) (g.D.Readable.state c.codes.new.conn) (g.D.Readable.state c.move_all.new.old) (by_schema c.in_ok-codes.ensures.reads)
    c.move_all.ensures.reads.passes.clean c.move_all.result (rw c.as_slice.ensures at c.move_all.ensures.fault)

pub returns-in_err-codes-clause-reads : goal.returns-in_err-codes-clause-reads
returns-in_err-codes-clause-reads g c = may_end (by_schema c.in_err-codes.ensures.reads) c.from_residual.result _ c.from_residual.ensures.1

pub returns-in_err-codes-clause-fills : goal.returns-in_err-codes-clause-fills
returns-in_err-codes-clause-fills g c =
    let failed = err_from_is_err_and c.from_residual.result c.from_residual.ensures.1 in
    rw failed.1 (nothing_by_steps _ (state g.T.Store c.args.new.now) c.requires.at_rest)

pub returns-in_err-codes-clause-fault : goal.returns-in_err-codes-clause-fault
returns-in_err-codes-clause-fault g c =
    let failed = err_from_is_err_and c.from_residual.result c.from_residual.ensures.1 in
    rw (failed.1, failed.2) (of_store c.in_err-codes.field-0.0)

pub returns-clause-cause : goal.returns-clause-cause
returns-clause-cause g c read begun clean =
    stops_of g.D.Readable.state g.T.Store c.args.older c.in_ok-codes.codes c.args.old.now c.codes.new.conn c.move_all.new.old c.args.new.now c.args.new.now c.move_all.new.new (by_schema c.in_ok-codes.ensures.reads) c.move_all.result
    (rw c.as_slice.ensures at (c.move_all.ensures.cause read begun clean))

pub returns-in_err-codes-clause-cause : goal.returns-in_err-codes-clause-cause
returns-in_err-codes-clause-cause g c read begun clean =
    let failed = err_from_is_err_and c.from_residual.result c.from_residual.ensures.1 in
    rw (failed.1, failed.2) (λ told. inl (
      λ t file readable. c.in_err-codes.ensures.cause t (c.args.older, file) readable read (told_storage c.in_err-codes.field-0.0 _ refl told),
      λ late opened. refl,
    ))
