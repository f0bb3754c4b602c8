use Rattle.std.proofs.Common.{inl}
use Rattle.std.proofs.lemmas.Result.{err_from_is_err_and}
use Rattle.sqlite.specs.Held.{state}
use Rattle.lab_store_tables.specs.Ready.{tables_of}
use Rattle.lab_move_tables.proofs.OldReaders.{by_schema, may_end}
use Rattle.lab_move.proofs.OneLab.{errs_as}
use Rattle.lab_move.proofs.AllLabs.{counted, finishes_all, all_later, fails_all}
use Rattle.lab_move.proofs.CountedFiles.{counted_since, filling_of}
use Rattle.lab_move.proofs.RefusedLabs.{ours_filled, stops_behind}
use Rattle.lab_move.proofs.filling.move_all.Goals as goal

pub returns-clause-reads : goal.returns-clause-reads
returns-clause-reads g c = counted c.args.codes.now c.in_ok-move_each.ensures.reads (by_schema c.finish_compared.ensures.reads)

pub returns-clause-fills : goal.returns-clause-fills
returns-clause-fills g c =
    all_later c.args.codes.now c.finish_compared.result c.finish_compared.ensures.reads.passes.clean
    (finishes_all c.args.codes.now c.in_ok-move_each.ensures.fills c.finish_compared.ensures.finished)

pub returns-clause-counted : goal.returns-clause-counted
returns-clause-counted g c clean late opened begun =
    let before = g.D.Readable.state c.args.old.now in
    let mid = g.D.Readable.state c.move_each.new.old in
    let new = state g.T.Store c.finish_compared.new.new in
    let early = c.finish_compared.ensures.finished.once.clean late in
    counted_since c.finish_compared.result before.now mid.now (tables_of new) (c.in_ok-move_each.ensures.reads.shows (c.finish_compared.ensures.reads.passes.clean clean))
    (c.finish_compared.ensures.counted clean late (filling_of c.args.codes.now c.in_ok-move_each.ensures.fills early opened begun))

pub returns-clause-fault : goal.returns-clause-fault
returns-clause-fault g c = errs_as c.finish_compared.result (λ one none. absurd none) c.finish_compared.ensures.fault

pub returns-in_err-move_each-clause-reads : goal.returns-in_err-move_each-clause-reads
returns-in_err-move_each-clause-reads g c = may_end c.in_err-move_each.ensures.reads c.from_residual.result _ c.from_residual.ensures.1

pub returns-in_err-move_each-clause-fills : goal.returns-in_err-move_each-clause-fills
returns-in_err-move_each-clause-fills g c =
    let failed = err_from_is_err_and c.from_residual.result c.from_residual.ensures.1 in
    rw failed.1 (fails_all c.args.codes.now _ c.in_err-move_each.ensures.fills)

pub returns-in_err-move_each-clause-fault : goal.returns-in_err-move_each-clause-fault
returns-in_err-move_each-clause-fault g c =
    let failed = err_from_is_err_and c.from_residual.result c.from_residual.ensures.1 in
    rw (failed.1, failed.2) c.in_err-move_each.ensures.fault

pub finish_compared-requires : goal.finish_compared-requires
finish_compared-requires g c = record { at_rest = c.in_ok-move_each.ensures.fills.at_rest }

pub returns-clause-cause : goal.returns-clause-cause
returns-clause-cause g c read begun clean =
    stops_behind g.D.Readable.state g.T.Store c.args.older c.args.codes.now c.args.old.now c.move_each.new.old c.finish_compared.new.old c.args.new.now c.move_each.new.new c.finish_compared.new.new
    c.in_ok-move_each.ensures.reads c.in_ok-move_each.ensures.fills c.finish_compared.ensures.reads.passes c.finish_compared.ensures.finished.once.clean c.finish_compared.result c.finish_compared.ensures.finished.rows
    (c.finish_compared.ensures.cause read (ours_filled c.args.codes.now c.in_ok-move_each.ensures.fills begun) clean)

pub returns-in_err-move_each-clause-cause : goal.returns-in_err-move_each-clause-cause
returns-in_err-move_each-clause-cause g c read begun clean =
    let failed = err_from_is_err_and c.from_residual.result c.from_residual.ensures.1 in
    rw (failed.1, failed.2) (λ told. inl (c.in_err-move_each.ensures.cause read begun clean told))
