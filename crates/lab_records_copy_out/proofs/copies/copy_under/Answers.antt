-- The text is how the copy begins, the records and its end; a fault cuts it within one of these.
use Rattle.std.proofs.Common.{subst}
use Rattle.std.specs.Io.KnownBytes.{Appends}
use Rattle.std.proofs.lemmas.Result.{err_from_is_err_and}
use Rattle.lab_copy_rows.specs.Outs.{AppendsFront}
use Rattle.lab_records_copy_out.proofs.OutLemmas.{ended}
use Rattle.lab_records_copy_out.proofs.ReadLemmas.{shuts_none}
use Rattle.lab_records_copy_out.proofs.TextLemmas.{cut_at_end, cut_at_start, cut_in_records, went_whole}
use Rattle.lab_records_copy_out.proofs.copies.copy_under.Goals as goal

pub returns-in_err-out-clause-text : goal.returns-in_err-out-clause-text
returns-in_err-out-clause-text g c = λ live few honest reached.
    let failed = err_from_is_err_and c.from_residual.result c.from_residual.ensures.1 in
    rw failed.1 (cut_at_start c.args.line _ _ _ c.in_err-out.ensures.text)

pub returns-in_err-give_records-clause-text : goal.returns-in_err-give_records-clause-text
returns-in_err-give_records-clause-text g c = λ live few honest reached.
    let failed = err_from_is_err_and c.from_residual-in_err-give_records.result
    c.from_residual-in_err-give_records.ensures.1 in
    rw failed.1 (cut_in_records c.args.line _ _ _ _ c.in_ok-out.ensures.text
    (c.in_err-give_records.ensures.text live honest reached))

pub returns-in_err-finish-clause-text : goal.returns-in_err-finish-clause-text
returns-in_err-finish-clause-text g c = λ live few honest reached.
    let failed = err_from_is_err_and c.from_residual-in_err-finish.result
    c.from_residual-in_err-finish.ensures.1 in
    let end = ended c.args.line _ c.in_ok-out.out c.give_records.new.out c.in_ok-out.ensures.fresh
    (c.in_ok-give_records.ensures.counts live honest reached) few in
    rw failed.1 (cut_at_end c.args.line _ _ _ _ _ c.in_ok-out.ensures.text
    (c.in_ok-give_records.ensures.text live honest reached)
    (subst (AppendsFront (g.W.Write.contents c.give_records.new.writer)
    (g.W.Write.contents c.finish.new.writer)) end c.in_err-finish.ensures.text))

pub returns-clause-text : goal.returns-clause-text
returns-clause-text g c = λ live few honest reached.
    let end = ended c.args.line _ c.in_ok-out.out c.give_records.new.out c.in_ok-out.ensures.fresh
    (c.in_ok-give_records.ensures.counts live honest reached) few in
    went_whole c.args.line _ _ _ _ _ c.in_ok-out.ensures.text
    (c.in_ok-give_records.ensures.text live honest reached)
    (subst (Appends (g.W.Write.contents c.give_records.new.writer)
    (g.W.Write.contents c.finish.new.writer)) end c.in_ok-finish.ensures.text)

pub returns-in_err-out-clause-shuts : goal.returns-in_err-out-clause-shuts
returns-in_err-out-clause-shuts g c = shuts_none (g.S.Keeper.world c.args.keeper.now)
