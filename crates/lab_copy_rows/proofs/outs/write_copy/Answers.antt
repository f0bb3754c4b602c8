use Rattle.std.proofs.Common.{arith}
use Rattle.std.proofs.KnownBytes.{Appends-nil}
use Rattle.std.proofs.lemmas.Result.{err_from_is_err_and}
use Rattle.lab_copy_rows.proofs.SendLemmas.{rows_went, rows_were_cut}
use Rattle.lab_copy_rows.proofs.outs.write_copy.Goals as goal

pub loop-sent-init : goal.loop-sent-init
loop-sent-init g c = record { within = omega arith; text = Appends-nil _ }

pub loop-sent-preserved : goal.loop-sent-preserved
loop-sent-preserved g c = record {
  within = c.next_stop-next.ensures.within;
  text = rows_went _ _ _ c.args.rows.now c.loop-sent.sent c.next_stop-next.result (omega arith)
      c.loop-sent.invariant.text c.in_ok-send_rows.ensures;
}

pub returns-in_err-send_rows-clause-text : goal.returns-in_err-send_rows-clause-text
returns-in_err-send_rows-clause-text g c =
    let failed = err_from_is_err_and c.from_residual.result c.from_residual.ensures.1 in
    rw failed.1 (rows_were_cut _ _ _ c.args.rows.now c.loop-sent.sent c.next_stop-next.result
    (omega arith) c.loop-sent.invariant.text c.in_err-send_rows.ensures)
