use Rattle.std.proofs.Common.{subst, arith}
use Rattle.lab_copy_rows.specs.Private.Outs.{HasWritten}
use Rattle.lab_copy_rows.proofs.SendLemmas.{text_more}
use Rattle.lab_copy_rows.proofs.sending.put_rows.Goals as goal

pub loop-row-init : goal.loop-row-init
loop-row-init g c = λ fresh. fresh

pub loop-row-preserved : goal.loop-row-preserved
loop-row-preserved g c = λ fresh.
    subst (HasWritten (g.W.Write.contents) _)
    (text_more c.args.rows.now c.loop-row.row-index _ (omega arith) c.row-item.is)
    (c.in_ok-put_row.ensures _ (c.loop-row.invariant fresh))
