use Rattle.std.proofs.Common.{arith}
use Rattle.lab_copy_rows.proofs.SendLemmas.{row_counted}
use Rattle.lab_copy_rows.proofs.outs.CopyOut.count_all.Goals as goal

pub loop-row-preserved : goal.loop-row-preserved
loop-row-preserved c =
    row_counted _ _ _ c.args.rows.now c.loop-row.row-index _ (omega arith) c.row-item.is
    c.loop-row.invariant c.count.ensures
