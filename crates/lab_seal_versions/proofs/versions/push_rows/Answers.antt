use Rattle.std.proofs.Common.{arith}
use Rattle.lab_seal_versions.proofs.RowLemmas.{row_written}
use Rattle.lab_seal_versions.proofs.versions.push_rows.Goals as goal

pub loop-row-preserved : goal.loop-row-preserved
loop-row-preserved c =
    row_written c.args.text.now.items c.args.rows.now c.loop-row.row-index c.loop-row.text.items c.push_row.new.text.items c.row-item.result
    (omega arith) c.row-item.is c.in_ok-push_row.ensures.row c.in_ok-push_row.ensures.text c.loop-row.invariant
