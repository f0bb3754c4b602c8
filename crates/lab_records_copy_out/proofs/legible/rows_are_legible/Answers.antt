use Rattle.lab_seal_versions.specs.Versions.{IsRow}
use Rattle.lab_records_copy_out.proofs.EachLemmas.{each_more}
use Rattle.lab_records_copy_out.proofs.legible.rows_are_legible.Goals as goal

pub loop-row-preserved : goal.loop-row-preserved
loop-row-preserved c =
    each_more IsRow c.args.rows.now c.loop-row.row-index c.row-item.result c.loop-row-test.true c.row-item.is
    c.row_is_legible.ensures c.loop-row.invariant
