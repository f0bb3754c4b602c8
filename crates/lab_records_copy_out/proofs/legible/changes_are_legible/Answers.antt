use Rattle.lab_records_copy_out.specs.Legible.{IsLegibleChange}
use Rattle.lab_records_copy_out.proofs.EachLemmas.{each_more_of}
use Rattle.lab_records_copy_out.proofs.legible.changes_are_legible.Goals as goal

pub loop-change-preserved : goal.loop-change-preserved
loop-change-preserved c =
    each_more_of IsLegibleChange c.args.changes.now _ c.loop-change.change-index c.change-item.result c.as_slice-change-items.ensures c.loop-change-test.true
    c.change-item.is c.change_is_legible.ensures c.loop-change.invariant
