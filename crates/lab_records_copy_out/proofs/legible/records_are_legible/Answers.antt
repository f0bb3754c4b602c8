use Rattle.std.proofs.Common.{arith}
use Rattle.lab_records_copy_out.specs.Legible.{IsLegibleRecord}
use Rattle.lab_records_copy_out.proofs.EachLemmas.{each_more, each_of}
use Rattle.lab_records_copy_out.proofs.legible.records_are_legible.Goals as goal

pub loop-kept-preserved : goal.loop-kept-preserved
loop-kept-preserved c =
    each_more IsLegibleRecord c.args.records.now c.loop-kept.kept-index c.kept-item.result c.loop-kept-test.true c.kept-item.is
    c.record_is_legible.ensures c.loop-kept.invariant

pub returns : goal.returns
returns c = each_of IsLegibleRecord c.args.records.now c.loop-kept.kept-index (omega (arith, c.loop-kept-test.false)) c.loop-kept.invariant
