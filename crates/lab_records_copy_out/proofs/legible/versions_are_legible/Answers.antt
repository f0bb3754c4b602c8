use Rattle.std.proofs.Common.{arith}
use Rattle.lab_records_copy_out.specs.Legible.{IsLegibleVersion}
use Rattle.lab_records_copy_out.proofs.EachLemmas.{each_more, each_of}
use Rattle.lab_records_copy_out.proofs.legible.versions_are_legible.Goals as goal

pub loop-version-preserved : goal.loop-version-preserved
loop-version-preserved c =
    each_more IsLegibleVersion c.args.versions.now c.loop-version.version-index c.version-item.result c.loop-version-test.true c.version-item.is
    c.version_is_legible.ensures c.loop-version.invariant

pub returns : goal.returns
returns c =
    each_of IsLegibleVersion c.args.versions.now c.loop-version.version-index (omega (arith, c.loop-version-test.false)) c.loop-version.invariant
