use Rattle.lab_records_copy_out.specs.Legible.{IsLegibleSignature}
use Rattle.lab_records_copy_out.proofs.EachLemmas.{each_more}
use Rattle.lab_records_copy_out.proofs.legible.signatures_are_legible.Goals as goal

pub loop-signature-preserved : goal.loop-signature-preserved
loop-signature-preserved c =
    each_more IsLegibleSignature c.args.signatures.now c.loop-signature.signature-index c.signature-item.result c.loop-signature-test.true c.signature-item.is
    c.signature_is_legible.ensures c.loop-signature.invariant
