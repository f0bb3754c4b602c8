-- each of the first is legible
use Rattle.std.proofs.Common.{take}
use Rattle.std.specs.Prelude.{All}
use Rattle.lab_records_copy_out.specs.Legible.{IsLegibleSignature}
use Rattle.lab_records_copy_out.proofs.legible.signatures_are_legible.Given as goal

abbrev pub invariant-loop-signature : goal.invariant-loop-signature
invariant-loop-signature l = All IsLegibleSignature (take l.signature-index l.signatures)
