use Rattle.std.proofs.Common.{arith}
use Rattle.lab_seal_hashes.proofs.StretchingLemmas.{xor_bytes_from}
use Rattle.lab_seal_hashes.proofs.stretching.xor_into.Goals as goal

pub returns : goal.returns
returns c = xor_bytes_from c.args.sum.now c.args.tag.now _ (omega arith) (omega arith) (λ k below. c.loop-i.invariant.done k (omega arith))
