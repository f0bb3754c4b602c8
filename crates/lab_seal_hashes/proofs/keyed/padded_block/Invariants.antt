use Rattle.std.proofs.Common.{◌≡◌, ◌++◌, take, drop}
use Rattle.lab_seal_hashes.specs.Hmac.{xor_each}
use Rattle.lab_seal_hashes.proofs.keyed.padded_block.Given as goal

abbrev pub invariant-loop-byte : goal.invariant-loop-byte
invariant-loop-byte l = l.byte-items ≡ xor_each l.pad (take l.byte-index l.block) ++ drop l.byte-index l.block
