use Rattle.std.proofs.Common.{◌≡◌}
use Rattle.lab_seal_hashes.specs.Pbkdf2.{round_bytes, pbkdf2_block}
use Rattle.lab_seal_hashes.proofs.stretching.pbkdf2.Given as goal

abbrev pub invariant-rounds : goal.invariant-rounds
invariant-rounds l = record {
  tag : l.tag ≡ round_bytes l.password l.salt l.round;
  sum : l.sum ≡ pbkdf2_block l.password l.salt l.round;
}
