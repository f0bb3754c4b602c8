use Rattle.std.proofs.Common.{◌≡◌, ◌*◌, take}
use Rattle.lab_seal_hashes.specs.Words.{big_endian}
use Rattle.lab_seal_hashes.proofs.words.write_words.Given as goal

abbrev pub invariant-loop-i : goal.invariant-loop-i
invariant-loop-i l = take (8 * l.i) l.bytes ≡ big_endian (take l.i l.words)
