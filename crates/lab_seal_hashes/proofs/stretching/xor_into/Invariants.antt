use Rattle.std.proofs.Common.{◌≡◌, ◌<◌, ◌≤◌, ℕ, get_or, length}
use Rattle.std.specs.Prelude.{bit_xor}
use Rattle.lab_seal_hashes.proofs.stretching.xor_into.Given as goal

abbrev pub invariant-loop-i : goal.invariant-loop-i
invariant-loop-i l = record {
  long : length l.sum ≡ 32;
  done : (k : ℕ) → k < l.i → get_or l.sum k 0 ≡ bit_xor (get_or l.fn.sum k 0) (get_or l.tag k 0);
  left : (k : ℕ) → l.i ≤ k → get_or l.sum k 0 ≡ get_or l.fn.sum k 0;
}
