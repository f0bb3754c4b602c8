-- those so far are the same
use Rattle.std.proofs.Common.{◌≡◌, ◌<◌, ℕ}
use Rattle.lab_move.specs.Counting.{cell}
use Rattle.lab_move.proofs.counting.are_alike.Given as goal

abbrev pub invariant-loop-at : goal.invariant-loop-at
invariant-loop-at l = (k : ℕ) → k < l.at → cell l.rows k ≡ cell l.others k
