-- the bytes so far were gone over, and the row isn't too long yet
use Rattle.std.proofs.Common.{◌≡◌, false}
use Rattle.lab_copy.specs.Fronts.{is_too_long, so_far}
use Rattle.lab_copy.proofs.PassLemmas.{Passes}
use Rattle.lab_copy.proofs.fronts.RowSoFar.pass.Given as goal

abbrev pub invariant-loop-at : goal.invariant-loop-at
invariant-loop-at l = record {
  short : is_too_long (so_far l.self) ≡ false;
  passed : Passes (so_far l.fn.self) l.bytes l.at (so_far l.self);
}
