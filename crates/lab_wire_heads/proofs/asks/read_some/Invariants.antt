-- what the source has left stays as it was, and each ask costs one
use Rattle.std.proofs.Common.{◌≤◌, ◌+◌}
use Rattle.std.specs.Io.KnownBytes.{Keeps}
use Rattle.lab_wire_heads.proofs.asks.read_some.Given as goal

abbrev pub invariant-loop-asks_left : goal.invariant-loop-asks_left
invariant-loop-asks_left g l =
    (l.asks_left ≤ l.fn.asks_left)
    × (g.R.ByteSource.asks l.reader + l.asks_left ≤ g.R.ByteSource.asks l.fn.reader + l.fn.asks_left)
    × Keeps (g.R.ByteSource.remaining l.fn.reader) (g.R.ByteSource.remaining l.reader)

abbrev pub decreases-loop-asks_left : goal.decreases-loop-asks_left
decreases-loop-asks_left g l = l.asks_left
