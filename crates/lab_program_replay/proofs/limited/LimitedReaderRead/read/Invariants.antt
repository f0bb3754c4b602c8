use Rattle.std.proofs.Common.{◌≡◌, ◌≤◌}
use Rattle.std.specs.Io.KnownBytes.{Keeps}
use Rattle.lab_program_replay.proofs.limited.LimitedReaderRead.read.Given as goal

abbrev pub invariant-loop-self : goal.invariant-loop-self
invariant-loop-self g l =
    (l.self-inside.asks_left ≤ l.fn.self.asks_left)
    × Keeps (g.R.Read.remaining l.fn.self.reader) (g.R.Read.remaining l.self-inside.reader)
    × (l.fn.self.asks_left ≡ 0 → l.self-inside.reader ≡ l.fn.self.reader)

abbrev pub decreases-loop-self : goal.decreases-loop-self
decreases-loop-self g l = l.self-inside.asks_left
