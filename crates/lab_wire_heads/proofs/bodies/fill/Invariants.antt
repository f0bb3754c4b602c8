-- behind the place where it began, all bytes so far came from the reader
use Rattle.std.proofs.Common.{◌+◌, ◌-◌, ◌≤◌, length, take}
use Rattle.lab_wire_heads.specs.Private.Reading.{CameBehind}
use Rattle.lab_wire_heads.proofs.bodies.fill.Given as goal

abbrev pub invariant-loop-end : goal.invariant-loop-end
invariant-loop-end g l =
    record {
      within : l.end ≤ length l.bytes;
      came : CameBehind (take l.fn.start l.fn.bytes) (take l.end l.bytes)
          (g.R.ByteSource.remaining l.fn.reader) (g.R.ByteSource.remaining l.reader);
      asks : g.R.ByteSource.asks l.reader + l.asks_left ≤ g.R.ByteSource.asks l.fn.reader + l.fn.asks_left;
    }

abbrev pub decreases-loop-end : goal.decreases-loop-end
decreases-loop-end g l = length l.bytes - l.end
