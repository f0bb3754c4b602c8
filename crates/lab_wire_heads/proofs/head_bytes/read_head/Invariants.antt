-- the bytes so far came from the reader, and no head has ended in them
use Rattle.std.proofs.Common.{◌≡◌, ◌+◌, ◌-◌, ◌≤◌, false, length, take}
use Rattle.std.specs.Io.KnownBytes.{Consumes}
use Rattle.lab_wire_heads.specs.Heads.{head_limit}
use Rattle.lab_wire_heads.specs.Private.Stages.{has_ended}
use Rattle.lab_wire_heads.proofs.StageLemmas.{stage_of}
use Rattle.lab_wire_heads.proofs.head_bytes.read_head.Given as goal

abbrev pub invariant-loop-count : goal.invariant-loop-count
invariant-loop-count g l =
    record {
      within : l.count ≤ length l.room;
      size : length l.room ≡ head_limit;
      taken : Consumes (g.R.ByteSource.remaining l.fn.reader) (g.R.ByteSource.remaining l.reader) (take l.count l.room);
      stage : l.stage ≡ stage_of (take l.count l.room);
      before : has_ended l.stage ≡ false;
      asks : g.R.ByteSource.asks l.reader + l.asks_left ≤ g.R.ByteSource.asks l.fn.reader + l.fn.asks_left;
    }

abbrev pub decreases-loop-count : goal.decreases-loop-count
decreases-loop-count g l = length l.room - l.count
