use Rattle.std.proofs.Common.{rules}
use Rattle.lab_program_replay.proofs.ReadLemmas.{Consumes-put_more}
use Rattle.lab_program_replay.proofs.event.fill.Goals as goal

pub loop-filled-preserved : goal.loop-filled-preserved
loop-filled-preserved g c = (
  search rules,
  Consumes-put_more _ _ _ c.loop-filled.filled _ c.in_ok-read.read c.loop-filled.buffer
      c.read.new.buf c.loop-filled.invariant.0
      c.in_ok-read.ensures.bound.0 c.loop-filled.invariant.1 c.in_ok-read.ensures.bytes.0,
)
