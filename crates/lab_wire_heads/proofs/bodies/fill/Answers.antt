use Rattle.std.proofs.Common.{rules, arith}
use Rattle.lab_wire_heads.proofs.GivenLemmas.{came_none, came_more}
use Rattle.lab_wire_heads.proofs.bodies.fill.Goals as goal

pub loop-end-init : goal.loop-end-init
loop-end-init g c = record { within = c.requires; came = came_none _ _; asks = omega arith }

pub loop-end-preserved : goal.loop-end-preserved
loop-end-preserved g c =
    record {
      within = search rules;
      came = came_more _ _ _ _ c.loop-end.end _ c.in_ok-count.count c.loop-end.bytes
          c.read_some.new.buffer c.loop-end.invariant.within
          c.in_ok-count.ensures.bound.0 c.loop-end.invariant.came c.in_ok-count.ensures.bytes.0;
      asks = search rules;
    }
