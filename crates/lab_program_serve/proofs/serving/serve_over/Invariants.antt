use Rattle.std.proofs.Common.{◌≤◌}
use Rattle.lab_program_serve.proofs.TimeLemmas.{CountsFrom}
use Rattle.lab_program_serve.proofs.VisitLemmas.{sources_of}
use Rattle.lab_program_serve.proofs.serving.serve_over.Given as goal

-- as many connections as were counted so far were served, as the sources gave them
abbrev pub invariant-loop : goal.invariant-loop
invariant-loop g l = record {
  bound : l.counter ≤ l.fn.count;
  so_far : CountsFrom g.S.Keeper g.O.Opener.opened g.O.Opener.closed g.O.Opener.unopened l.fn.live_desk l.live_desk l.counter (sources_of
      (g.L.Connections.coming l.fn.connections) (g.L.Connections.coming l.connections)
      (g.M.Clock.Clock.coming l.fn.host.clock) (g.M.Clock.Clock.coming l.host.clock)
      (g.M.Chance.Chance.coming l.fn.host.chance) (g.M.Chance.Chance.coming l.host.chance));
}
