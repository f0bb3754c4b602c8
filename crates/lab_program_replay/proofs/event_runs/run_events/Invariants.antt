use Rattle.lab_records_keeper.specs.Worlds.{Passes}
use Rattle.lab_desk_events.specs.Keeping.{AreWithin, GivenWithin}
use Rattle.lab_program_replay.proofs.EventRunLemmas.{SoFar}
use Rattle.lab_program_replay.proofs.event_runs.run_events.Given as goal

-- the events so far were run, and their answers were written
abbrev pub invariant-loop : goal.invariant-loop
invariant-loop g l = record {
  sofar : GivenWithin (g.S.Keeper.world l.initial.desk.keeper) (g.S.Keeper.world l.desk.keeper)
      (SoFar (g.S.Keeper.world l.initial.desk.keeper) (g.S.Keeper.world l.desk.keeper)
      (g.B.Read.remaining l.initial.reader) (g.B.Read.remaining l.reader)
      (g.W.Write.contents l.initial.output) (g.W.Write.contents l.output));
  within : GivenWithin (g.S.Keeper.world l.initial.desk.keeper) (g.S.Keeper.world l.desk.keeper)
      (AreWithin (g.S.Keeper.world l.desk.keeper));
  reached : GivenWithin (g.S.Keeper.world l.initial.desk.keeper) (g.S.Keeper.world l.desk.keeper)
      (g.S.Keeper.world l.desk.keeper).is_reached;
  passes : Passes (g.S.Keeper.world l.initial.desk.keeper) (g.S.Keeper.world l.desk.keeper);
}
