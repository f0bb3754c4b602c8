use Rattle.std.proofs.Common.{◌≡◌, ◌≤◌, take, length, map, vec_capacity}
use Rattle.lab_records_keeper.specs.Worlds.{Passes}
use Rattle.lab_desk_events.specs.Alone.{happening}
use Rattle.lab_desk_events.specs.Keeping.{GivenWithin, StaysOn}
use Rattle.lab_desk_events.specs.Runs.{Runs}
use Rattle.lab_desk_events.proofs.Leaving.{LeavesLiving}
use Rattle.lab_desk.proofs.desk.Desk.run.Given as goal

-- the events so far are a run from the start, and its answers are what was written
abbrev pub invariant-loop-event : goal.invariant-loop-event
invariant-loop-event g l = record {
  passes : Passes (g.S.Keeper.world l.fn.self.keeper) (g.S.Keeper.world l.self.keeper);
  stays : GivenWithin (g.S.Keeper.world l.fn.self.keeper) (g.S.Keeper.world l.self.keeper)
      (StaysOn (g.S.Keeper.world l.fn.self.keeper) (g.S.Keeper.world l.self.keeper));
  counted : length l.taken.items ≡ l.event-index;
  room : length l.events ≤ vec_capacity l.taken;
  run : GivenWithin (g.S.Keeper.world l.fn.self.keeper) (g.S.Keeper.world l.self.keeper)
      (Runs (g.S.Keeper.world l.fn.self.keeper) (g.S.Keeper.world l.self.keeper)
      (take l.event-index (map happening l.events)) l.taken.items
      (g.W.Write.contents l.fn.writer) (g.W.Write.contents l.writer));
  leaves : GivenWithin (g.S.Keeper.world l.fn.self.keeper) (g.S.Keeper.world l.self.keeper)
      (LeavesLiving g.S.Keeper l.fn.self.keeper l.self.keeper
      (take l.event-index (map happening l.events)) l.taken.items);
}
