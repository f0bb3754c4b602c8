-- What the keeper promises of a part that is loaded, and that what stays true over a request stays so.
use Rattle.lab_desk_events.proofs.Lasting.{quiet_stays}
use Rattle.lab_desk.proofs.desk.Desk.answers.Goals as goal

pub returns-in-Ok-clause-asked : goal.returns-in-Ok-clause-asked
returns-in-Ok-clause-asked g c = rw (← c.self.view_is) (
    let loaded = c.load.ensures.loads in
    record {
      lives = c.in-Ok.ensures.loads.lives;
      same = loaded.same;
      rows = loaded.rows;
      quiet = loaded.crash;
      stays = λ within honest reached.
          quiet_stays (g.S.Keeper.world c.self.inside.keeper) (g.S.Keeper.world c.load.new.self)
          (loaded.passes.live honest) (loaded.same honest reached) (loaded.reached honest reached)
          (loaded.safe honest reached) (loaded.crash honest reached)
          (loaded.shuts honest reached);
      passes = loaded.passes;
    })

pub returns-clause-asked : goal.returns-clause-asked
returns-clause-asked g c = rw (← c.self.view_is) (
    let loaded = c.load.ensures.loads in
    record {
      lives = λ honest reached. tt;
      same = loaded.same;
      rows = loaded.rows;
      quiet = loaded.crash;
      stays = λ within honest reached.
          quiet_stays (g.S.Keeper.world c.self.inside.keeper) (g.S.Keeper.world c.load.new.self)
          (loaded.passes.live honest) (loaded.same honest reached) (loaded.reached honest reached)
          (loaded.safe honest reached) (loaded.crash honest reached)
          (loaded.shuts honest reached);
      passes = loaded.passes;
    })
