-- What was founded from the newborn was founded from its body, and is right as it is born.
use Rattle.std.proofs.Common.{rules}
use Rattle.lab_records_kept.specs.Births.{newborn_lab}
use Rattle.lab_desk_foundings.proofs.Bearing.{founds_as}
use Rattle.lab_desk_events.proofs.Copying.{placed_legible}
use Rattle.lab_desk_events.proofs.Keeping.{placed_keeps}
use Rattle.lab_desk_events.proofs.Lasting.{left_stays, still_stays}
use Rattle.lab_desk_events.proofs.Staying.{placed_within, placed_releasing, placed_leaves_within, placed_leaves_releasing}
use Rattle.lab_desk.proofs.desk.Desk.found.Goals as goal

pub returns-clause-founds : goal.returns-clause-founds
returns-clause-founds g c = rw (← c.self.view_is) (
    let old = g.S.Keeper.world c.self.inside.keeper in
    let new = g.S.Keeper.world c.found.new.self in
    let lab = newborn_lab c.in_ok-newborn.newborn in
    let newly = c.in_ok-newborn.ensures.born in
    let back = c.found.ensures.founds.passes.live in
    record {
      founded = λ honest reached.
          founds_as old new (g.S.Keeper.places c.self.inside.keeper c.found.new.self) _ _ _ lab newly
          (c.in_ok-found.ensures.founds.founded honest reached) (c.in_ok-found.ensures.founds.rows honest reached);
      err = search rules;
      rows_err = search rules;
      fault = search rules;
      cause = search rules;
      lives = search rules;
      untouched = search rules;
      crash = search rules;
      quiet = search rules;
      durable = search rules;
      stays = λ honest reached.
          let placed = c.in_ok-found.ensures.founds.founded honest reached in
          record {
            within = placed_within old new c.args.lab.now c.args.tick.now newly.founding lab
                newly.bears (back honest) placed;
            releasing = placed_releasing old new c.args.lab.now c.args.tick.now newly.founding lab
                newly.bears (back honest) placed;
            keeps = placed_keeps old new lab placed;
            reached = c.found.ensures.founds.reached honest reached;
            safe = c.found.ensures.founds.safe honest reached;
            legible = placed_legible old new lab (back honest) placed c.newborn_is_legible.ensures;
            left_within = placed_leaves_within old new c.args.lab.now c.args.tick.now newly.founding
                lab newly.bears (c.found.ensures.founds.crash honest reached);
            left_releasing = placed_leaves_releasing old new c.args.lab.now c.args.tick.now
                newly.founding lab newly.bears (c.found.ensures.founds.crash honest reached);
            again = c.found.ensures.founds.shuts honest reached;
          };
      passes = search rules;
    })

pub returns-in_err-found-clause-founds : goal.returns-in_err-found-clause-founds
returns-in_err-found-clause-founds g c = rw (← c.self.view_is) (
    let old = g.S.Keeper.world c.self.inside.keeper in
    let new = g.S.Keeper.world c.found.new.self in
    let lab = newborn_lab c.in_ok-newborn.newborn in
    let newly = c.in_ok-newborn.ensures.born in
    record {
      founded = search rules;
      err = search rules;
      rows_err = search rules;
      fault = search rules;
      cause = search rules;
      lives = search rules;
      untouched = search rules;
      crash = search rules;
      quiet = search rules;
      durable = search rules;
      stays = λ honest reached.
          left_stays old new
          (c.found.ensures.founds.passes.live honest) (c.in_err-found.ensures.founds.err honest reached)
          (c.found.ensures.founds.reached honest reached) (c.found.ensures.founds.safe honest reached)
          (placed_leaves_within old new c.args.lab.now c.args.tick.now newly.founding lab newly.bears
          (c.found.ensures.founds.crash honest reached))
          (placed_leaves_releasing old new c.args.lab.now c.args.tick.now newly.founding lab
          newly.bears (c.found.ensures.founds.crash honest reached)) (c.found.ensures.founds.shuts honest reached);
      passes = search rules;
    })

pub returns-in_err-newborn-clause-founds : goal.returns-in_err-newborn-clause-founds
returns-in_err-newborn-clause-founds g c = record {
  founded = search rules;
  err = search rules;
  rows_err = search rules;
  fault = search rules;
  cause = search rules;
  lives = search rules;
  untouched = search rules;
  crash = search rules;
  quiet = search rules;
  durable = search rules;
  stays = λ honest reached. still_stays (g.S.Keeper.world c.args.self.now.keeper) reached;
  passes = search rules;
}
