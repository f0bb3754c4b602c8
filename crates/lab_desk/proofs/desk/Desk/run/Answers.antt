-- The run goes on by each event; a write fault ends it within the answer of its last event.
use Rattle.std.proofs.Common.{rules, ◌≡◌, ◌+◌, [], ◌∷◌, ◌++◌, length, map, refl, subst, take, arith}
use Rattle.std.proofs.lemmas.List.{take_all}
use Rattle.lab_desk_events.specs.Leaving.{IsLiveToLast, LeavesRun}
use Rattle.lab_desk_events.specs.Runs.{Runs}
use Rattle.lab_desk_events.proofs.Lasting.{stays_first, stays_after}
use Rattle.lab_desk_events.proofs.Leaving.{leaves_of, living_more, living_none}
use Rattle.lab_desk_events.proofs.Running.{run_more, run_cut, runs_none}
use Rattle.lab_desk_events.specs.Alone.{happening}
use Rattle.lab_desk.proofs.Happenings.{as_many, happening_at, within_happenings}
use Rattle.lab_desk.proofs.desk.Desk.run.Goals as goal

pub loop-event-init : goal.loop-event-init
loop-event-init g c = record {
  passes = search rules;
  stays = λ within honest reached.
      stays_first (g.S.Keeper.world c.args.self.now.keeper) within reached;
  counted = search rules;
  room = search rules;
  run = λ within honest reached.
      rw c.in-Ok.ensures.empty (runs_none
      (g.S.Keeper.world c.args.self.now.keeper) (map happening c.args.events.now)
      (g.W.Write.contents c.args.writer.now));
  leaves = λ within honest reached.
      rw c.in-Ok.ensures.empty
      (living_none g.S.Keeper c.args.self.now.keeper (map happening c.args.events.now));
}

pub returns-in_default-clause-stays : goal.returns-in_default-clause-stays
returns-in_default-clause-stays g c = λ within honest reached.
    stays_first (g.S.Keeper.world c.args.self.now.keeper) within reached

pub loop-event-preserved : goal.loop-event-preserved
loop-event-preserved g c = record {
  passes = search rules;
  stays = stays_after (g.S.Keeper.world c.args.self.now.keeper)
      (g.S.Keeper.world c.loop-event.self.keeper)
      (g.S.Keeper.world c.answer-answered.new.self.keeper)
      c.answer-answered.ensures.passes c.loop-event.invariant.stays c.answer-answered.ensures.stays;
  counted = search rules;
  room = search rules;
  run = λ within honest reached.
      let earlier = c.answer-answered.ensures.passes.honest honest in
      let before = c.loop-event.invariant.stays within earlier reached in
      let here = c.answer-answered.ensures.answered before.within honest before.reached in
      let pushed : c.push.new.self.items
      ≡ c.loop-event.taken.items ++ c.answer-answered.result.taken ∷ [] = search rules in
      rw pushed (run_more _ _ _ (map happening c.args.events.now) c.loop-event.event-index c.loop-event.taken.items
      _ _ _
      (record {
        event = happening c.event-item.result;
        taken = c.answer-answered.result.taken;
        answer = here.0;
      })
      (record {
        so_far = c.loop-event.invariant.run within earlier reached;
        passes = c.loop-event.invariant.passes.refusing;
        next = here.1;
        is = happening_at c.args.events.now c.loop-event.event-index c.event-item.result
            c.event-item.is;
        within = within_happenings c.args.events.now c.loop-event.event-index
            c.loop-event-test.true;
      }) (rw c.in_default-sent.is at here.2));
  leaves = λ within honest reached.
      let earlier = c.answer-answered.ensures.passes.honest honest in
      let before = c.loop-event.invariant.stays within earlier reached in
      let here = c.answer-answered.ensures.answered before.within honest before.reached in
      let pushed : c.push.new.self.items
      ≡ c.loop-event.taken.items ++ c.answer-answered.result.taken ∷ [] = search rules in
      rw pushed (living_more g.S.Keeper c.args.self.now.keeper c.loop-event.self.keeper
      c.answer-answered.new.self.keeper (map happening c.args.events.now) c.loop-event.event-index
      c.loop-event.taken.items (happening c.event-item.result) c.answer-answered.result.taken
      (happening_at c.args.events.now c.loop-event.event-index c.event-item.result c.event-item.is)
      (within_happenings c.args.events.now c.loop-event.event-index c.loop-event-test.true)
      (c.loop-event.invariant.leaves within earlier reached)
      (record {
        back = c.answer-answered.ensures.passes.live honest;
        leaves = c.answer-answered.ensures.leaves before.within honest before.reached;
        stays = c.answer-answered.ensures.stays before.within honest before.reached;
        within = before.within;
        releasing = before.releasing;
        after = here.1.after (g.S.Keeper.world c.loop-event.self.keeper).meaning
            (λ live code. refl);
      })
      (c.answer-answered.ensures.lives before.within honest before.reached));
}

pub returns-in-Err-clause-cut : goal.returns-in-Err-clause-cut
returns-in-Err-clause-cut g c = λ within honest reached.
    let earlier = c.answer-answered.ensures.passes.honest honest in
    let before = c.loop-event.invariant.stays within earlier reached in
    let here = c.answer-answered.ensures.answered before.within honest before.reached in
    let pushed : c.push.new.self.items
    ≡ c.loop-event.taken.items ++ c.answer-answered.result.taken ∷ [] = search rules in
    let counted : length c.push.new.self.items ≡ c.loop-event.event-index + 1 = search rules in
    run_cut _ _ _ (map happening c.args.events.now) c.loop-event.event-index c.loop-event.taken.items
    c.push.new.self.items _ _ _
    (record {
      event = happening c.event-item.result;
      taken = c.answer-answered.result.taken;
      answer = here.0;
    }) _
    (record {
      so_far = c.loop-event.invariant.run within earlier reached;
      passes = c.loop-event.invariant.passes.refusing;
      next = here.1;
      is = happening_at c.args.events.now c.loop-event.event-index c.event-item.result
          c.event-item.is;
      within = within_happenings c.args.events.now c.loop-event.event-index
          c.loop-event-test.true;
    }) pushed counted (rw c.in-Err.is at here.2)

pub returns-in-Err-clause-leaves_cut : goal.returns-in-Err-clause-leaves_cut
returns-in-Err-clause-leaves_cut g c = λ within honest reached.
    let earlier = c.answer-answered.ensures.passes.honest honest in
    let before = c.loop-event.invariant.stays within earlier reached in
    let here = c.answer-answered.ensures.answered before.within honest before.reached in
    let pushed : c.push.new.self.items
    ≡ c.loop-event.taken.items ++ c.answer-answered.result.taken ∷ [] = search rules in
    let counted : length c.push.new.self.items ≡ c.loop-event.event-index + 1 = search rules in
    rw (counted, pushed) (leaves_of g.S.Keeper c.args.self.now.keeper
    c.answer-answered.new.self.keeper
    (take (c.loop-event.event-index + 1) (map happening c.args.events.now))
    (c.loop-event.taken.items ++ c.answer-answered.result.taken ∷ [])
    (living_more g.S.Keeper c.args.self.now.keeper c.loop-event.self.keeper
    c.answer-answered.new.self.keeper (map happening c.args.events.now) c.loop-event.event-index
    c.loop-event.taken.items (happening c.event-item.result) c.answer-answered.result.taken
    (happening_at c.args.events.now c.loop-event.event-index c.event-item.result c.event-item.is)
    (within_happenings c.args.events.now c.loop-event.event-index c.loop-event-test.true)
    (c.loop-event.invariant.leaves within earlier reached)
    (record {
      back = c.answer-answered.ensures.passes.live honest;
      leaves = c.answer-answered.ensures.leaves before.within honest before.reached;
      stays = c.answer-answered.ensures.stays before.within honest before.reached;
      within = before.within;
      releasing = before.releasing;
      after = here.1.after (g.S.Keeper.world c.loop-event.self.keeper).meaning
          (λ live code. refl);
    })
    (c.answer-answered.ensures.lives before.within honest before.reached)))

pub returns-in-Err-clause-stays : goal.returns-in-Err-clause-stays
returns-in-Err-clause-stays g c =
    stays_after (g.S.Keeper.world c.args.self.now.keeper)
    (g.S.Keeper.world c.loop-event.self.keeper)
    (g.S.Keeper.world c.answer-answered.new.self.keeper) c.answer-answered.ensures.passes
    c.loop-event.invariant.stays c.answer-answered.ensures.stays

pub returns-clause-alone : goal.returns-clause-alone
returns-clause-alone g c = λ within honest reached.
    let done = c.loop-event-test.false in
    subst (λ events. Runs (g.S.Keeper.world c.args.self.now.keeper)
    (g.S.Keeper.world c.loop-event.self.keeper) events c.loop-event.taken.items
    (g.W.Write.contents c.args.writer.now) (g.W.Write.contents c.loop-event.writer))
    (take_all c.loop-event.event-index (map happening c.args.events.now)
    (omega (arith, as_many c.args.events.now)))
    (c.loop-event.invariant.run within honest reached)

pub returns-clause-leaves : goal.returns-clause-leaves
returns-clause-leaves g c = λ within honest reached.
    let done = c.loop-event-test.false in
    subst (λ events. LeavesRun (IsLiveToLast (g.S.Keeper.world c.args.self.now.keeper)
    (g.S.Keeper.world c.loop-event.self.keeper) c.loop-event.taken.items)
    (g.S.Keeper.world c.args.self.now.keeper) (g.S.Keeper.world c.loop-event.self.keeper) events
    c.loop-event.taken.items)
    (take_all c.loop-event.event-index (map happening c.args.events.now)
    (omega (arith, as_many c.args.events.now)))
    (leaves_of g.S.Keeper c.args.self.now.keeper c.loop-event.self.keeper
    (take c.loop-event.event-index (map happening c.args.events.now)) c.loop-event.taken.items
    (c.loop-event.invariant.leaves within honest reached))
