-- The replay goes on by each event; a run that stops ends it.
use Rattle.std.proofs.lemmas.Result.{err_from_is_err_and}
use Rattle.lab_program_replay.proofs.EventRunLemmas.{so_far_none, so_far_more, replays_stopped}
use Rattle.lab_program_replay.proofs.event_runs.run_events.Goals as goal

pub loop-init : goal.loop-init
loop-init g c = record {
  sofar = λ w h r. so_far_none _ _ _;
  within = λ w h r. w;
  reached = λ w h r. r;
  passes = record { honest = λ h. h; live = λ h l. l; refusing = λ m. m };
}

pub loop-preserved : goal.loop-preserved
loop-preserved g c =
    let next = rw c.in-Some.is at c.in_ok-event.ensures.taken in
    let ran = c.run.ensures.passes in
    let so = c.loop.invariant in
    let before = so.passes in record {
      sofar = λ w h r.
          let kept = ran.honest h in
          so_far_more _ _ c.in-Some.event _ _ _ _ _ _ _ _ before.refusing
          (so.sofar w kept r) next
          (c.in_ok-run.ensures.alone (so.within w kept r) h (so.reached w kept r));
      within = λ w h r.
          let kept = ran.honest h in
          (c.run.ensures.stays (so.within w kept r) h (so.reached w kept r)).within;
      reached = λ w h r.
          let kept = ran.honest h in
          (c.run.ensures.stays (so.within w kept r) h (so.reached w kept r)).reached;
      passes = record {
        honest = λ h. before.honest (ran.honest h);
        live = λ h l. before.live (ran.honest h) (ran.live h l);
        refusing = λ m. before.refusing (ran.refusing m);
      };
    }

pub returns-in_err-run : goal.returns-in_err-run
returns-in_err-run g c =
    let p = err_from_is_err_and c.from_residual-in_err-run.result
    c.from_residual-in_err-run.ensures.1 in
    let next = rw c.in-Some.is at c.in_ok-event.ensures.taken in
    let so = c.loop.invariant in record {
      replayed = λ w h r.
          let kept = c.run.ensures.passes.honest h in
          rw (p.1, p.2) (replays_stopped _ _
          (λ served. g.S.Keeper.world served.keeper) c.loop.desk c.run.new.self
          so.passes.refusing
          c.in-Some.event c.in_err-run.field-0.0 _ _
          (g.B.Read.remaining c.next_event.new.reader) _ _ (so.sofar w kept r) next
          (c.in_err-run.ensures.cut (so.within w kept r) h (so.reached w kept r))
          c.in_err-run.ensures.memory);
    }
