use Rattle.std.proofs.lemmas.Result.{err_from_is_err_and}
use Rattle.sqlite.specs.Held.{state}
use Rattle.lab_move_write.proofs.Commits.{makes_weaker, nothing_made}
use Rattle.lab_move_write.specs.Carrying.{Carries}
use Rattle.lab_move_write.specs.Commits.{MakesAtOnce}
use Rattle.lab_move.specs.Moving.{IsSoundLab}
use Rattle.lab_move.proofs.OneLab.{errs_as, on_ok_so}
use Rattle.std.proofs.Common.{inl}
use Rattle.lab_move.proofs.RefusedLabs.{unplaced_by}
use Rattle.lab_move.proofs.filling.place_sound.Goals as goal

pub returns-clause-placed : goal.returns-clause-placed
returns-clause-placed g c =
    let was = (state g.T.Store c.args.new.now).now in
    let lab = c.args.lab.now in
    let placed : IsSoundLab lab → MakesAtOnce (Carries lab was) c.place_tried.result (state g.T.Store c.args.new.now) (state g.T.Store c.place_tried.new.new) = rw c.lab.ensures.same at c.place_tried.ensures.placed in
    makes_weaker (Carries lab was) (λ db. IsSoundLab lab × Carries lab was db) c.place_tried.result (λ db it. (c.in_ok-test_lab.ensures.sound, it))
    (placed c.in_ok-test_lab.ensures.sound)

pub returns-clause-sound : goal.returns-clause-sound
returns-clause-sound g c = on_ok_so c.place_tried.result c.in_ok-test_lab.ensures.sound

pub returns-clause-fault : goal.returns-clause-fault
returns-clause-fault g c = errs_as c.place_tried.result (λ one none. absurd none) c.place_tried.ensures.fault

pub returns-in_err-test_lab-clause-placed : goal.returns-in_err-test_lab-clause-placed
returns-in_err-test_lab-clause-placed g c =
    let failed = err_from_is_err_and c.from_residual.result c.from_residual.ensures.1 in
    rw failed.1 (nothing_made _ _ (state g.T.Store c.args.new.now) c.requires.at_rest)

pub returns-in_err-test_lab-clause-fault : goal.returns-in_err-test_lab-clause-fault
returns-in_err-test_lab-clause-fault g c =
    let failed = err_from_is_err_and c.from_residual.result c.from_residual.ensures.1 in
    rw (failed.1, failed.2) c.in_err-test_lab.ensures.fault

pub returns-clause-cause : goal.returns-clause-cause
returns-clause-cause g c ours clean = unplaced_by g.T.Store c.args.new.now c.place_tried.new.new c.place_tried.result c.args.lab.now
    (rw c.lab.ensures.same at (c.place_tried.ensures.cause ours clean))

pub returns-in_err-test_lab-clause-cause : goal.returns-in_err-test_lab-clause-cause
returns-in_err-test_lab-clause-cause g c ours clean =
    let failed = err_from_is_err_and c.from_residual.result c.from_residual.ensures.1 in
    rw (failed.1, failed.2) (λ told. inl (c.in_err-test_lab.ensures.within told))
