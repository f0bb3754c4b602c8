use Rattle.sqlite.specs.Held.{state}
use Rattle.lab_move_write.proofs.Commits.{makes_weaker, nothing_made}
use Rattle.lab_move_write.specs.Carrying.{Carries}
use Rattle.lab_move.specs.Moving.{IsSoundLab}
use Rattle.lab_move.proofs.OneLab.{PlacesFound, errs_as, on_ok_as}
use Rattle.std.proofs.Common.{inl}
use Rattle.lab_move.proofs.RefusedLabs.{unplaced_some}
use Rattle.lab_move.proofs.filling.place_found.Goals as goal

pub returns-in-Some-clause-placed : goal.returns-in-Some-clause-placed
returns-in-Some-clause-placed g c =
    let was = (state g.T.Store c.args.new.now).now in
    let lab = c.in-Some.lab in
    makes_weaker (λ db. IsSoundLab lab × Carries lab was db) (PlacesFound c.args.found was) c.place_sound.result (λ db it. (lab, c.in-Some.is, it.0, it.1))
    c.place_sound.ensures.placed

pub returns-in-Some-clause-sound : goal.returns-in-Some-clause-sound
returns-in-Some-clause-sound g c = on_ok_as c.place_sound.result (λ it. (c.in-Some.lab, c.in-Some.is, it)) c.place_sound.ensures.sound

pub returns-in-Some-clause-fault : goal.returns-in-Some-clause-fault
returns-in-Some-clause-fault g c = errs_as c.place_sound.result (λ one it. (it.0, c.in-Some.lab, c.in-Some.is, it.1)) c.place_sound.ensures.fault

pub returns-in-None-clause-placed : goal.returns-in-None-clause-placed
returns-in-None-clause-placed g c = nothing_made _ _ (state g.T.Store c.args.new.now) c.requires.at_rest

pub returns-in-Some-clause-cause : goal.returns-in-Some-clause-cause
returns-in-Some-clause-cause g c ours clean = unplaced_some g.T.Store c.args.new.now c.place_sound.new.new c.place_sound.result c.args.found c.in-Some.lab c.in-Some.is (c.place_sound.ensures.cause ours clean)

pub returns-in-None-clause-cause : goal.returns-in-None-clause-cause
returns-in-None-clause-cause g c ours clean told = inl c.in-None.is
