use Rattle.std.proofs.Common.{drop, take, length, ◌+◌, ◌<◌, subst, arith}
use Rattle.std.proofs.lemmas.List.{take_all}
use Rattle.sqlite.specs.Held.{state}
use Rattle.lab_move_tables.specs.Standing.{StandsBy}
use Rattle.lab_move_read_people.proofs.KeptLoops.{then_fails}
use Rattle.lab_move.proofs.EachLab.{HasMoved, none_moved, one_moved, next_fills, blamed_first, fills_fail, blames_on, split_at, grown, all_read, all_filled}
use Rattle.lab_move.proofs.RefusedLabs.{ours_of, stops_at}
use Rattle.lab_move.proofs.filling.move_each.Goals as goal

pub loop-place-init : goal.loop-place-init
loop-place-init g c = none_moved (g.D.Readable.state c.args.old.now) (state g.T.Store c.args.new.now) c.requires.at_rest

pub move_lab-requires : goal.move_lab-requires
move_lab-requires g c = record { at_rest = c.loop-place.invariant.fills.at_rest }

pub loop-place-preserved : goal.loop-place-preserved
loop-place-preserved g c =
    let codes = c.args.codes.now in
    let place = c.loop-place.place in
    let within : place < length codes = omega (arith, c.loop-place-test.true) in
    let code = c.index-codes-place.result in
    subst
    (λ done. HasMoved (StandsBy c.args.older) done (g.D.Readable.state c.args.old.now) (g.D.Readable.state c.move_lab.new.old) (state g.T.Store c.args.new.now) (state g.T.Store c.move_lab.new.new))
    (grown codes place code code within c.index-codes-place.is)
    (one_moved c.loop-place.invariant code c.in_ok-move_lab.ensures.reads c.in_ok-move_lab.ensures.carries)

pub returns-in_err-move_lab-clause-reads : goal.returns-in_err-move_lab-clause-reads
returns-in_err-move_lab-clause-reads g c = then_fails c.loop-place.invariant.reads c.move_lab.ensures.reads c.from_residual.result _ c.from_residual.ensures.1

pub returns-in_err-move_lab-clause-fills : goal.returns-in_err-move_lab-clause-fills
returns-in_err-move_lab-clause-fills g c =
    fills_fail
    (next_fills c.loop-place.invariant c.index-codes-place.result {now = g.D.Readable.state c.move_lab.new.old} c.move_lab.ensures.reads.passes.clean c.in_err-move_lab.ensures.carries) c.from_residual.result _ c.from_residual.ensures.1

pub returns-in_err-move_lab-clause-fault : goal.returns-in_err-move_lab-clause-fault
returns-in_err-move_lab-clause-fault g c =
    let codes = c.args.codes.now in
    let place = c.loop-place.place in
    let within : place < length codes = omega (arith, c.loop-place-test.true) in
    let code = c.index-codes-place.result in
    blames_on c.in_err-move_lab.field-0.0
    (blamed_first c.loop-place.invariant code c.move_lab.ensures.reads codes (drop (place + 1) codes) (split_at codes place code code within c.index-codes-place.is))
    c.in_err-move_lab.ensures.fault c.from_residual.result c.from_residual.ensures.1

pub returns-clause-reads : goal.returns-clause-reads
returns-clause-reads g c = all_read c.loop-place.invariant (take_all c.loop-place.place c.args.codes.now (omega (arith, c.loop-place-test.false)))

pub returns-clause-fills : goal.returns-clause-fills
returns-clause-fills g c = all_filled c.loop-place.invariant (take_all c.loop-place.place c.args.codes.now (omega (arith, c.loop-place-test.false)))

pub returns-in_err-move_lab-clause-cause : goal.returns-in_err-move_lab-clause-cause
returns-in_err-move_lab-clause-cause g c read begun clean =
    let codes = c.args.codes.now in
    let place = c.loop-place.place in
    let within : place < length codes = omega (arith, c.loop-place-test.true) in
    let code = c.index-codes-place.result in
    stops_at g.D.Readable.state g.T.Store c.args.older codes c.args.old.now c.loop-place.old c.move_lab.new.old c.args.new.now c.loop-place.new c.move_lab.new.new (take place codes) (drop (place + 1) codes) code
    (split_at codes place code code within c.index-codes-place.is) c.loop-place.invariant c.in_err-move_lab.field-0.0 c.move_lab.ensures.reads.passes c.in_err-move_lab.ensures.carries.once.clean c.in_err-move_lab.ensures.carries.rows
    (c.in_err-move_lab.ensures.cause read (ours_of c.loop-place.invariant begun) clean)
    c.from_residual.result c.from_residual.ensures.1
