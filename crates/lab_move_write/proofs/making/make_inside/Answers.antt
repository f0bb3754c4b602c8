use Rattle.std.proofs.Common.{◌≡◌, IfErr, rules, subst, sym}
use Rattle.sqlite.specs.Held.{state}
use Rattle.sqlite.specs.State.{HasCleanDisk}
use Rattle.lab_store_files.specs.NewFiles.{IsBlank}
use Rattle.lab_store_write.specs.declared.running.Inside.{Inside}
use Rattle.lab_move_write.specs.Private.Causes.{FailsMaking}
use Rattle.lab_move_write.proofs.Causes.{making_as}
use Rattle.lab_move_write.proofs.making.make_inside.Goals as goal

pub returns-clause-failed : goal.returns-clause-failed
returns-clause-failed g c clean =
    let made = c.make_all-made.new.tx in
    let same : made.tx.now.conn.now ≡ c.tx-1.given.0.conn.now = search rules in
    let clean_made : HasCleanDisk (state g.S.Store made.tx.now.conn.now) = subst (λ h. HasCleanDisk (state g.S.Store h)) (sym same) clean in
    subst (λ h. IfErr c.make_all-made.result (FailsMaking IsBlank (state g.S.Store) c.args.tx.now.conn.now h)) same
    (making_as IsBlank (λ (one : Inside g.row.S.Denot). one.tx.now.conn.now) (state g.S.Store) _ made c.make_all-made.result
    (c.make_all-made.ensures.failed c.requires.inside clean_made))
