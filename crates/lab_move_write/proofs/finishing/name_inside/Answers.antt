use Rattle.std.proofs.Common.{◌≡◌, [], rules, subst, sym}
use Rattle.sqlite.specs.Held.{state}
use Rattle.sqlite.specs.State.{ExecutesInside, HasCleanDisk}
use Rattle.lab_move_write.specs.Namings.{naming_text}
use Rattle.lab_move_write.proofs.finishing.name_inside.Goals as goal

pub returns-clause-ran : goal.returns-clause-ran
returns-clause-ran g c clean =
    let made = c.name_schema-made.new.tx in
    let same : made.tx.now.conn.now ≡ c.tx-1.given.0.conn.now = search rules in
    let clean_made : HasCleanDisk (state g.S.Store made.tx.now.conn.now) = subst (λ h. HasCleanDisk (state g.S.Store h)) (sym same) clean in
    subst (λ h. ExecutesInside 0 naming_text [] (state g.S.Store c.args.tx.now.conn.now) (state g.S.Store h) c.name_schema-made.result) same
    (c.name_schema-made.ensures.ran c.requires.inside clean_made)
