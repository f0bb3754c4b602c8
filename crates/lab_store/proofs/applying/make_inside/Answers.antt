use Rattle.std.proofs.Common.{◌≡◌, ◌⊎◌, IfErr, rules, subst, sym}
use Rattle.sqlite.specs.Held.{state}
use Rattle.sqlite.specs.State.{HasCleanDisk}
use Rattle.lab_store_write.specs.Causes.{FailsTrying}
use Rattle.lab_store_write_changes.specs.Causes.{OneIsTooMuch}
use Rattle.lab_store_write_changes.specs.Tried.{TriesAll}
use Rattle.lab_store_write.specs.declared.running.Inside.{Inside}
use Rattle.lab_store_write.proofs.Transactions.{fails_as_trying}
use Rattle.lab_store.proofs.applying.make_inside.Goals as goal

pub returns-clause-failed : goal.returns-clause-failed
returns-clause-failed g c rules_hold inside clean typed =
    let all = TriesAll c.args.lab.id c.args.changes.now in
    let made = c.all_inside-made.new.tx in
    let same : made.tx.now.conn.now ≡ c.tx-1.given.0.conn.now = search rules in
    let clean_made : HasCleanDisk (state g.S.Store made.tx.now.conn.now) = subst (λ h. HasCleanDisk (state g.S.Store h)) (sym same) clean in
    subst (λ h. IfErr c.all_inside-made.result (λ e. OneIsTooMuch c.args.changes.now ⊎ FailsTrying all (state g.S.Store) c.args.tx.now.conn.now h e)) same
    (fails_as_trying (λ (one : Inside g.row.S.Denot). one.tx.now.conn.now) (state g.S.Store) all (OneIsTooMuch c.args.changes.now) _ made c.all_inside-made.result
    (c.all_inside-made.ensures.failed rules_hold inside clean_made typed))
