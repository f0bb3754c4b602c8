use Rattle.std.proofs.Common.{◌≡◌, ◌⊎◌, IfErr, rules, subst, sym}
use Rattle.sqlite.specs.Held.{state}
use Rattle.sqlite.specs.State.{HasCleanDisk}
use Rattle.lab_store_write.proofs.AnyEndings.{FailsBy}
use Rattle.lab_store_write.specs.Causes.{IsTooGreat}
use Rattle.lab_store_write.specs.declared.running.Inside.{Inside}
use Rattle.lab_store_write.proofs.Transactions.{fails_as}
use Rattle.lab_store.proofs.places.add_inside.Goals as goal

pub returns-clause-failed : goal.returns-clause-failed
returns-clause-failed g c inside clean typed =
    let made = c.add_rows-made.new.tx in
    let great = IsTooGreat c.args.lab.now.strays in
    let same : made.tx.now.conn.now ≡ c.tx-1.given.0.conn.now = search rules in
    let clean_made : HasCleanDisk (state g.S.Store made.tx.now.conn.now) = subst (λ h. HasCleanDisk (state g.S.Store h)) (sym same) clean in
    subst (λ h. IfErr c.add_rows-made.result (λ e. great ⊎ FailsBy (state g.S.Store) c.args.tx.now.conn.now h e)) same
    (fails_as (λ (one : Inside g.row.S.Denot). one.tx.now.conn.now) (state g.S.Store) great _ made c.add_rows-made.result
    (c.add_rows-made.ensures.failed inside clean_made typed))
