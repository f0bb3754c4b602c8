use Rattle.std.proofs.Common.{◌≡◌, IsTrue, Ok, Err, Result, OnErr, rules, subst}
use Rattle.sqlite.specs.State.{HasCleanDisk}
use Rattle.sqlite.specs.Held.{state}
use Rattle.lab_store_tables.specs.Ready.{WhereShown}
use Rattle.lab_store_files.specs.NewFiles.{IsBlank, IsNewFile, EndsNewFile}
use Rattle.lab_store_files.proofs.Transactions.{given_up_ends, given_up_rows, committed_ends, committed_made, failed_ends, failed_rows}
use Rattle.lab_store_files.proofs.creating.make_file.Goals as goal

on_err : {A E P : Type 0} (r : Result A E) → P → OnErr r P
on_err (Ok value) p = tt
on_err (Err fault) p = p

pub returns-in_err-commit-clause-ends : goal.returns-in_err-commit-clause-ends
returns-in_err-commit-clause-ends g c =
    let end = c.commit.new.self.0 in
    let same : end ≡ c.conn-2-1.given.0 = search rules in
    subst (λ h. EndsNewFile (state g.S.Store c.args.conn.now) (state g.S.Store h)) same
    (failed_ends g.S.Store c.args.conn.now c.transaction-tx.result.conn.now c.make_all.new.tx.conn.now (state g.S.Store end) c.requires.at_rest c.transaction-tx.ensures.begun c.commit.ensures.ended
    c.make_all.ensures.survives c.make_all.ensures.kept c.in_ok-make_all.ensures.inside c.in_ok-make_all.ensures.made c.commit.ensures.survives c.in_err-commit.field-0.0 c.in_err-commit.ensures.err)

pub returns-in_err-commit-clause-rows : goal.returns-in_err-commit-clause-rows
returns-in_err-commit-clause-rows g c clean opened =
    let end = c.commit.new.self.0 in
    let same : end ≡ c.conn-2-1.given.0 = search rules in
    on_err c.from_residual-in_err-commit.result (subst (λ h. WhereShown (state g.S.Store h) ((state g.S.Store h).now ≡ (state g.S.Store c.args.conn.now).now)) same
    (failed_rows g.S.Store c.args.conn.now c.transaction-tx.result.conn.now c.make_all.new.tx.conn.now (state g.S.Store end) c.requires.at_rest c.transaction-tx.ensures.begun c.commit.ensures.ended
    c.make_all.ensures.survives c.make_all.ensures.kept c.in_ok-make_all.ensures.inside c.in_ok-make_all.ensures.made c.commit.ensures.survives c.in_err-commit.field-0.0 c.in_err-commit.ensures.err) clean opened)

pub returns-clause-ends : goal.returns-clause-ends
returns-clause-ends g c =
    let end = c.commit.new.self.0 in
    let same : end ≡ c.conn-2-1.given.0 = search rules in
    subst (λ h. EndsNewFile (state g.S.Store c.args.conn.now) (state g.S.Store h)) same
    (committed_ends g.S.Store c.args.conn.now c.transaction-tx.result.conn.now c.make_all.new.tx.conn.now (state g.S.Store end) c.requires.at_rest c.transaction-tx.ensures.begun c.commit.ensures.ended
    c.make_all.ensures.survives c.make_all.ensures.kept c.in_ok-make_all.ensures.inside c.in_ok-make_all.ensures.made c.commit.ensures.survives (λ clean. (c.in_ok-commit.ensures.ok clean).1))

pub returns-clause-made : goal.returns-clause-made
returns-clause-made g c =
    let end = c.commit.new.self.0 in
    let same : end ≡ c.conn-2-1.given.0 = search rules in
    subst (λ h. HasCleanDisk (state g.S.Store h) → IsBlank (state g.S.Store c.args.conn.now).now → IsTrue (state g.S.Store h).is_open × IsNewFile (state g.S.Store h).now) same
    (committed_made g.S.Store c.args.conn.now c.transaction-tx.result.conn.now c.make_all.new.tx.conn.now (state g.S.Store end) c.requires.at_rest c.transaction-tx.ensures.begun c.commit.ensures.ended
    c.make_all.ensures.survives c.make_all.ensures.kept c.in_ok-make_all.ensures.inside c.in_ok-make_all.ensures.made c.commit.ensures.survives (λ clean. (c.in_ok-commit.ensures.ok clean).1))
