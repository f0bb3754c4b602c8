use Rattle.std.proofs.Common.{◌≡◌, Ok, Err, Result, OnOk, rules, subst, sym}
use Rattle.sqlite.specs.Effect.{IsDatabase}
use Rattle.sqlite.specs.Held.{state}
use Rattle.lab_store_tables.specs.Changes.{InTurn}
use Rattle.lab_store_tables.specs.Steps.{StepsBy}
use Rattle.lab_store_write_changes.specs.Causes.{OneIsTooMuch}
use Rattle.lab_store_write_changes.specs.Tried.{TriesAll}
use Rattle.lab_store.specs.Private.Causes.{TransactionHasItsCauseTrying}
use Rattle.lab_store.specs.Commits.{EndsStep}
use Rattle.lab_store_write.proofs.Transactions.{committed_trying, given_up_trying}
use Rattle.lab_store.proofs.Causes.{ready_so}
use Rattle.lab_store.proofs.Commits.{ends_by}
use Rattle.lab_store.proofs.applying.commit_all.Goals as goal

second : {A E : Type 0} (P Q R T : Type 0) (r : Result A E) → OnOk r (P × Q × R × T) → OnOk r Q
second P Q R T (Ok a) all = all.1
second P Q R T (Err e) all = tt

pub returns : goal.returns
returns g c =
    let end = c.commit.new.self.0 in
    let same : end ≡ c.conn-2-1.given.0 = search rules in
    let step = InTurn (StepsBy c.args.lab.id) c.args.changes.now in
    let begun = c.transaction-tx.result.conn.now in
    let ends : EndsStep step c.commit.result (state g.S.Store c.args.conn.now) (state g.S.Store c.conn-2-1.given.0) =
    subst (λ h. EndsStep step c.commit.result (state g.S.Store c.args.conn.now) (state g.S.Store h)) same
    (ends_by g.S.Store c.args.conn.now begun c.make_inside.new.tx.conn.now (state g.S.Store end) step c.requires.at_rest c.transaction-tx.ensures.begun c.commit.ensures.ended
    c.make_inside.ensures.survives c.make_inside.ensures.kept (λ clean. c.in_ok-make_inside.ensures.inside clean)
    (λ clean opened. c.in_ok-make_inside.ensures.made clean (subst (λ h. IsDatabase (state g.S.Store h).now) (sym c.transaction-tx.ensures.begun) (c.schema-rules.ensures.live opened).0))
    c.commit.ensures.survives c.commit.result (λ clean. second _ _ _ _ c.commit.result (c.commit.ensures.ok clean)) c.commit.ensures.err) in
    let all = TriesAll c.args.lab.id c.args.changes.now in
    let cause : TransactionHasItsCauseTrying all g.S.Store (OneIsTooMuch c.args.changes.now) c.args.conn.now c.conn-2-1.given.0 c.commit.result =
    subst (λ h. TransactionHasItsCauseTrying all g.S.Store (OneIsTooMuch c.args.changes.now) c.args.conn.now h c.commit.result) same
    (ready_so (committed_trying g.S.Store c.args.conn.now begun c.make_inside.new.tx.conn.now end c.transaction-tx.ensures.begun c.make_inside.ensures.survives
    (λ clean. c.in_ok-make_inside.ensures.inside clean) c.commit.ensures.survives all (OneIsTooMuch c.args.changes.now) c.commit.result c.commit.ensures.err)) in
    record { ends = ends; cause = cause }

pub returns-in_err-make_inside-clause-cause : goal.returns-in_err-make_inside-clause-cause
returns-in_err-make_inside-clause-cause g c =
    let end = c.drop-tx.new.self.0 in
    let same : end ≡ c.conn-1.given.0 = search rules in
    let all = TriesAll c.args.lab.id c.args.changes.now in
    subst (λ h. TransactionHasItsCauseTrying all g.S.Store (OneIsTooMuch c.args.changes.now) c.args.conn.now h c.from_residual.result) same
    (ready_so (given_up_trying g.S.Store c.args.conn.now c.transaction-tx.result.conn.now c.make_inside.new.tx.conn.now end c.transaction-tx.ensures.begun c.make_inside.ensures.survives
    {tries = all} (λ opened. c.in_err-make_inside.ensures.failed (subst (λ h. IsDatabase (state g.S.Store h).now) (sym c.transaction-tx.ensures.begun) (c.schema-rules.ensures.live opened).0)) c.drop-tx.ensures.survives c.drop-tx.ensures.undone c.from_residual.result c.from_residual.ensures.1))
