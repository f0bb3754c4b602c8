use Rattle.std.proofs.Common.{◌≡◌, rules, subst}
use Rattle.std.proofs.lemmas.Result.{on_ok_weaker}
use Rattle.sqlite.specs.Held.{state}
use Rattle.lab_store_write.specs.Causes.{IsTooGreat}
use Rattle.lab_store.specs.Private.Causes.{TransactionHasItsCause}
use Rattle.lab_store.specs.Commits.{EndsStep}
use Rattle.lab_store_write.proofs.Transactions.{committed_so, given_up_so}
use Rattle.lab_store.proofs.Causes.{ready_so}
use Rattle.lab_store_write_changes.specs.NewbornRows.{AddsRows}
use Rattle.lab_store.proofs.Commits.{ends_by}
use Rattle.lab_store.proofs.places.commit_rows.Goals as goal

pub returns : goal.returns
returns g c =
    let end = c.commit.new.self.0 in
    let same : end ≡ c.conn-2-1.given.0 = search rules in
    let great = IsTooGreat c.args.lab.now.strays in
    record {
      ends = subst (λ h. EndsStep (AddsRows c.args.lab.now) c.commit.result (state g.S.Store c.args.conn.now) (state g.S.Store h)) same
          (ends_by g.S.Store c.args.conn.now c.transaction-tx.result.conn.now c.add_inside.new.tx.conn.now (state g.S.Store end) (AddsRows c.args.lab.now)
          c.requires.at_rest c.transaction-tx.ensures.begun c.commit.ensures.ended c.add_inside.ensures.survives c.add_inside.ensures.kept
          (λ clean. (c.in_ok-add_inside.ensures.made clean).inside) (λ clean opened. c.in_ok-add_inside.ensures.made clean)
          c.commit.ensures.survives c.commit.result (λ clean. on_ok_weaker c.commit.result (λ it. it.1) (c.commit.ensures.ok clean))
          c.commit.ensures.err);
      cause = subst (λ h. TransactionHasItsCause g.S.Store great c.args.conn.now h c.commit.result) same
          (ready_so (committed_so g.S.Store c.args.conn.now c.transaction-tx.result.conn.now c.add_inside.new.tx.conn.now end c.transaction-tx.ensures.begun c.add_inside.ensures.survives
          (λ clean. (c.in_ok-add_inside.ensures.made clean).inside) c.commit.ensures.survives great c.commit.result c.commit.ensures.err));
    }

pub returns-in_err-add_inside-clause-cause : goal.returns-in_err-add_inside-clause-cause
returns-in_err-add_inside-clause-cause g c =
    let end = c.drop-tx.new.self.0 in
    let same : end ≡ c.conn-1.given.0 = search rules in
    subst (λ h. TransactionHasItsCause g.S.Store (IsTooGreat c.args.lab.now.strays) c.args.conn.now h c.from_residual.result) same
    (ready_so (given_up_so g.S.Store c.args.conn.now c.transaction-tx.result.conn.now c.add_inside.new.tx.conn.now end c.transaction-tx.ensures.begun c.add_inside.ensures.survives
    c.in_err-add_inside.ensures.failed c.drop-tx.ensures.survives c.drop-tx.ensures.undone c.from_residual.result c.from_residual.ensures.1))
