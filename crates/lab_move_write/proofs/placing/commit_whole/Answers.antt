use Rattle.std.proofs.Common.{◌≡◌, rules, subst}
use Rattle.std.proofs.lemmas.Result.{on_ok_weaker}
use Rattle.sqlite.specs.Held.{state}
use Rattle.lab_store_write.specs.Causes.{IsTooGreat}
use Rattle.lab_store_write.specs.Private.Transactions.{TransactionEndsForCause}
use Rattle.lab_store_write.proofs.Transactions.{committed_so, given_up_so}
use Rattle.lab_move_write.specs.Commits.{MakesAtOnce}
use Rattle.lab_move_write.proofs.Commits.{ends_by}
use Rattle.lab_move_write.proofs.GivenUp.{PlacesIn}
use Rattle.lab_move_write.proofs.placing.commit_whole.Goals as goal

pub returns : goal.returns
returns g c =
    let end = c.commit.new.self.0 in
    let same : end ≡ c.conn-2-1.given.0 = search rules in
    record {
      ends = subst (λ h. MakesAtOnce (PlacesIn c.args.lab.now (state g.S.Store c.args.conn.now).now) c.commit.result (state g.S.Store c.args.conn.now) (state g.S.Store h)) same
          (ends_by g.S.Store c.args.conn.now c.transaction-tx.result.conn.now c.add_inside.new.tx.conn.now (state g.S.Store end) (PlacesIn c.args.lab.now)
          c.requires.at_rest c.transaction-tx.ensures.begun c.commit.ensures.ended c.add_inside.ensures.survives c.add_inside.ensures.kept
          (λ clean. (c.in_ok-add_inside.ensures.made clean).inside) (λ clean opened. (c.in_ok-add_inside.ensures.made clean).made)
          c.commit.ensures.survives c.commit.result (λ clean. on_ok_weaker c.commit.result (λ it. it.1) (c.commit.ensures.ok clean))
          c.commit.ensures.err);
      cause = subst (λ h. TransactionEndsForCause g.S.Store (IsTooGreat c.args.lab.now.strays) c.args.conn.now h c.commit.result) same
          (committed_so g.S.Store c.args.conn.now c.transaction-tx.result.conn.now c.add_inside.new.tx.conn.now end c.transaction-tx.ensures.begun c.add_inside.ensures.survives
          (λ clean. (c.in_ok-add_inside.ensures.made clean).inside) c.commit.ensures.survives (IsTooGreat c.args.lab.now.strays) c.commit.result c.commit.ensures.err);
    }

pub returns-in_err-add_inside-clause-cause : goal.returns-in_err-add_inside-clause-cause
returns-in_err-add_inside-clause-cause g c =
    let end = c.drop-tx.new.self.0 in
    let same : end ≡ c.conn-1.given.0 = search rules in
    subst (λ h. TransactionEndsForCause g.S.Store (IsTooGreat c.args.lab.now.strays) c.args.conn.now h c.from_residual.result) same
    (given_up_so g.S.Store c.args.conn.now c.transaction-tx.result.conn.now c.add_inside.new.tx.conn.now end c.transaction-tx.ensures.begun c.add_inside.ensures.survives
    c.in_err-add_inside.ensures.failed c.drop-tx.ensures.survives c.drop-tx.ensures.undone c.from_residual.result c.from_residual.ensures.1)
