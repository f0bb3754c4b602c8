use Rattle.std.proofs.Common.{◌≡◌, IsFalse, rules, subst}
use Rattle.std.proofs.lemmas.Result.{on_ok_weaker}
use Rattle.sqlite.specs.Effect.{Database}
use Rattle.sqlite.specs.Held.{state}
use Rattle.lab_store_files.specs.NewFiles.{IsBlank}
use Rattle.lab_store_read.specs.Faults.{is_out_of_memory}
use Rattle.lab_move_write.specs.Causes.{MakingEndsForCause}
use Rattle.lab_move_write.specs.Commits.{MakesAtOnce}
use Rattle.lab_move_write.specs.Unfinished.{IsUnfinished}
use Rattle.lab_move_write.proofs.Causes.{making_committed, making_given_up}
use Rattle.lab_move_write.proofs.Commits.{ends_by}
use Rattle.lab_move_write.proofs.making.commit_tables.Goals as goal

abbrev Fills : Database → Database → Type 0
Fills was db = IsBlank was → IsUnfinished db

pub returns : goal.returns
returns g c =
    let end = c.commit.new.self.0 in
    let same : end ≡ c.conn-2-1.given.0 = search rules in
    record {
      ends = subst (λ h. MakesAtOnce (Fills (state g.S.Store c.args.conn.now).now) c.commit.result (state g.S.Store c.args.conn.now) (state g.S.Store h)) same
          (ends_by g.S.Store c.args.conn.now c.transaction-tx.result.conn.now c.make_inside.new.tx.conn.now (state g.S.Store end) Fills
          c.requires.at_rest c.transaction-tx.ensures.begun c.commit.ensures.ended c.make_inside.ensures.survives c.make_inside.ensures.kept
          c.in_ok-make_inside.ensures.inside (λ clean opened. c.in_ok-make_inside.ensures.made clean)
          c.commit.ensures.survives c.commit.result (λ clean. on_ok_weaker c.commit.result (λ it. it.1) (c.commit.ensures.ok clean))
          c.commit.ensures.err);
      cause = subst (λ h. MakingEndsForCause g.S.Store (λ e. IsFalse (is_out_of_memory e)) c.args.conn.now h c.commit.result) same
          (making_committed g.S.Store c.args.conn.now c.transaction-tx.result.conn.now c.make_inside.new.tx.conn.now end c.transaction-tx.ensures.begun c.make_inside.ensures.survives
          c.in_ok-make_inside.ensures.inside c.commit.ensures.survives c.commit.result c.commit.ensures.err);
    }

pub returns-in_err-make_inside-clause-cause : goal.returns-in_err-make_inside-clause-cause
returns-in_err-make_inside-clause-cause g c =
    let end = c.drop-tx.new.self.0 in
    let same : end ≡ c.conn-1.given.0 = search rules in
    subst (λ h. MakingEndsForCause g.S.Store (λ e. IsFalse (is_out_of_memory e)) c.args.conn.now h c.from_residual.result) same
    (making_given_up g.S.Store c.args.conn.now c.transaction-tx.result.conn.now c.make_inside.new.tx.conn.now end c.transaction-tx.ensures.begun c.make_inside.ensures.survives
    c.in_err-make_inside.ensures.failed c.drop-tx.ensures.survives c.drop-tx.ensures.undone c.from_residual.result c.from_residual.ensures.1)
