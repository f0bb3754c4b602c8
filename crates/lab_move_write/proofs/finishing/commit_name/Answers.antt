use Rattle.std.proofs.Common.{◌≡◌, IsFalse, rules, subst}
use Rattle.std.proofs.lemmas.Result.{on_ok_weaker}
use Rattle.sqlite.specs.Effect.{Database}
use Rattle.sqlite.specs.Held.{state}
use Rattle.lab_store_tables.specs.Rows.{tables_in}
use Rattle.lab_store_tables.specs.Held.{IsTyped}
use Rattle.lab_store_read.specs.Faults.{is_out_of_memory}
use Rattle.lab_move_write.specs.Causes.{NamingEndsForCause}
use Rattle.lab_move_write.specs.Commits.{MakesAtOnce}
use Rattle.lab_move_write.specs.Namings.{NamesSchema}
use Rattle.lab_move_write.proofs.Causes.{naming_committed, naming_given_up}
use Rattle.lab_move_write.proofs.Commits.{ends_by}
use Rattle.lab_move_write.proofs.finishing.commit_name.Goals as goal

abbrev Names : Database → Database → Type 0
Names was db = IsTyped was → IsTyped db × NamesSchema (tables_in was.trees) (tables_in db.trees)

pub returns : goal.returns
returns g c =
    let end = c.commit.new.self.0 in
    let same : end ≡ c.conn-2-1.given.0 = search rules in
    record {
      ends = subst (λ h. MakesAtOnce (Names (state g.S.Store c.args.conn.now).now) c.commit.result (state g.S.Store c.args.conn.now) (state g.S.Store h)) same
          (ends_by g.S.Store c.args.conn.now c.transaction-tx.result.conn.now c.name_inside.new.tx.conn.now (state g.S.Store end) Names
          c.requires.at_rest c.transaction-tx.ensures.begun c.commit.ensures.ended c.name_inside.ensures.survives c.name_inside.ensures.kept
          (λ clean. (c.in_ok-name_inside.ensures.made clean).inside) (λ clean opened. (c.in_ok-name_inside.ensures.made clean).made)
          c.commit.ensures.survives c.commit.result (λ clean. on_ok_weaker c.commit.result (λ it. it.1) (c.commit.ensures.ok clean))
          c.commit.ensures.err);
      cause = subst (λ h. NamingEndsForCause g.S.Store (λ e. IsFalse (is_out_of_memory e)) c.args.conn.now h c.commit.result) same
          (naming_committed g.S.Store c.args.conn.now c.transaction-tx.result.conn.now c.name_inside.new.tx.conn.now end c.transaction-tx.ensures.begun c.name_inside.ensures.survives
          (λ clean. (c.in_ok-name_inside.ensures.made clean).inside) c.commit.ensures.survives c.commit.result c.commit.ensures.err);
    }

pub returns-in_err-name_inside-clause-cause : goal.returns-in_err-name_inside-clause-cause
returns-in_err-name_inside-clause-cause g c =
    let end = c.drop-tx.new.self.0 in
    let same : end ≡ c.conn-1.given.0 = search rules in
    subst (λ h. NamingEndsForCause g.S.Store (λ e. IsFalse (is_out_of_memory e)) c.args.conn.now h c.from_residual.result) same
    (naming_given_up g.S.Store c.args.conn.now c.transaction-tx.result.conn.now c.name_inside.new.tx.conn.now end c.transaction-tx.ensures.begun c.name_inside.ensures.survives
    c.in_err-name_inside.ensures.ran c.drop-tx.ensures.survives c.drop-tx.ensures.undone c.from_residual.result c.from_residual.ensures.1)
