use Rattle.std.proofs.Common.{rules, ◌≡◌, ◌∙◌, [], Ok, Err}
use Rattle.std.proofs.lemmas.Result.{err_from_is_err_and}
use Rattle.sqlite.specs.Held.{state}
use Rattle.lab_records_keeper.specs.Worlds.{Changes}
use Rattle.lab_store_tables.specs.Ready.{IsReady, tables_of}
use Rattle.lab_store_tables.specs.Steps.{AreMadeIfAny}
use Rattle.lab_store_load.proofs.Counting.{counted_or_none, open_or_none}
use Rattle.sqlite.specs.State.{HasCleanDisk, IsUnchanged}
use Rattle.lab_store.specs.Commits.{EndsStep}
use Rattle.lab_store.proofs.Blames.{commit_blamed}
use Rattle.lab_store.proofs.After.{keeping_as, keeps_none}
use Rattle.lab_store.proofs.Settled.{durable_now}
use Rattle.lab_store.proofs.Committed.{crashes, stays_safe, made_means, reached}
use Rattle.lab_store.proofs.Applied.{changes_as, changes_law, ends_given}
use Rattle.lab_store.proofs.Turns.{world_shuts}
use Rattle.lab_store.proofs.store.StoreKeeper.apply.Goals as goal

pub returns-in_err-apply-clause-applies : goal.returns-in_err-apply-clause-applies
returns-in_err-apply-clause-applies g c =
    let old = state g.S.Store c.args.self.now in
    let new = state g.S.Store c.apply.new.tables.conn in
    let code = c.args.code.now in
    let changes = c.args.changes in
    let steps = AreMadeIfAny code changes in
    let means = Changes code changes in
    let ended : IsReady old → EndsStep steps (Err c.in_err-apply.field-0.0) old new =
    ends_given g.S.Store code c.as_slice.result.now changes c.self.inside.tables.conn
    c.args.self.now new _ c.as_slice.ensures c.self.view_is c.in_err-apply.ensures.ends in
    record {
      makes = λ fit clean ready.
          let law = changes_law code changes (tables_of old) fit in
          let ends = ended ready in
          record {
            changed = search rules;
            rows = search rules;
            crash = crashes steps means old new ready law (Err c.in_err-apply.field-0.0) ends (changes_as code changes)
                clean;
            safe = stays_safe steps means old new ready law (Err c.in_err-apply.field-0.0) ends clean;
            durable = search rules;
            reached = reached steps means old new ready law (Err c.in_err-apply.field-0.0) ends;
          };
      ends = record {
        err = search rules;
        rows_err = search rules;
        lives = search rules;
        fault = search rules;
        shuts = λ clean ready. world_shuts old new clean (ended ready).shuts;
        passes = search rules;
      };
      quiet = search rules;
      reached_err = search rules;
    }

pub returns-clause-applies : goal.returns-clause-applies
returns-clause-applies g c =
    let old = state g.S.Store c.args.self.now in
    let new = state g.S.Store c.apply.new.tables.conn in
    let code = c.args.code.now in
    let changes = c.args.changes in
    let steps = AreMadeIfAny code changes in
    let means = Changes code changes in
    let ended : IsReady old → EndsStep steps (Ok c.in_ok-apply.field-0) old new =
    ends_given g.S.Store code c.as_slice.result.now changes c.self.inside.tables.conn
    c.args.self.now new _ c.as_slice.ensures c.self.view_is c.in_ok-apply.ensures.ends in
    record {
      makes = λ fit clean ready.
          let law = changes_law code changes (tables_of old) fit in
          let ends = ended ready in
          record {
            changed = made_means steps means old new ready law (Ok c.in_ok-apply.field-0) ends clean;
            rows = search rules;
            crash = crashes steps means old new ready law (Ok c.in_ok-apply.field-0) ends (changes_as code changes)
                clean;
            safe = stays_safe steps means old new ready law (Ok c.in_ok-apply.field-0) ends clean;
            durable = λ some. durable_now g.S.Store g.met.S.Store.stays g.met.S.Store.settled c.apply.new.tables.conn (reached steps means old new ready law (Ok c.in_ok-apply.field-0) ends) clean (ends.made clean).1;
            reached = reached steps means old new ready law (Ok c.in_ok-apply.field-0) ends;
          };
      ends = record {
        err = search rules;
        rows_err = search rules;
        lives = search rules;
        fault = search rules;
        shuts = λ clean ready. world_shuts old new clean (ended ready).shuts;
        passes = search rules;
      };
      quiet = search rules;
      reached_err = search rules;
    }

pub returns-in_err-apply-clause-cause : goal.returns-in_err-apply-clause-cause
returns-in_err-apply-clause-cause g c =
    let failed = err_from_is_err_and c.from_residual.result c.from_residual.ensures.1 in
    rw (failed.1, failed.2) (
    commit_blamed g.S.Store c.apply.new.tables.conn c.self.inside.tables.conn c.args.self.now
    c.args.code.now c.as_slice.result.now c.args.changes (Err c.in_err-apply.field-0.0)
    c.as_slice.ensures c.self.view_is c.in_err-apply.ensures.cause)

pub invariant_of-self : goal.invariant_of-self
invariant_of-self g c = keeps_none _ _ c.take-counted.ensures.after c.in_err-apply.ensures.at_rest

pub invariant_of-self-2 : goal.invariant_of-self-2
invariant_of-self-2 g c =
    let old = state g.S.Store c.self.inside.tables.conn in
    let new = state g.S.Store c.apply.new.tables.conn in
    let keeping = keeping_as old c.take-counted.result c.self.inside.counted c.take-counted.ensures.value c.self.invariant in
    let same : c.args.changes ≡ [] → HasCleanDisk new → IsUnchanged old new = λ none clean. c.in_ok-apply.ensures.same (c.as_slice.ensures ∙ none) clean in
    record {
      at_rest = c.in_ok-apply.ensures.at_rest;
      right =
          counted_or_none (c.args.changes ≡ []) old new c.take-counted.result c.counted_after.result c.counted_after.ensures c.in_ok-apply.ensures.clean same
          keeping.right;
      opened = open_or_none (c.args.changes ≡ []) old new c.take-counted.result c.counted_after.result c.counted_after.ensures same;
    }
