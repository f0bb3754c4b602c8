use Rattle.std.proofs.Common.{refl, rules}
use Rattle.sqlite.specs.Values.{bound}
use Rattle.lab_store_write.specs.Causes.{statement, FailsTrying}
use Rattle.lab_store_write.specs.Tried.{Only}
use Rattle.lab_store_write.proofs.Failing.{passed, ran_badly_by, still_on}
use Rattle.lab_store_write.proofs.ids.insert.Goals as goal

pub returns-clause-ran : goal.returns-clause-ran
returns-clause-ran g c inside clean = (c.in_ok-run.field-0, c.in_ok-run.ensures.runs inside clean, search rules)

pub returns-in_err-run-clause-failed : goal.returns-in_err-run-clause-failed
returns-in_err-run-clause-failed g c ours inside clean typed =
    let state = g.W.Writable.state in
    let goes = still_on (state c.args.tx.now) (state c.run.new.tx) c.run.ensures.stays.survives inside clean typed in
    let own = Only (statement c.args.text.now (bound c.args.params.now)) in
    passed (FailsTrying own state c.args.tx.now c.run.new.tx) (ran_badly_by state own _ _ ours c.args.tx.now c.run.new.tx _ (refl, refl) goes (c.in_err-run.ensures.runs inside clean)) c.from_residual.result c.from_residual.ensures.1
