use Rattle.std.proofs.Common.{◌<◌, length, subst, arith}
use Rattle.sqlite.specs.State.{HasCleanDisk}
use Rattle.lab_records_kept.specs.declared.changes.Change.{Change}
use Rattle.lab_store_tables.specs.Ready.{tables_of}
use Rattle.lab_store_tables.specs.Steps.{AppliesWhereKept, StepsBy}
use Rattle.lab_store_write.specs.Calls.{Steps, MadeFrom}
use Rattle.lab_store_write.specs.Givers.{Knows}
use Rattle.lab_store_write.specs.Tried.{TriedFrom}
use Rattle.lab_store_write.proofs.Trying.{in_turn}
use Rattle.lab_store_write.proofs.Writers.{nothing_done, stays_then}
use Rattle.lab_store_write_changes.specs.Tried.{TriesIn, TriesEach}
use Rattle.lab_store_write_changes.proofs.KnownSteps.{none_known, one_more_known}
use Rattle.lab_store_write_changes.proofs.Failures.{one_failed}
use Rattle.lab_store_write_changes.proofs.changes.each_inside.Goals as goal

pub loop-change-init : goal.loop-change-init
loop-change-init g c = (
  nothing_done c.args.tx.now,
  λ inside clean. inside,
  λ spared inside clean rules. none_known c.args.lab.id c.args.giver (g.W.Writable.state c.args.tx.now) inside,
)

pub loop-change-preserved : goal.loop-change-preserved
loop-change-preserved g c =
    let old = g.W.Writable.state c.args.tx.now in
    let mid = g.W.Writable.state c.loop-change.tx in
    let new = g.W.Writable.state c.change_rows.new.tx in
    let inv = c.loop-change.invariant in
    let i = c.loop-change.change-index in
    let did = c.in_ok-change_rows.ensures in
    let early : HasCleanDisk new → HasCleanDisk mid = λ clean. omega (arith, did.stays.survives.clean) in
    let within : i < length c.args.changes.now = omega (arith, c.loop-change-test.true) in (
      stays_then inv.0 inv.1 did.stays,
      λ inside clean. (did.made (inv.1 inside (early clean)) clean).inside,
      λ spared inside clean rules. one_more_known c.args.lab.id c.args.giver c.args.changes.now i c.change-item.result within spared old mid new rules
          (inv.2 spared inside (early clean) rules)
          (subst (λ (one : Change). Steps (MadeFrom (Knows c.args.lab.id c.args.giver) (AppliesWhereKept c.args.lab.id one)) mid new) c.change-item.is
          (did.made (inv.1 inside (early clean)) clean)),
    )

pub returns-in_err-change_rows-clause-failed : goal.returns-in_err-change_rows-clause-failed
returns-in_err-change_rows-clause-failed g c spared rules inside clean typed =
    let old = g.W.Writable.state c.args.tx.now in
    let mid = g.W.Writable.state c.loop-change.tx in
    let new = g.W.Writable.state c.change_rows.new.tx in
    let lab = c.args.lab.id in
    let changes = c.args.changes.now in
    let i = c.loop-change.change-index in
    let one = c.change-item.result in
    let knows = Knows lab c.args.giver in
    let inv = c.loop-change.invariant in
    let did = c.in_err-change_rows.ensures in
    let early : HasCleanDisk new → HasCleanDisk mid = λ clean. omega (arith, did.stays.survives.clean) in
    let within : i < length changes = omega (arith, c.loop-change-test.true) in
    let so_far = inv.2 spared inside (early clean) rules in
    let done = so_far.made typed in
    one_failed g.W.Writable.state {tries = TriedFrom knows (TriesIn lab one)} (TriedFrom knows (TriesEach lab changes)) c.args.tx.now c.loop-change.tx c.change_rows.new.tx changes i one c.change-item.is within
    (λ tried at it known. let both = done.1 known in in_turn (StepsBy lab) (TriesIn lab) changes i one c.change-item.is within (tables_of old) (tables_of mid) tried at both.0 (it both.1))
    inv.0.survives (did.failed so_far.inside clean done.0)
    c.from_residual.result c.from_residual.ensures.1
