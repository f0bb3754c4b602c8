use Rattle.std.proofs.Common.{arith}
use Rattle.lab_store_tables.specs.Changes.{AddsTold}
use Rattle.lab_store_write.proofs.Givers.{by_nobody}
use Rattle.lab_store_write.proofs.Writers.{turns_begun, turns_on, turns_ended, then_fails}
use Rattle.lab_store_write_changes.proofs.rows.add_trail.Goals as goal

pub loop-told-init : goal.loop-told-init
loop-told-init g c = turns_begun (AddsTold c.args.lab.id) c.args.tx.now tt

pub loop-told-preserved : goal.loop-told-preserved
loop-told-preserved g c =
    turns_on (AddsTold c.args.lab.id) c.args.trail.now c.loop-told.told-index c.loop-told.invariant c.told-item.result c.told-item.is
    (omega (arith, c.loop-told-test.true)) (by_nobody c.args.lab.id c.in_ok-add_told.ensures)

pub returns-in_err-add_told : goal.returns-in_err-add_told
returns-in_err-add_told g c = then_fails c.loop-told.invariant c.in_err-add_told.ensures c.from_residual.result c.from_residual.ensures.1

pub returns : goal.returns
returns g c = turns_ended (AddsTold c.args.lab.id) c.args.trail.now c.loop-told.told-index c.loop-told.invariant (omega (arith, c.loop-told-test.false))
