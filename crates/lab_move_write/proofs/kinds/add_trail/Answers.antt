use Rattle.std.proofs.Common.{map, arith}
use Rattle.lab_records_kept.specs.declared.changes.Change.TheVariants.{TrailAdded}
use Rattle.lab_store_write.proofs.Givers.{by_nobody}
use Rattle.lab_move_write.proofs.Turns.{nothing_made, item_more, item_fails, items_made, one_made, by_one}
use Rattle.lab_move_write.proofs.kinds.add_trail.Goals as goal

pub loop-told-init : goal.loop-told-init
loop-told-init g c = nothing_made c.args.lab.id c.args.tx.now tt

pub loop-told-preserved : goal.loop-told-preserved
loop-told-preserved g c =
    item_more c.args.lab.id (map TrailAdded) (by_one TrailAdded) c.args.trail.now c.loop-told.told-index c.loop-told.invariant c.told-item.result c.told-item.is
    (omega (arith, c.loop-told-test.true)) (one_made c.args.lab.id (TrailAdded c.told-item.result) (by_nobody c.args.lab.id c.in_ok-add_told.ensures))

pub returns-in_err-add_told : goal.returns-in_err-add_told
returns-in_err-add_told g c =
    item_fails c.args.lab.id (map TrailAdded) (by_one TrailAdded) c.args.trail.now c.loop-told.told-index c.loop-told.invariant (one_made c.args.lab.id (TrailAdded c.told-item.result) (by_nobody c.args.lab.id c.in_err-add_told.ensures))
    c.from_residual.result c.from_residual.ensures.1

pub returns : goal.returns
returns g c =
    items_made c.args.lab.id (map TrailAdded) (by_one TrailAdded) c.args.trail.now c.loop-told.told-index c.loop-told.invariant (omega (arith, c.loop-told-test.false))
