use Rattle.std.proofs.Common.{map, arith}
use Rattle.lab_records_kept.specs.declared.changes.Change.TheVariants.{RecordAdded}
use Rattle.lab_store_write.proofs.Givers.{by_nobody}
use Rattle.lab_move_write.proofs.Turns.{nothing_made, item_more, item_fails, items_made, one_made, by_one}
use Rattle.lab_move_write.proofs.kinds.add_records.Goals as goal

pub loop-place-init : goal.loop-place-init
loop-place-init g c = nothing_made c.args.lab.id c.args.tx.now tt

pub loop-place-preserved : goal.loop-place-preserved
loop-place-preserved g c =
    item_more c.args.lab.id (map RecordAdded) (by_one RecordAdded) c.args.records.now c.loop-place.place c.loop-place.invariant c.index-records-place.result c.index-records-place.is
    (omega (arith, c.loop-place-test.true)) (one_made c.args.lab.id (RecordAdded c.index-records-place.result) (by_nobody c.args.lab.id c.in_ok-add_record.ensures))

pub returns-in_err-add_record : goal.returns-in_err-add_record
returns-in_err-add_record g c =
    item_fails c.args.lab.id (map RecordAdded) (by_one RecordAdded) c.args.records.now c.loop-place.place c.loop-place.invariant (one_made c.args.lab.id (RecordAdded c.index-records-place.result) (by_nobody c.args.lab.id c.in_err-add_record.ensures))
    c.from_residual.result c.from_residual.ensures.1

pub returns : goal.returns
returns g c =
    items_made c.args.lab.id (map RecordAdded) (by_one RecordAdded) c.args.records.now c.loop-place.place c.loop-place.invariant (omega (arith, c.loop-place-test.false))
