use Rattle.std.proofs.Common.{map, arith}
use Rattle.lab_records_kept.specs.declared.changes.Change.TheVariants.{FormAdded}
use Rattle.lab_store_write.proofs.Writers.{untold}
use Rattle.lab_move_write.proofs.Turns.{nothing_made, item_more, item_fails, items_made, one_made, by_one}
use Rattle.lab_move_write.proofs.kinds.add_forms.Goals as goal

pub loop-form-init : goal.loop-form-init
loop-form-init g c = nothing_made c.args.lab.id c.args.tx.now tt

pub loop-form-preserved : goal.loop-form-preserved
loop-form-preserved g c =
    item_more c.args.lab.id (map FormAdded) (by_one FormAdded) c.args.forms.now c.loop-form.form-index c.loop-form.invariant c.form-item.result c.form-item.is
    (omega (arith, c.loop-form-test.true)) (one_made c.args.lab.id (FormAdded c.form-item.result) (untold c.in_ok-add_form.ensures))

pub returns-in_err-add_form : goal.returns-in_err-add_form
returns-in_err-add_form g c =
    item_fails c.args.lab.id (map FormAdded) (by_one FormAdded) c.args.forms.now c.loop-form.form-index c.loop-form.invariant (one_made c.args.lab.id (FormAdded c.form-item.result) (untold c.in_err-add_form.ensures))
    c.from_residual.result c.from_residual.ensures.1

pub returns : goal.returns
returns g c =
    items_made c.args.lab.id (map FormAdded) (by_one FormAdded) c.args.forms.now c.loop-form.form-index c.loop-form.invariant (omega (arith, c.loop-form-test.false))
