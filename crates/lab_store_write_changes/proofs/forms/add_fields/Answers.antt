use Rattle.std.proofs.Common.{arith}
use Rattle.lab_store_tables.specs.Changes.{AddsField}
use Rattle.lab_store_write_changes.specs.Tried.{TriesToAddField, TriesToAddFields}
use Rattle.lab_store_write.proofs.Trying.{in_turn}
use Rattle.lab_store_write.proofs.Writers.{turns_begun, turns_on, turns_ended, then_fails_by}
use Rattle.lab_store_write_changes.proofs.forms.add_fields.Goals as goal

pub loop-one-init : goal.loop-one-init
loop-one-init g c = turns_begun (AddsField c.args.form.id) c.args.tx.now tt

pub loop-one-preserved : goal.loop-one-preserved
loop-one-preserved g c =
    turns_on (AddsField c.args.form.id) c.args.fields.now c.loop-one.one-index c.loop-one.invariant c.one-item.result c.one-item.is (omega (arith, c.loop-one-test.true))
    c.in_ok-add_field.ensures

pub returns-in_err-add_field : goal.returns-in_err-add_field
returns-in_err-add_field g c =
    then_fails_by c.loop-one.invariant {tries = TriesToAddField c.args.form.id c.one-item.result} {more = TriesToAddFields c.args.form.id c.args.fields.now} c.in_err-add_field.ensures
    (in_turn (AddsField c.args.form.id) (TriesToAddField c.args.form.id) c.args.fields.now c.loop-one.one-index c.one-item.result c.one-item.is (omega (arith, c.loop-one-test.true)))
    c.from_residual.result c.from_residual.ensures.1

pub returns : goal.returns
returns g c = turns_ended (AddsField c.args.form.id) c.args.fields.now c.loop-one.one-index c.loop-one.invariant (omega (arith, c.loop-one-test.false))
