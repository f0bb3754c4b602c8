use Rattle.std.proofs.Common.{arith}
use Rattle.lab_store_tables.specs.Changes.{AddsChoice}
use Rattle.lab_store_write_changes.specs.Tried.{TriesToAddChoice, TriesToAddChoices}
use Rattle.lab_store_write.proofs.Trying.{in_turn}
use Rattle.lab_store_write.proofs.Writers.{turns_begun, turns_on, turns_ended, then_fails_by}
use Rattle.lab_store_write_changes.proofs.forms.add_choices.Goals as goal

pub loop-one-init : goal.loop-one-init
loop-one-init g c = turns_begun (AddsChoice c.args.field.id) c.args.tx.now tt

pub loop-one-preserved : goal.loop-one-preserved
loop-one-preserved g c =
    turns_on (AddsChoice c.args.field.id) c.args.names.now c.loop-one.one-index c.loop-one.invariant c.one-item.result c.one-item.is (omega (arith, c.loop-one-test.true))
    c.in_ok-add_choice.ensures

pub returns-in_err-add_choice : goal.returns-in_err-add_choice
returns-in_err-add_choice g c =
    then_fails_by c.loop-one.invariant {tries = TriesToAddChoice c.args.field.id c.one-item.result} {more = TriesToAddChoices c.args.field.id c.args.names.now} c.in_err-add_choice.ensures
    (in_turn (AddsChoice c.args.field.id) (TriesToAddChoice c.args.field.id) c.args.names.now c.loop-one.one-index c.one-item.result c.one-item.is (omega (arith, c.loop-one-test.true)))
    c.from_residual.result c.from_residual.ensures.1

pub returns : goal.returns
returns g c = turns_ended (AddsChoice c.args.field.id) c.args.names.now c.loop-one.one-index c.loop-one.invariant (omega (arith, c.loop-one-test.false))
