use Rattle.std.proofs.Common.{inl, inr, pos, ℕ, ap, ◌∙◌}
use Rattle.lab_store_write.specs.Tried.{Only}
use Rattle.lab_store_write_changes.specs.Private.FormsAdded.{choice_at}
use Rattle.lab_store_write_changes.specs.Statements.{adding_choice}
use Rattle.lab_store_write_changes.specs.Tried.{TriesToAddChoice}
use Rattle.lab_store_write.proofs.Writers.{and_then, fails_so_by, then_fails_by}
use Rattle.lab_store_write_changes.proofs.FormsInTurn.{choice_added}
use Rattle.lab_store_write_changes.proofs.forms.add_choice.Goals as goal

pub returns-in_err-place : goal.returns-in_err-place
returns-in_err-place g c = fails_so_by c.in_err-place.ensures.counts {more = TriesToAddChoice c.args.field.id c.args.name.now} (λ before tried at it. inl it) c.from_residual.result c.from_residual.ensures.1

pub returns-in_err-insert_choice : goal.returns-in_err-insert_choice
returns-in_err-insert_choice g c =
    let field = c.args.field.id in
    let sent = λ (place : ℕ). adding_choice (choice_at field (pos 0) place c.args.name.now) in
    then_fails_by c.in_ok-place.ensures.counts {tries = Only (sent c.in_ok-place.place)} {more = TriesToAddChoice field c.args.name.now} c.in_err-insert_choice.ensures
    (λ before mid tried at counted it. inr (it.0 ∙ ap sent counted.0, it.1 ∙ counted.1))
    c.from_residual-in_err-insert_choice.result c.from_residual-in_err-insert_choice.ensures.1

pub returns : goal.returns
returns g c =
    and_then c.in_ok-place.ensures.counts c.in_ok-insert_choice.ensures
    (choice_added c.args.field.id c.args.name.now c.in_ok-place.place _ _ _)
