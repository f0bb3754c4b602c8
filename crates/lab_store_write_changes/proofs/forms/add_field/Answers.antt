use Rattle.std.proofs.Common.{inl, inr, pos, ℕ, ℤ, ap, subst, ◌∙◌}
use Rattle.sqlite_keyed.specs.Keyed.{next_key}
use Rattle.lab_store_tables.specs.Rows.{Tables, field_id}
use Rattle.lab_store_tables.specs.Columns.{kind_names}
use Rattle.lab_store_tables.specs.Changes.{put_field}
use Rattle.lab_store_write.specs.Tried.{Only}
use Rattle.lab_store_write_changes.specs.Private.FormsAdded.{field_at, with_field}
use Rattle.lab_store_write_changes.specs.Statements.{adding_field}
use Rattle.lab_store_write_changes.specs.Tried.{TriesToAddChoices, TriesToAddField}
use Rattle.lab_store_write.proofs.Writers.{and_two, fails_so_by, then_fails_by, then_third_fails_by}
use Rattle.lab_store_write_changes.proofs.FormsInTurn.{field_added}
use Rattle.lab_store_write_changes.proofs.forms.add_field.Goals as goal

pub returns-in_err-place : goal.returns-in_err-place
returns-in_err-place g c = fails_so_by c.in_err-place.ensures.counts {more = TriesToAddField c.args.form.id c.args.field.now} (λ before tried at it. inl it) c.from_residual.result c.from_residual.ensures.1

pub returns-in_err-id : goal.returns-in_err-id
returns-in_err-id g c =
    let form = c.args.form.id in
    let sent = λ (place : ℕ). adding_field (field_at form (pos 0) place c.args.field.now) in
    then_fails_by c.in_ok-place.ensures.counts {tries = Only (sent c.in_ok-place.place)} {more = TriesToAddField c.args.form.id c.args.field.now} c.in_err-id.ensures
    (λ before mid tried at counted it. inr (inl (it.0 ∙ ap sent counted.0, it.1 ∙ counted.1)))
    c.from_residual-in_err-id.result c.from_residual-in_err-id.ensures.1

pub returns-in_err-add_kind : goal.returns-in_err-add_kind
returns-in_err-add_kind g c =
    let form = c.args.form.id in
    let field = c.args.field.now in
    let place = c.in_ok-place.place in
    let id = c.in_ok-id.id.id in
    let names = kind_names field.kind in
    then_third_fails_by c.in_ok-place.ensures.counts c.in_ok-id.ensures {third = TriesToAddChoices id names} {more = TriesToAddField c.args.form.id c.args.field.now} c.in_err-add_kind.ensures
    (λ before mid late tried at counted placed it.
    let next = next_key field_id before.fields in
    let put = placed.1 ∙ ap (with_field form place field) counted.1 ∙ ap (λ (n : ℕ). put_field (field_at form next n field) before) counted.0 in
    inr (inr (subst (λ (t : Tables). TriesToAddChoices next names t tried at) put
    (subst (λ (i : ℤ). TriesToAddChoices i names late tried at) (placed.0 ∙ ap (λ (t : Tables). next_key field_id t.fields) counted.1) it))))
    c.from_residual-in_err-add_kind.result c.from_residual-in_err-add_kind.ensures.1

pub returns : goal.returns
returns g c =
    and_two c.in_ok-place.ensures.counts c.in_ok-id.ensures c.in_ok-add_kind.ensures
    (field_added c.args.form.id c.args.field.now c.in_ok-place.place c.in_ok-id.id.id _ _ _ _)
