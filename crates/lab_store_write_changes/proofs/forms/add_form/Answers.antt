use Rattle.std.proofs.Common.{List, ℤ, inl, inr, subst}
use Rattle.lab_store_tables.specs.Changes.{InTurn, AddsField}
use Rattle.lab_store_write.specs.Calls.{Steps}
use Rattle.sqlite_keyed.specs.Keyed.{next_key}
use Rattle.lab_forms.specs.declared.forms.Field.{Field}
use Rattle.lab_records_kept.specs.declared.changes.Change.TheVariants.{FormAdded}
use Rattle.lab_store_tables.specs.Rows.{Tables, form_id}
use Rattle.lab_store_write_changes.specs.Tried.{TriesToAddFields, TriesIn}
use Rattle.lab_store_write.proofs.Writers.{and_then, fails_so_by, then_fails_by}
use Rattle.lab_store_write_changes.proofs.FormsInTurn.{form_added}
use Rattle.lab_store_write_changes.proofs.forms.add_form.Goals as goal

pub returns-in_err-id : goal.returns-in_err-id
returns-in_err-id g c = fails_so_by c.in_err-id.ensures {more = TriesIn c.args.lab.id (FormAdded c.args.form.now)} (λ before tried at it. inl it) c.from_residual.result c.from_residual.ensures.1

pub returns-in_err-add_fields : goal.returns-in_err-add_fields
returns-in_err-add_fields g c =
    let form = c.args.form.now in
    then_fails_by c.in_ok-id.ensures {tries = TriesToAddFields c.in_ok-id.id.id c.fields.result.now} {more = TriesIn c.args.lab.id (FormAdded c.args.form.now)} c.in_err-add_fields.ensures
    (λ before mid tried at placed it.
    inr (subst (λ (t : Tables). TriesToAddFields (next_key form_id before.forms) form.form.fields t tried at) placed.1
    (subst (λ (i : ℤ). TriesToAddFields i form.form.fields mid tried at) placed.0
    (subst (λ (fields : List Field). TriesToAddFields c.in_ok-id.id.id fields mid tried at) c.fields.ensures.value it))))
    c.from_residual-in_err-add_fields.result c.from_residual-in_err-add_fields.ensures.1

pub returns : goal.returns
returns g c =
    let two = g.W.Writable.state c.insert_form.new.tx in
    let three = g.W.Writable.state c.add_fields.new.tx in
    and_then c.in_ok-id.ensures c.in_ok-add_fields.ensures (λ placed added. form_added c.args.lab.id c.args.form.now c.in_ok-id.id.id _ _ _ placed
    (subst (λ fields. Steps (InTurn (AddsField c.in_ok-id.id.id) fields) two three) c.fields.ensures.value added))
