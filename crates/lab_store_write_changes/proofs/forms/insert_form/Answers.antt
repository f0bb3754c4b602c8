use Rattle.std.proofs.Common.{◌≡◌, pos, [], ◌∷◌, refl, ap, ◌∙◌}
use Rattle.sqlite_value.specs.declared.value.Value.TheVariants.{Text}
use Rattle.sqlite.specs.Values.{bound}
use Rattle.sqlite_keyed.specs.Keyed.{next_key}
use Rattle.lab_store_tables.specs.Ready.{tables_of}
use Rattle.lab_store_write_changes.specs.Statements.{adding_form}
use Rattle.lab_store_write.specs.Tried.{Only}
use Rattle.lab_store_write.proofs.Placed.{placed_by}
use Rattle.lab_store_tables.specs.Rows.{Tables, flag, form_id}
use Rattle.lab_store_tables.specs.Changes.{form_row_of}
use Rattle.lab_store_write_changes.specs.FormsAdded.{with_form}
use Rattle.lab_store_write_changes.proofs.FormWrites.{add_form_ours, add_form_text, form_values, adds_form, ids_form}
use Rattle.lab_store_write_changes.proofs.forms.insert_form.Goals as goal

pub returns : goal.returns
returns g c =
    let old = g.W.Writable.state c.args.tx.now in
    let new = g.W.Writable.state c.insert.new.tx in
    let form = c.args.form.now in
    let row = form_row_of c.args.lab.id (next_key form_id (tables_of old).forms) form in
    let given : bound (c.id_value.result ∷ c.text_value.result ∷ c.ordinal_value.result ∷ c.flag_value.result ∷ [])
    ≡ form_values row = λ i. c.id_value.ensures i ∷ (c.text_value.ensures ∙ ap Text c.as_str-code.ensures.value) i ∷ c.ordinal_value.ensures i
    ∷ (c.flag_value.ensures ∙ ap flag c.approval-approval.ensures) i ∷ [] in
    placed_by {tries = Only (adding_form (form_row_of c.args.lab.id (pos 0) form))} add_form_text (form_values row) (add_form_ours row) (λ _. (refl, refl)) (with_form c.args.lab.id form) (λ (t : Tables). next_key form_id t.forms)
    c.insert.ensures.stays given c.insert.ensures.ran (λ count typed did. (adds_form row old new count typed refl did, ids_form row old new count typed did)) c.insert.ensures.failed
