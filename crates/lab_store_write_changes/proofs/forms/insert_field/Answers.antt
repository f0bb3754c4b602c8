use Rattle.std.proofs.Common.{◌≡◌, pos, [], ◌∷◌, refl, ap, ◌∙◌}
use Rattle.sqlite_value.specs.declared.value.Value.TheVariants.{Text}
use Rattle.sqlite.specs.Values.{bound}
use Rattle.sqlite_keyed.specs.Keyed.{next_key}
use Rattle.lab_store_tables.specs.Ready.{tables_of}
use Rattle.lab_store_write_changes.specs.Statements.{adding_field}
use Rattle.lab_store_write.specs.Tried.{Only}
use Rattle.lab_store_write.proofs.Placed.{placed_by}
use Rattle.lab_store_tables.specs.Rows.{Tables, field_id}
use Rattle.lab_store_write_changes.specs.Private.FormsAdded.{field_at, with_field}
use Rattle.lab_store_write_changes.proofs.FormWrites.{add_field_ours, add_field_text, field_values, adds_field, ids_field}
use Rattle.lab_store_write_changes.proofs.forms.insert_field.Goals as goal

pub returns : goal.returns
returns g c =
    let old = g.W.Writable.state c.args.tx.now in
    let new = g.W.Writable.state c.insert.new.tx in
    let field = c.args.field.now in
    let row = field_at c.args.form.id (next_key field_id (tables_of old).fields) c.args.place field in
    let given : bound (c.id_value.result ∷ c.place_value.result ∷ c.text_value.result ∷ c.text_value-2.result ∷ c.flag_value.result ∷ c.text_value-3.result
    ∷ c.unit_or_null.result ∷ c.decimals_or_null.result ∷ c.low_or_null.result ∷ c.high_or_null.result ∷ c.size_or_null.result ∷ [])
    ≡ field_values row = λ i. c.id_value.ensures i ∷ c.place_value.ensures i ∷ (c.text_value.ensures ∙ ap Text c.as_str-key.ensures.value) i
    ∷ (c.text_value-2.ensures ∙ ap Text c.as_str-label.ensures.value) i ∷ c.flag_value.ensures i
    ∷ (c.text_value-3.ensures ∙ ap Text c.kind_word-word.ensures) i ∷ c.unit_or_null.ensures i ∷ c.decimals_or_null.ensures i ∷ c.low_or_null.ensures i
    ∷ c.high_or_null.ensures i ∷ c.size_or_null.ensures i ∷ [] in
    placed_by {tries = Only (adding_field (field_at c.args.form.id (pos 0) c.args.place field))} add_field_text (field_values row) (add_field_ours row) (λ _. (refl, refl)) (with_field c.args.form.id c.args.place field) (λ (t : Tables). next_key field_id t.fields)
    c.insert.ensures.stays given c.insert.ensures.ran (λ count typed did. (adds_field row old new count typed refl did, ids_field row old new count typed did)) c.insert.ensures.failed
