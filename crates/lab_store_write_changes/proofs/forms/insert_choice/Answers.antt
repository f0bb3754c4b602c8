use Rattle.std.proofs.Common.{◌≡◌, pos, [], ◌∷◌, refl, ap, ◌∙◌}
use Rattle.sqlite_value.specs.declared.value.Value.TheVariants.{Text}
use Rattle.sqlite.specs.Values.{bound}
use Rattle.sqlite_keyed.specs.Keyed.{next_key}
use Rattle.lab_store_tables.specs.Rows.{choice_id}
use Rattle.lab_store_tables.specs.Ready.{tables_of}
use Rattle.lab_store_write_changes.specs.Statements.{adding_choice}
use Rattle.lab_store_write.specs.Tried.{Only}
use Rattle.lab_store_write.proofs.Writers.{wrote_by}
use Rattle.lab_store_write_changes.specs.Private.FormsAdded.{choice_at, with_choice}
use Rattle.lab_store_write_changes.proofs.FormWrites.{add_choice_ours, add_choice_text, choice_values, adds_choice}
use Rattle.lab_store_write_changes.proofs.forms.insert_choice.Goals as goal

pub returns : goal.returns
returns g c =
    let old = g.W.Writable.state c.args.tx.now in
    let new = g.W.Writable.state c.run.new.tx in
    let row = choice_at c.args.field.id (next_key choice_id (tables_of old).choices) c.args.place c.args.name.now in
    let given : bound (c.id_value.result ∷ c.place_value.result ∷ c.text_value.result ∷ []) ≡ choice_values row = λ i. c.id_value.ensures i ∷ c.place_value.ensures i
    ∷ (c.text_value.ensures ∙ ap Text c.as_str.ensures.value) i ∷ [] in
    wrote_by {tries = Only (adding_choice (choice_at c.args.field.id (pos 0) c.args.place c.args.name.now))} add_choice_text (choice_values row) (add_choice_ours row) (λ _. (refl, refl)) (with_choice c.args.field.id c.args.place c.args.name.now) c.run.ensures.stays given c.run.ensures.runs
    (λ count typed did. adds_choice row old new count typed refl did)
