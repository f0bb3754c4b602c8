use Rattle.std.proofs.Common.{◌≡◌, [], ◌∷◌, option_map, refl, ap, ◌∙◌}
use Rattle.sqlite_value.specs.declared.value.Value.TheVariants.{Text}
use Rattle.sqlite.specs.Values.{bound}
use Rattle.sqlite_keyed.specs.Keyed.{next_key}
use Rattle.lab_store_tables.specs.Rows.{trail_id}
use Rattle.lab_store_tables.specs.Changes.{told_row_of}
use Rattle.lab_store_tables.specs.Ready.{tables_of}
use Rattle.lab_store_write.specs.Ids.{row_id}
use Rattle.lab_store_write.specs.TrailAdded.{with_told}
use Rattle.lab_store_tables.specs.Family.{Trail}
use Rattle.lab_store_write.proofs.Inserts.{adds_ours}
use Rattle.lab_store_write.specs.Statements.{adding_told}
use Rattle.lab_store_write.specs.Tried.{Only}
use Rattle.lab_store_write.proofs.Writers.{wrote_by}
use Rattle.lab_store_write.proofs.TrailWrites.{add_told_text, told_values, adds_told}
use Rattle.lab_store_write.proofs.trails.insert_told.Goals as goal

pub returns : goal.returns
returns g c =
    let old = g.W.Writable.state c.args.tx.now in
    let new = g.W.Writable.state c.run.new.tx in
    let lab = c.args.lab.id in
    let person = option_map row_id c.args.person in
    let told = c.args.told.now in
    let row = told_row_of lab (next_key trail_id (tables_of old).trail) person told in
    let given : bound (c.id_value.result ∷ c.ordinal_value.result ∷ c.moment_value.result ∷ c.id_or_null.result ∷ c.text_value.result ∷ c.text_value-2.result ∷ []) ≡ told_values row = λ i. c.id_value.ensures i ∷ c.ordinal_value.ensures i ∷ c.moment_value.ensures i ∷ c.id_or_null.ensures i ∷ (c.text_value.ensures ∙ ap Text c.word-action.ensures) i ∷ (c.text_value-2.ensures ∙ ap Text c.as_str-subject.ensures.value) i ∷ [] in
    wrote_by {tries = Only (adding_told lab person told)} add_told_text (told_values row) (adds_ours Trail row) (λ _. (refl, refl)) (with_told lab person told) c.run.ensures.stays given c.run.ensures.runs
    (λ count typed did. adds_told row old new count typed refl did)
