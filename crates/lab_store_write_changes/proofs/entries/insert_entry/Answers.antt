use Rattle.std.proofs.Common.{◌≡◌, pos, [], ◌∷◌, refl, ap, ◌∙◌}
use Rattle.sqlite_value.specs.declared.value.Value.TheVariants.{Text}
use Rattle.sqlite.specs.Values.{bound}
use Rattle.sqlite_keyed.specs.Keyed.{next_key}
use Rattle.lab_store_tables.specs.Rows.{entry_id}
use Rattle.lab_store_tables.specs.Ready.{tables_of}
use Rattle.lab_store_write_changes.specs.Statements.{adding_entry}
use Rattle.lab_store_write.specs.Tried.{Only}
use Rattle.lab_store_write.proofs.Writers.{wrote_by}
use Rattle.lab_store_write_changes.specs.Private.EntriesAdded.{entry_at, with_entry}
use Rattle.lab_store_write_changes.proofs.EntryWrites.{add_entry_ours, add_entry_text, entry_values, adds_entry}
use Rattle.lab_store_write_changes.proofs.entries.insert_entry.Goals as goal

pub returns : goal.returns
returns g c =
    let old = g.W.Writable.state c.args.tx.now in
    let new = g.W.Writable.state c.run.new.tx in
    let row = entry_at c.args.version.id (next_key entry_id (tables_of old).entries) c.args.place c.args.person.id c.args.entry.now in
    let given : bound (c.id_value.result ∷ c.place_value.result ∷ c.text_value.result ∷ c.text_value-2.result ∷ c.text_value-3.result ∷ c.id_value-2.result
    ∷ c.moment_value.result ∷ c.note_or_null.result ∷ []) ≡ entry_values row = λ i. c.id_value.ensures i ∷ c.place_value.ensures i
    ∷ (c.text_value.ensures ∙ ap Text c.as_str-key.ensures.value) i ∷ (c.text_value-2.ensures ∙ ap Text c.as_str-value.ensures.value) i
    ∷ (c.text_value-3.ensures ∙ ap Text c.as_str-unit.ensures.value) i ∷ c.id_value-2.ensures i ∷ c.moment_value.ensures i ∷ c.note_or_null.ensures i
    ∷ [] in
    wrote_by {tries = Only (adding_entry (entry_at c.args.version.id (pos 0) c.args.place c.args.person.id c.args.entry.now))} add_entry_text (entry_values row) (add_entry_ours row) (λ _. (refl, refl)) (with_entry c.args.version.id c.args.place c.args.person.id c.args.entry.now) c.run.ensures.stays given c.run.ensures.runs
    (λ count typed did. adds_entry row old new count typed refl did)
