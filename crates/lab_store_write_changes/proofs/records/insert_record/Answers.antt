use Rattle.std.proofs.Common.{◌≡◌, pos, List, [], ◌∷◌, length, refl, ap, ◌∙◌}
use Rattle.sqlite_value.specs.declared.value.Value.TheVariants.{Text}
use Rattle.sqlite.specs.Values.{bound}
use Rattle.sqlite_keyed.specs.Keyed.{next_key}
use Rattle.lab_store_tables.specs.Ready.{tables_of}
use Rattle.lab_store_write_changes.specs.Statements.{adding_record}
use Rattle.lab_store_write.specs.Tried.{Only}
use Rattle.lab_store_write.proofs.Placed.{placed_by}
use Rattle.lab_store_tables.specs.Rows.{Tables, number, record_id}
use Rattle.lab_records_kept.specs.declared.records.Version.{Version}
use Rattle.lab_store_tables.specs.Changes.{record_row_of}
use Rattle.lab_store_write_changes.specs.RecordsAdded.{with_record}
use Rattle.lab_store_write_changes.proofs.RecordWrites.{add_record_ours, add_record_text, record_values, adds_record, ids_record}
use Rattle.lab_store_write_changes.proofs.records.insert_record.Goals as goal

pub returns : goal.returns
returns g c =
    let old = g.W.Writable.state c.args.tx.now in
    let new = g.W.Writable.state c.insert.new.tx in
    let kept = c.args.kept.now in
    let row = record_row_of c.args.lab.id (next_key record_id (tables_of old).records) c.args.form.id kept in
    let given : bound (c.id_value.result ∷ c.ordinal_value.result ∷ c.id_value-2.result ∷ c.text_value.result ∷ c.text_value-2.result
    ∷ c.place_value.result ∷ []) ≡ record_values row = λ i. c.id_value.ensures i ∷ c.ordinal_value.ensures i ∷ c.id_value-2.ensures i
    ∷ (c.text_value.ensures ∙ ap Text c.as_str-code.ensures.value) i ∷ (c.text_value-2.ensures ∙ ap Text c.as_str-sample.ensures.value) i
    ∷ (c.place_value.ensures ∙ ap (λ (versions : List Version). number (length versions)) c.as_slice-versions.ensures) i ∷ [] in
    placed_by {tries = Only (adding_record (record_row_of c.args.lab.id (pos 0) c.args.form.id kept))} add_record_text (record_values row) (add_record_ours row) (λ _. (refl, refl)) (with_record c.args.lab.id c.args.form.id kept) (λ (t : Tables). next_key record_id t.records)
    c.insert.ensures.stays given c.insert.ensures.ran (λ count typed did. (adds_record row old new count typed refl did, ids_record row old new count typed did)) c.insert.ensures.failed
