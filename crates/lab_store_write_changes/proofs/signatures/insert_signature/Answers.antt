use Rattle.std.proofs.Common.{◌≡◌, pos, [], ◌∷◌, refl, ap, ◌∙◌}
use Rattle.sqlite_value.specs.declared.value.Value.TheVariants.{Text, Blob}
use Rattle.sqlite.specs.Values.{bound}
use Rattle.sqlite_keyed.specs.Keyed.{next_key}
use Rattle.lab_store_tables.specs.Rows.{signature_id}
use Rattle.lab_store_tables.specs.Ready.{tables_of}
use Rattle.lab_store_write_changes.specs.Statements.{adding_signature}
use Rattle.lab_store_write.specs.Tried.{Only}
use Rattle.lab_store_write.proofs.Writers.{wrote_by}
use Rattle.lab_store_write_changes.specs.Private.EntriesAdded.{signature_at, with_signature}
use Rattle.lab_store_write_changes.proofs.EntryWrites.{add_signature_ours, add_signature_text, signature_values, adds_signature}
use Rattle.lab_store_write_changes.proofs.signatures.insert_signature.Goals as goal

pub returns : goal.returns
returns g c =
    let old = g.W.Writable.state c.args.tx.now in
    let new = g.W.Writable.state c.run.new.tx in
    let row = signature_at c.args.version.id (next_key signature_id (tables_of old).signatures) c.args.place c.args.person.id c.args.signature.now in
    let given : bound (c.id_value.result ∷ c.place_value.result ∷ c.id_value-2.result ∷ c.text_value.result ∷ c.text_value-2.result ∷ c.moment_value.result
    ∷ c.reason_or_null.result ∷ c.blob_value.result ∷ c.blob_value-2.result ∷ []) ≡ signature_values row = λ i. c.id_value.ensures i
    ∷ c.place_value.ensures i ∷ c.id_value-2.ensures i ∷ (c.text_value.ensures ∙ ap Text c.as_str-name.ensures.value) i
    ∷ (c.text_value-2.ensures ∙ ap Text c.word-meaning.ensures) i ∷ c.moment_value.ensures i ∷ c.reason_or_null.ensures i
    ∷ (c.blob_value.ensures ∙ ap Blob c.bytes-digest.ensures) i ∷ (c.blob_value-2.ensures ∙ ap Blob c.bytes-seal.ensures) i ∷ [] in
    wrote_by {tries = Only (adding_signature (signature_at c.args.version.id (pos 0) c.args.place c.args.person.id c.args.signature.now))} add_signature_text (signature_values row) (add_signature_ours row) (λ _. (refl, refl)) (with_signature c.args.version.id c.args.place c.args.person.id c.args.signature.now)
    c.run.ensures.stays given c.run.ensures.runs (λ count typed did. adds_signature row old new count typed refl did)
