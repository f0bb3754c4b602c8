use Rattle.std.proofs.Common.{◌≡◌, [], ◌∷◌, refl, ap, ◌∙◌}
use Rattle.sqlite_value.specs.declared.value.Value.TheVariants.{Blob}
use Rattle.sqlite.specs.Values.{bound}
use Rattle.sqlite_keyed.specs.Keyed.{next_key}
use Rattle.lab_store_tables.specs.Rows.{session_id}
use Rattle.lab_store_tables.specs.Changes.{session_row_of}
use Rattle.lab_store_tables.specs.Ready.{tables_of}
use Rattle.lab_store_write.specs.Added.{with_session}
use Rattle.lab_store_write.specs.Statements.{adding_session}
use Rattle.lab_store_write.specs.Tried.{Only}
use Rattle.lab_store_write.proofs.Writers.{wrote_by}
use Rattle.lab_store_write.proofs.SessionWrites.{add_session_ours, add_session_text, session_values, adds_session}
use Rattle.lab_store_write.proofs.sessions.insert_session.Goals as goal

pub returns : goal.returns
returns g c =
    let old = g.W.Writable.state c.args.tx.now in
    let new = g.W.Writable.state c.run.new.tx in
    let lab = c.args.lab.id in
    let session = c.args.session.now in
    let row = session_row_of lab (next_key session_id (tables_of old).sessions) c.args.person.id session in
    let given : bound (c.id_value.result ∷ c.id_value-2.result ∷ c.ordinal_value.result ∷ c.blob_value.result ∷ c.moment_value.result ∷ c.moment_value-2.result ∷ c.flag_value.result ∷ c.flag_value-2.result ∷ []) ≡ session_values row = λ i. c.id_value.ensures i ∷ c.id_value-2.ensures i ∷ c.ordinal_value.ensures i ∷ (c.blob_value.ensures ∙ ap Blob c.bytes-token.ensures) i ∷ c.moment_value.ensures i ∷ c.moment_value-2.ensures i ∷ c.flag_value.ensures i ∷ c.flag_value-2.ensures i ∷ [] in
    wrote_by {tries = Only (adding_session lab c.args.person.id session)} add_session_text (session_values row) (add_session_ours row) (λ _. (refl, refl)) (with_session lab c.args.person.id session) c.run.ensures.stays given c.run.ensures.runs
    (λ count typed did. adds_session row old new count typed refl did)
