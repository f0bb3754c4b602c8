use Rattle.std.proofs.Common.{◌≡◌, [], ◌∷◌, refl, ap, ◌∙◌}
use Rattle.sqlite_value.specs.declared.value.Value.TheVariants.{Blob}
use Rattle.sqlite.specs.Values.{bound}
use Rattle.lab_store_write.specs.Statements.{setting_session}
use Rattle.lab_store_write.specs.Tried.{Only}
use Rattle.lab_store_write.proofs.Writers.{wrote_as_by, ran_so}
use Rattle.lab_store_write.specs.Private.Added.{SetsIfAny}
use Rattle.lab_store_write.proofs.SessionWrites.{set_session_text, set_session_values, set_session_ours, sets_session}
use Rattle.lab_store_write.proofs.sessions.update_session.Goals as goal

pub returns-clause-ran : goal.returns-clause-ran
returns-clause-ran g c inside clean =
    let lab = c.args.lab.id in
    let person = c.args.person.id in
    let session = c.args.session.now in
    let given : bound (c.id_value.result ∷ c.blob_value.result ∷ c.id_value-2.result ∷ c.ordinal_value.result ∷ c.moment_value.result ∷ c.moment_value-2.result ∷ c.flag_value.result ∷ c.flag_value-2.result ∷ []) ≡ set_session_values lab person session = λ i. c.id_value.ensures i ∷ (c.blob_value.ensures ∙ ap Blob c.bytes-token.ensures) i ∷ c.id_value-2.ensures i ∷ c.ordinal_value.ensures i ∷ c.moment_value.ensures i ∷ c.moment_value-2.ensures i ∷ c.flag_value.ensures i ∷ c.flag_value-2.ensures i ∷ [] in
    ran_so (g.W.Writable.state c.args.tx.now) (g.W.Writable.state c.run.new.tx) set_session_text (set_session_values lab person session) (set_session_ours lab person session) given
    c.run.result (c.run.ensures.runs inside clean)

pub returns-clause-writes : goal.returns-clause-writes
returns-clause-writes g c =
    let old = g.W.Writable.state c.args.tx.now in
    let new = g.W.Writable.state c.run.new.tx in
    let lab = c.args.lab.id in
    let person = c.args.person.id in
    let session = c.args.session.now in
    let given : bound (c.id_value.result ∷ c.blob_value.result ∷ c.id_value-2.result ∷ c.ordinal_value.result ∷ c.moment_value.result ∷ c.moment_value-2.result ∷ c.flag_value.result ∷ c.flag_value-2.result ∷ []) ≡ set_session_values lab person session = λ i. c.id_value.ensures i ∷ (c.blob_value.ensures ∙ ap Blob c.bytes-token.ensures) i ∷ c.id_value-2.ensures i ∷ c.ordinal_value.ensures i ∷ c.moment_value.ensures i ∷ c.moment_value-2.ensures i ∷ c.flag_value.ensures i ∷ c.flag_value-2.ensures i ∷ [] in
    wrote_as_by {tries = Only (setting_session lab person session)} set_session_text (set_session_values lab person session) (set_session_ours lab person session) (λ _. (refl, refl)) (SetsIfAny lab person session) c.run.ensures.stays given c.run.ensures.runs
    (sets_session lab person session old new)
