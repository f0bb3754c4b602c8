use Rattle.std.proofs.Common.{w64, ◌∙◌, ap, sym, subst, option_map, slice_get}
use Rattle.std.proofs.lemmas.Int.{to_z-of_z}
use Rattle.lab_people_access.specs.Sessions.{session_of}
use Rattle.lab_store_tables.specs.Meaning.{sessions_of}
use Rattle.lab_store_tables.specs.Ready.{tables_of}
use Rattle.lab_store_read.proofs.Queries.{if_then}
use Rattle.lab_store_read.proofs.Readers.{reads_and}
use Rattle.lab_store_read.specs.Causes.{HasFirst}
use Rattle.lab_store_read.proofs.Causes.{made_so, made_if}
use Rattle.lab_store_read_people.specs.Private.SessionsShown.{session_read}
use Rattle.lab_store_read_people.specs.SessionsShown.{sessions_shown, HasSession}
use Rattle.lab_store_read_people.proofs.SessionsFound.{session_found}
use Rattle.lab_store_read_people.proofs.sessions.session_at.Goals as goal

pub returns-clause-reads : goal.returns-clause-reads
returns-clause-reads g c =
    let t = tables_of (g.D.Readable.state c.args.conn.now) in
    reads_and (rw (to_z-of_z w64 c.args.lab c.ranges.lab) at c.in_ok-rows.ensures.reads) (λ kept rows.
    if_then c.first_session.result (λ session is. is ∙ ap (λ l. option_map session_read (slice_get l 0)) (c.deref.ensures.value ∙ rows)
    ∙ session_found t kept.rows c.args.lab c.bytes-bytes.result ∙ ap (session_of (sessions_of t c.args.lab)) c.bytes-bytes.ensures) c.first_session.ensures.value)

pub returns-clause-cause : goal.returns-clause-cause
returns-clause-cause g c =
    let t = tables_of (g.D.Readable.state c.args.conn.now) in
    made_so (rw (to_z-of_z w64 c.args.lab c.ranges.lab) at c.in_ok-rows.ensures.reads) c.in_ok-rows.ensures.cause.limit (λ rows there.
    made_if _ _ (subst (HasFirst HasSession) (sym (c.deref.ensures.value ∙ rows ∙ ap (sessions_shown t c.args.lab) c.bytes-bytes.ensures)) there)
    c.first_session.result c.first_session.ensures.fault)
