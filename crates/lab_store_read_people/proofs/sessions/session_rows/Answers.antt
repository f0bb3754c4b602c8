use Rattle.std.proofs.Common.{w64}
use Rattle.std.proofs.lemmas.Int.{to_z-of_z}
use Rattle.lab_store_read.proofs.Readers.{rows_read}
use Rattle.lab_store_read.proofs.Causes.{asks_so}
use Rattle.lab_store_read_people.proofs.SessionTexts.{session_means}
use Rattle.lab_store_read_people.proofs.SessionsExact.{sessions_read}
use Rattle.lab_store_read_people.proofs.SessionCauses.{session_fits}
use Rattle.lab_store_read_people.proofs.sessions.session_rows.Goals as goal

pub returns-clause-reads : goal.returns-clause-reads
returns-clause-reads g c =
    rows_read session_means.read (rw (to_z-of_z w64 c.args.lab c.ranges.lab) at c.rows_by_token.ensures)
    (λ rows. sessions_read _ _ c.args.lab c.args.token.now rows.items)

pub returns-clause-cause : goal.returns-clause-cause
returns-clause-cause g c =
    asks_so session_means (session_fits c.args.lab c.args.token.now) _ _ (rw (to_z-of_z w64 c.args.lab c.ranges.lab) at c.rows_by_token.ensures)
