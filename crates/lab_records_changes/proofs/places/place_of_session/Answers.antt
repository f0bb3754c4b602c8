use Rattle.std.proofs.Common.{ℕ, ◌∙◌, ap, Option}
use Rattle.std.specs.Prelude.{is_some}
use Rattle.lab_records_changes.proofs.Finding.{session_placed}
use Rattle.lab_records_changes.proofs.places.place_of_session.Goals as goal

-- a session stands in a place where one has the token
pub returns-clause-found : goal.returns-clause-found
returns-clause-found c =
    ap (λ (place : Option ℕ). is_some place) c.first_of_token.ensures
    ∙ session_placed c.args.sessions.now c.args.token.now
