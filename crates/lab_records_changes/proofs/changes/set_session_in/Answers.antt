-- The session of the token is the first that has it, and its place is where the search ended.
use Rattle.std.proofs.Common.{◌≡◌, ◌∙◌, sym, ap, Some, None}
use Rattle.std.specs.Prelude.{position, bytes_eq, slice_set}
use Rattle.lab_people_access.specs.declared.sessions.Session.{Session}
use Rattle.lab_records_changes.proofs.Replacing.{with_session_at, with_session_none}
use Rattle.lab_records_changes.proofs.changes.set_session_in.Goals as goal

pub returns-in_default-clause-ok : goal.returns-in_default-clause-ok
returns-in_default-clause-ok c =
    let sessions = c.args.sessions.now in
    let none : position (λ one. bytes_eq one.token c.args.session.now.token) sessions ≡ None = cc in
    sym (with_session_none c.args.session.now sessions none)

pub returns-clause-ok : goal.returns-clause-ok
returns-clause-ok c =
    let sessions = c.args.sessions.now in
    let place = c.in-Some.place in
    let found : position (λ one. bytes_eq one.token c.args.session.now.token) sessions ≡ Some place = cc in
    ap (λ (made : Session). slice_set sessions place made) c.in_ok-session.ensures
    ∙ sym (with_session_at c.args.session.now sessions place c.index-sessions-place.result found
    c.index-sessions-place.is)
