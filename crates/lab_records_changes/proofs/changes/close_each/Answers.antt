-- One session more is as it is to be.
use Rattle.std.proofs.Common.{◌≤◌, ◌++◌, ◌∙◌, sym, ap, List, length, set, drop, append-nil}
use Rattle.std.specs.Prelude.{map}
use Rattle.std.proofs.lemmas.List.Edits.{map_over_more}
use Rattle.std.proofs.lemmas.List.{take_all, drop_all}
use Rattle.lab_people_access.specs.declared.sessions.Session.{Session}
use Rattle.lab_people_access.specs.Sessions.{session_after}
use Rattle.lab_records_changes.proofs.changes.close_each.Goals as goal

pub loop-session-preserved : goal.loop-session-preserved
loop-session-preserved c =
    let sessions = c.loop-session.sessions in
    let i = c.loop-session.session-index in
    let after : Session → Session = session_after c.args.closing.now c.args.person.now in
    ap (λ (one : Session). set sessions i one)
    (c.close_one.ensures ∙ ap after (sym c.session-item.is))
    ∙ map_over_more after c.args.sessions.now sessions i c.session-item.result c.loop-session-test.true
    c.loop-session.invariant c.session-item.is

pub returns : goal.returns
returns c =
    let i = c.loop-session.session-index in
    let sessions = c.args.sessions.now in
    let after : Session → Session = session_after c.args.closing.now c.args.person.now in
    let past : length sessions ≤ i = c.loop-session-test.false in
    c.loop-session.invariant
    ∙ ap (λ (rest : List Session). map after rest ++ drop i sessions) (take_all i sessions past)
    ∙ ap (λ (rest : List Session). map after sessions ++ rest) (drop_all i sessions past)
    ∙ append-nil (map after sessions)
