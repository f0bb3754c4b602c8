use Rattle.std.proofs.Common.{◌≡◌, ◌++◌, take, drop}
use Rattle.std.specs.Prelude.{map}
use Rattle.lab_people_access.specs.Sessions.{session_after}
use Rattle.lab_records_changes.proofs.changes.close_each.Given as goal

-- the first sessions are as they are to be, the others as they were
abbrev pub invariant-loop-session : goal.invariant-loop-session
invariant-loop-session l =
    l.sessions
    ≡ map (session_after l.closing l.person) (take l.session-index l.initial.sessions)
    ++ drop l.session-index l.initial.sessions
