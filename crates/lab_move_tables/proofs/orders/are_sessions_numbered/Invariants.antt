use Rattle.std.proofs.Common.{◌≡◌, ◌+◌, drop}
use Rattle.lab_people_access.specs.declared.sessions.Session.{Session}
use Rattle.lab_move_tables.specs.Private.Orders.{are_numbered, are_numbered_after}
use Rattle.lab_move_tables.proofs.orders.are_sessions_numbered.Given as goal

-- what is left decides
abbrev pub invariant-loop-session : goal.invariant-loop-session
invariant-loop-session l = (l.next ≡ l.session-index + 1) × (are_numbered (λ (one : Session). one.number) l.sessions ≡ are_numbered_after (λ (one : Session). one.number) l.session-index (drop l.session-index l.sessions))
