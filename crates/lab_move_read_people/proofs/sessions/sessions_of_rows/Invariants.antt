use Rattle.std.proofs.Common.{◌≡◌, map, take}
use Rattle.lab_store_read_people.specs.Private.SessionsShown.{session_read}
use Rattle.lab_move_read_people.proofs.sessions.sessions_of_rows.Given as goal

-- those of the rows so far
abbrev pub invariant-loop-row : goal.invariant-loop-row
invariant-loop-row l = l.made.items ≡ map session_read (take l.row-index l.rows)
