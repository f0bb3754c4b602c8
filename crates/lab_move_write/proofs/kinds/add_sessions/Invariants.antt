use Rattle.std.proofs.Common.{Ok, map, take}
use Rattle.lab_records_kept.specs.declared.changes.Change.TheVariants.{SessionAdded}
use Rattle.lab_move_write.specs.Private.Turns.{MakesInTurn}
use Rattle.lab_move_write.proofs.kinds.add_sessions.Given as goal

-- those so far were made
abbrev pub invariant-loop-session : goal.invariant-loop-session
invariant-loop-session g l =
    MakesInTurn {A = Unit {0}} g.W.Writable.lender g.W.Writable.state l.fn.lab.id (map SessionAdded (take l.session-index l.sessions)) l.fn.tx l.tx (Ok tt)
