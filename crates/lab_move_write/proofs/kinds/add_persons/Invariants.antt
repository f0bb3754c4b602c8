use Rattle.std.proofs.Common.{Ok, take}
use Rattle.lab_move_write.specs.Private.Turns.{MakesInTurn}
use Rattle.lab_move_write.proofs.Turns.{bare_persons}
use Rattle.lab_move_write.proofs.kinds.add_persons.Given as goal

-- those so far were made
abbrev pub invariant-loop-person : goal.invariant-loop-person
invariant-loop-person g l =
    MakesInTurn {A = Unit {0}} g.W.Writable.lender g.W.Writable.state l.fn.lab.id (bare_persons (take l.person-index l.persons)) l.fn.tx l.tx (Ok tt)
