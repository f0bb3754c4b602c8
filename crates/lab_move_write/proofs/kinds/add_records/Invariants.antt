use Rattle.std.proofs.Common.{Ok, map, take}
use Rattle.lab_records_kept.specs.declared.changes.Change.TheVariants.{RecordAdded}
use Rattle.lab_move_write.specs.Private.Turns.{MakesInTurn}
use Rattle.lab_move_write.proofs.kinds.add_records.Given as goal

-- those so far were made
abbrev pub invariant-loop-place : goal.invariant-loop-place
invariant-loop-place g l =
    MakesInTurn {A = Unit {0}} g.W.Writable.lender g.W.Writable.state l.fn.lab.id (map RecordAdded (take l.place l.records)) l.fn.tx l.tx (Ok tt)
