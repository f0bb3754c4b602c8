use Rattle.std.proofs.Common.{Ok, map, take}
use Rattle.lab_records_kept.specs.declared.changes.Change.TheVariants.{TrailAdded}
use Rattle.lab_move_write.specs.Private.Turns.{MakesInTurn}
use Rattle.lab_move_write.proofs.kinds.add_trail.Given as goal

-- those so far were made
abbrev pub invariant-loop-told : goal.invariant-loop-told
invariant-loop-told g l =
    MakesInTurn {A = Unit {0}} g.W.Writable.lender g.W.Writable.state l.fn.lab.id (map TrailAdded (take l.told-index l.trail)) l.fn.tx l.tx (Ok tt)
