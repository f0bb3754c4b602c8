use Rattle.std.proofs.Common.{Ok, map, take}
use Rattle.lab_records_kept.specs.declared.changes.Change.TheVariants.{FormAdded}
use Rattle.lab_move_write.specs.Private.Turns.{MakesInTurn}
use Rattle.lab_move_write.proofs.kinds.add_forms.Given as goal

-- those so far were made
abbrev pub invariant-loop-form : goal.invariant-loop-form
invariant-loop-form g l =
    MakesInTurn {A = Unit {0}} g.W.Writable.lender g.W.Writable.state l.fn.lab.id (map FormAdded (take l.form-index l.forms)) l.fn.tx l.tx (Ok tt)
