use Rattle.std.proofs.Common.{Ok, take}
use Rattle.lab_store_tables.specs.Changes.{InTurn, AddsTold}
use Rattle.lab_store_write.specs.Private.Calls.{Writes}
use Rattle.lab_store_write_changes.proofs.rows.add_trail.Given as goal

-- those so far were added
abbrev pub invariant-loop-told : goal.invariant-loop-told
invariant-loop-told g l =
    Writes {A = Unit {0}} g.W.Writable.lender g.W.Writable.state (InTurn (AddsTold l.fn.lab.id) (take l.told-index l.trail)) l.fn.tx l.tx (Ok tt)
