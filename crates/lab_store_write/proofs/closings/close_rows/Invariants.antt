use Rattle.std.proofs.Common.{Ok, take}
use Rattle.lab_store_tables.specs.Changes.{InTurn}
use Rattle.lab_store_write.specs.Private.Calls.{Writes}
use Rattle.lab_store_write.specs.Closings.{ClosesRow}
use Rattle.lab_store_write.proofs.closings.close_rows.Given as goal

-- those so far were closed
abbrev pub invariant-loop-row : goal.invariant-loop-row
invariant-loop-row g l =
    Writes {A = Unit {0}} g.W.Writable.lender g.W.Writable.state (InTurn ClosesRow (take l.row-index l.rows)) l.fn.tx l.tx (Ok tt)
