use Rattle.std.proofs.Common.{Ok, take}
use Rattle.lab_store_tables.specs.Changes.{InTurn, AddsPerson}
use Rattle.lab_store_write.specs.Private.Calls.{Writes}
use Rattle.lab_store_write_changes.proofs.rows.add_persons.Given as goal

-- those so far were added
abbrev pub invariant-loop-person : goal.invariant-loop-person
invariant-loop-person g l =
    Writes {A = Unit {0}} g.W.Writable.lender g.W.Writable.state (InTurn (AddsPerson l.fn.lab.id) (take l.person-index l.persons)) l.fn.tx l.tx (Ok tt)
