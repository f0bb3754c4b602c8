use Rattle.std.proofs.Common.{Ok, take}
use Rattle.lab_store_tables.specs.Changes.{InTurn, AddsChoice}
use Rattle.lab_store_write.specs.Private.Calls.{Writes}
use Rattle.lab_store_write_changes.proofs.forms.add_choices.Given as goal

-- those so far were added
abbrev pub invariant-loop-one : goal.invariant-loop-one
invariant-loop-one g l =
    Writes {A = Unit {0}} g.W.Writable.lender g.W.Writable.state (InTurn (AddsChoice l.fn.field.id) (take l.one-index l.names)) l.fn.tx l.tx (Ok tt)
