use Rattle.std.proofs.Common.{Ok, take}
use Rattle.lab_store_tables.specs.Changes.{InTurn, AddsField}
use Rattle.lab_store_write.specs.Private.Calls.{Writes}
use Rattle.lab_store_write_changes.proofs.forms.add_fields.Given as goal

-- those so far were added
abbrev pub invariant-loop-one : goal.invariant-loop-one
invariant-loop-one g l =
    Writes {A = Unit {0}} g.W.Writable.lender g.W.Writable.state (InTurn (AddsField l.fn.form.id) (take l.one-index l.fields)) l.fn.tx l.tx (Ok tt)
