use Rattle.std.proofs.Common.{Ok, take}
use Rattle.lab_store_tables.specs.Changes.{InTurn, AddsVersion}
use Rattle.lab_store_write.specs.Private.Calls.{Writes}
use Rattle.lab_store_write.specs.Private.Givers.{EachKnowing}
use Rattle.lab_store_write_changes.proofs.records.add_versions.Given as goal

-- those so far were added
abbrev pub invariant-loop-one : goal.invariant-loop-one
invariant-loop-one g l =
    Writes {A = Unit {0}} g.W.Writable.lender g.W.Writable.state (InTurn (EachKnowing l.fn.lab.id l.fn.giver (AddsVersion l.fn.lab.id l.fn.kept.id)) (take l.one-index l.versions)) l.fn.tx l.tx (Ok tt)
