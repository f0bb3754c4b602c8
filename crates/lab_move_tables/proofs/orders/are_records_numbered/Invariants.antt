use Rattle.std.proofs.Common.{◌≡◌, ◌+◌, drop}
use Rattle.lab_records_kept.specs.declared.records.Record.{Record}
use Rattle.lab_move_tables.specs.Private.Orders.{are_numbered, are_numbered_after}
use Rattle.lab_move_tables.proofs.orders.are_records_numbered.Given as goal

-- what is left decides
abbrev pub invariant-loop-kept : goal.invariant-loop-kept
invariant-loop-kept l = (l.next ≡ l.kept-index + 1) × (are_numbered (λ (one : Record). one.number) l.records ≡ are_numbered_after (λ (one : Record). one.number) l.kept-index (drop l.kept-index l.records))
