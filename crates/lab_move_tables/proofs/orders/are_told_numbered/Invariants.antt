use Rattle.std.proofs.Common.{◌≡◌, ◌+◌, drop}
use Rattle.lab_records_kept.specs.declared.trails.TrailRow.{TrailRow}
use Rattle.lab_move_tables.specs.Private.Orders.{are_numbered, are_numbered_after}
use Rattle.lab_move_tables.proofs.orders.are_told_numbered.Given as goal

-- what is left decides
abbrev pub invariant-loop-row : goal.invariant-loop-row
invariant-loop-row l = (l.next ≡ l.row-index + 1) × (are_numbered (λ (one : TrailRow). one.number) l.trail ≡ are_numbered_after (λ (one : TrailRow). one.number) l.row-index (drop l.row-index l.trail))
