use Rattle.std.proofs.Common.{◌≡◌, ◌+◌, drop}
use Rattle.lab_records_kept.specs.declared.records.Version.{Version}
use Rattle.lab_move_tables.specs.Private.Orders.{are_numbered, are_numbered_after}
use Rattle.lab_move_tables.proofs.orders.are_versions_numbered.Given as goal

-- what is left decides
abbrev pub invariant-loop-version : goal.invariant-loop-version
invariant-loop-version l = (l.next ≡ l.version-index + 1) × (are_numbered (λ (one : Version). one.origin.number) l.versions ≡ are_numbered_after (λ (one : Version). one.origin.number) l.version-index (drop l.version-index l.versions))
