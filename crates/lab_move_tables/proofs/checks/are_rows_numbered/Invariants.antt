use Rattle.std.proofs.Common.{◌≡◌, ◌+◌, drop}
use Rattle.lab_move_tables.specs.Checks.{are_rows_numbered, are_numbered_after}
use Rattle.lab_move_tables.proofs.checks.are_rows_numbered.Given as goal

-- what is left decides
abbrev pub invariant-loop-row : goal.invariant-loop-row
invariant-loop-row l = (l.next ≡ l.row-index + 1) × (are_rows_numbered l.at l.rows ≡ are_numbered_after l.at l.row-index (drop l.row-index l.rows))
