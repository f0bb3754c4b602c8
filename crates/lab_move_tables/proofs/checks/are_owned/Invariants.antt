use Rattle.std.proofs.Common.{◌≡◌, drop}
use Rattle.lab_move_tables.specs.Checks.{are_owned}
use Rattle.lab_move_tables.proofs.checks.are_owned.Given as goal

-- what is left decides
abbrev pub invariant-loop-row : goal.invariant-loop-row
invariant-loop-row l = are_owned l.at l.lab l.rows ≡ are_owned l.at l.lab (drop l.row-index l.rows)
