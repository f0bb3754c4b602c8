use Rattle.std.proofs.Common.{◌≡◌, map, take}
use Rattle.lab_move_read.specs.Records.{version_read}
use Rattle.lab_move_read.proofs.leaves.versions_of_rows.Given as goal

-- those of the rows so far
abbrev pub invariant-loop-row : goal.invariant-loop-row
invariant-loop-row l = l.made.items ≡ map (version_read l.fn.older) (take l.row-index l.rows)
