use Rattle.std.proofs.Common.{◌≡◌, ◌++◌, take}
use Rattle.lab_records_kept.specs.Lookups.{rows_within}
use Rattle.lab_records_memory.proofs.parts.add_rows_within.Given as goal

-- those of the first items that lie in the range stand behind the others
abbrev pub invariant-loop-row : goal.invariant-loop-row
invariant-loop-row l = l.list ≡ l.initial.list ++ rows_within l.from l.to (take l.row-index l.trail)
