-- the rows of the first records
use Rattle.std.proofs.Common.{◌≡◌, take}
use Rattle.lab_records_copies.specs.CopyLines.{body_lines, rows_of_lines}
use Rattle.lab_records_copies.proofs.wholes.body_rows.Given as goal

abbrev pub invariant-loop-kept : goal.invariant-loop-kept
invariant-loop-kept l = l.rows.items ≡ rows_of_lines (body_lines l.lab (take l.kept-index l.records))
