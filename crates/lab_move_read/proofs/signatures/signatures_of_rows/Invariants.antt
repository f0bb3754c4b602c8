use Rattle.std.proofs.Common.{◌≡◌, map, take}
use Rattle.lab_move_read.specs.Private.Records.{signature_read}
use Rattle.lab_move_read.proofs.signatures.signatures_of_rows.Given as goal

-- those of the rows so far
abbrev pub invariant-loop-row : goal.invariant-loop-row
invariant-loop-row l = l.made.items ≡ map signature_read (take l.row-index l.rows)
