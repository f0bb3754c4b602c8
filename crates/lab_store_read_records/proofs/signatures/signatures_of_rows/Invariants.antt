use Rattle.std.proofs.Common.{◌≡◌, map, take}
use Rattle.lab_store_read_records.specs.Private.Shown.{signature_read}
use Rattle.lab_store_read_records.proofs.signatures.signatures_of_rows.Given as goal

-- those of the rows so far
abbrev pub invariant-loop-row : goal.invariant-loop-row
invariant-loop-row l = l.made.items ≡ map signature_read (take l.row-index l.rows)
