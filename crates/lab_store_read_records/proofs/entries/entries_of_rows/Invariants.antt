use Rattle.std.proofs.Common.{◌≡◌, map, take}
use Rattle.lab_store_read_records.specs.Private.Shown.{own_entry_read}
use Rattle.lab_store_read_records.proofs.entries.entries_of_rows.Given as goal

-- those of the rows so far
abbrev pub invariant-loop-row : goal.invariant-loop-row
invariant-loop-row l = l.made.items ≡ map own_entry_read (take l.row-index l.rows)
