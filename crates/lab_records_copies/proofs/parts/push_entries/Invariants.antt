-- the rows of the first entries stand behind those that were there
use Rattle.std.proofs.Common.{◌≡◌, ◌++◌, map, take}
use Rattle.lab_records_copies.specs.CopyLines.{entry_line}
use Rattle.lab_copy_rows.specs.Rows.{fields_in, entry_row}
use Rattle.lab_records_copies.proofs.parts.push_entries.Given as goal

abbrev pub invariant-loop-row : goal.invariant-loop-row
invariant-loop-row l =
    l.rows.items ≡ l.fn.rows.items
    ++ map (λ row. fields_in (entry_row (entry_line l.lab l.kept l.version row))) (take l.row-index l.version.rows)
