-- the record's own row and those of its first versions stand behind the rows that were there
use Rattle.std.proofs.Common.{◌≡◌, ◌++◌, ◌∷◌, take}
use Rattle.std.specs.List.{flat_map}
use Rattle.lab_records_copies.specs.CopyLines.{record_line, rows_of_lines, version_lines}
use Rattle.lab_copy_rows.specs.declared.lines.Line.TheVariants as line
use Rattle.lab_records_copies.proofs.wholes.push_record.Given as goal

abbrev pub invariant-loop-version : goal.invariant-loop-version
invariant-loop-version l =
    l.rows.items ≡ l.fn.rows.items
    ++ rows_of_lines (line.Record (record_line l.lab l.kept)
    ∷ flat_map (version_lines l.lab l.kept) (take l.version-index l.kept.versions))
