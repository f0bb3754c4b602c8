-- What a line tells of its place by itself, and how many lines there are with it; what it tells
-- beside one other is said in lab_copy_rows, `Copies.antt`.
use Rattle.std.specs.Prelude.{ℕ, ◌+◌, Bool, false, nat_le}
use Rattle.lab_copy_rows.specs.declared.lines.Counts.{Counts}
use Rattle.lab_copy_rows.specs.declared.lines.Line.{Line}
use Rattle.lab_copy_rows.specs.declared.lines.Line.TheVariants.{Copy, Record, Version, Entry, Signature}

-- the first line is a copy row, with a range that is none backwards
abbrev pub is_first_line : Line → Bool
is_first_line (Copy line) = nat_le line.from line.to
is_first_line _ = false

-- how many lines there are of a line's kind, where an end row tells of them
abbrev pub count_of : Line → Counts → ℕ
count_of (Record _) counts = counts.records
count_of (Version _) counts = counts.versions
count_of (Entry _) counts = counts.entries
count_of (Signature _) counts = counts.signatures
count_of _ counts = 0

-- how many lines of each kind there are after a line
abbrev pub counts_with : Line → Counts → Counts
counts_with (Record _) counts = record counts { records = counts.records + 1 }
counts_with (Version _) counts = record counts { versions = counts.versions + 1 }
counts_with (Entry _) counts = record counts { entries = counts.entries + 1 }
counts_with (Signature _) counts = record counts { signatures = counts.signatures + 1 }
counts_with _ counts = counts
