-- What clauses of private functions say beside CopyTexts.antt.
use Rattle.std.specs.Prelude.{ℕ, ◌+◌, min, List, [], ◌∷◌, ◌++◌}
use Rattle.lab_records_kept.specs.declared.records.Record.{Record}
use Rattle.lab_copy_rows.specs.Copies.{counts_of}
use Rattle.lab_copy_rows.specs.Csv.{csv_text}
use Rattle.lab_copy_rows.specs.Rows.{fields_in, header_row}
use Rattle.lab_copy_rows.specs.declared.lines.CopyLine.{CopyLine}
use Rattle.lab_copy_rows.specs.declared.lines.Line.TheVariants as line
use Rattle.lab_records_copies.specs.CopyLines.{body_lines, end_line, rows_of_lines}

-- ---- the text

abbrev pub text_under : CopyLine → List Record → List ℕ
text_under first records =
    csv_text (fields_in header_row ∷ rows_of_lines (line.Copy first ∷ body_lines first.lab records
    ++ line.End (end_line first.lab (counts_of (body_lines first.lab records))) ∷ []))

-- ---- the walk

-- the number of the last record of a range, where so many are kept, and how many numbers there are
-- from one up to another
abbrev pub last_walked : ℕ → ℕ → ℕ
last_walked to kept = min to kept
