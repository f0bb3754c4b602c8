-- The writer has written the rows so far.
use Rattle.std.proofs.Common.{[], take}
use Rattle.lab_copy_rows.specs.Csv.{csv_text}
use Rattle.lab_copy_rows.specs.Private.Outs.{HasWritten}
use Rattle.lab_copy_rows.proofs.sending.put_rows.Given as goal

abbrev pub invariant-loop-row : goal.invariant-loop-row
invariant-loop-row g l =
    HasWritten (g.W.Write.contents) l.initial.writer []
    → HasWritten (g.W.Write.contents) l.writer (csv_text (take l.row-index l.rows))
