use Rattle.lab_seal_versions.proofs.RowLemmas.{AreRowsWritten}
use Rattle.lab_seal_versions.proofs.versions.push_rows.Given as goal

abbrev pub invariant-loop-row : goal.invariant-loop-row
invariant-loop-row l = AreRowsWritten l.fn.text.items l.rows l.row-index l.text.items
