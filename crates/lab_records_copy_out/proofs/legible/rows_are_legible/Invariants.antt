-- each of the first is legible
use Rattle.std.proofs.Common.{take}
use Rattle.std.specs.Prelude.{All}
use Rattle.lab_seal_versions.specs.Versions.{IsRow}
use Rattle.lab_records_copy_out.proofs.legible.rows_are_legible.Given as goal

abbrev pub invariant-loop-row : goal.invariant-loop-row
invariant-loop-row l = All IsRow (take l.row-index l.rows)
