-- each of the first is legible
use Rattle.std.proofs.Common.{take}
use Rattle.std.specs.Prelude.{All}
use Rattle.lab_records_copy_out.specs.Legible.{IsLegibleChange}
use Rattle.lab_records_copy_out.proofs.legible.changes_are_legible.Given as goal

abbrev pub invariant-loop-change : goal.invariant-loop-change
invariant-loop-change l = All IsLegibleChange (take l.change-index l.changes)
