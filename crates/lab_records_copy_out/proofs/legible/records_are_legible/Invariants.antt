-- each of the first is legible
use Rattle.std.proofs.Common.{take}
use Rattle.std.specs.Prelude.{All}
use Rattle.lab_records_copy_out.specs.Legible.{IsLegibleRecord}
use Rattle.lab_records_copy_out.proofs.legible.records_are_legible.Given as goal

abbrev pub invariant-loop-kept : goal.invariant-loop-kept
invariant-loop-kept l = All IsLegibleRecord (take l.kept-index l.records)
