-- each of the first is legible
use Rattle.std.proofs.Common.{take}
use Rattle.std.specs.Prelude.{All}
use Rattle.lab_records_copy_out.specs.Legible.{IsLegibleVersion}
use Rattle.lab_records_copy_out.proofs.legible.versions_are_legible.Given as goal

abbrev pub invariant-loop-version : goal.invariant-loop-version
invariant-loop-version l = All IsLegibleVersion (take l.version-index l.versions)
