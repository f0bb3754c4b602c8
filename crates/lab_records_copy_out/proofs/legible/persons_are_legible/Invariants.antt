-- each of the first is legible
use Rattle.std.proofs.Common.{take}
use Rattle.std.specs.Prelude.{All}
use Rattle.lab_records_copy_out.specs.Legible.{IsLegiblePerson}
use Rattle.lab_records_copy_out.proofs.legible.persons_are_legible.Given as goal

abbrev pub invariant-loop-person : goal.invariant-loop-person
invariant-loop-person l = All IsLegiblePerson (take l.person-index l.persons)
