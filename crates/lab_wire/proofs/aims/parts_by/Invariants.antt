use Rattle.std.proofs.Common.{◌≡◌, length}
use denote.Shadow.{shadow}
use denote.Text.{Utf8}
use Rattle.lab_wire.specs.Paths.{segments}
use Rattle.lab_wire.specs.Aims.{no_parts, parts_from}
use Rattle.lab_wire.proofs.aims.parts_by.Given as goal

-- what is left decides
abbrev pub invariant-loop-mark : goal.invariant-loop-mark
invariant-loop-mark l =
    (parts_from no_parts (segments l.fn.text) (segments l.fn.place) ≡ parts_from l.parts (segments l.marks) (segments l.rest))
    × shadow (Utf8 l.marks) × shadow (Utf8 l.rest)

abbrev pub decreases-loop-mark : goal.decreases-loop-mark
decreases-loop-mark l = length (segments l.marks)
