use Rattle.std.proofs.Common.{◌≡◌, map, take, Ok}
use Rattle.serde_json.specs.View.{view}
use Rattle.lab_wire_members.specs.Parts.{each_read}
use Rattle.lab_wire_members.proofs.parts.each_of.Given as goal

-- the first values are read
abbrev pub invariant-loop-value : goal.invariant-loop-value
invariant-loop-value g l =
    each_read g.T.Element.says (map view (take l.value-index l.values)) ≡ Ok l.list.items
