use Rattle.std.proofs.Common.{◌≡◌, map, take}
use Rattle.serde_json.specs.View.{view}
use Rattle.lab_wire_replies.proofs.parts.list_of.Given as goal

-- the values of what was passed
abbrev pub invariant-loop-thing : goal.invariant-loop-thing
invariant-loop-thing g l = map view l.list.items ≡ map g.T.Shown.data_of (take l.thing-index l.things)
