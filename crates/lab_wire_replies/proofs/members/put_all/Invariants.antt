use Rattle.std.proofs.Common.{◌≡◌, map, take}
use Rattle.serde_json.specs.View.{members_view}
use Rattle.lab_wire_replies.specs.Parts.{members_onto}
use Rattle.lab_wire_replies.specs.Members.{member_data}
use Rattle.lab_wire_replies.proofs.members.put_all.Given as goal

-- the members that were passed are added
abbrev pub invariant-loop-one : goal.invariant-loop-one
invariant-loop-one l =
    members_view l.members.entries
    ≡ members_onto (map member_data (take l.one-index l.more)) (members_view l.fn.members.entries)
