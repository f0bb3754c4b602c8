use Rattle.std.proofs.Common.{◌≡◌, map, drop}
use Rattle.serde_json.specs.View.{view}
use Rattle.lab_people_access.specs.Roles.{no_roles}
use Rattle.lab_wire_members.specs.Members.{roles_with}
use Rattle.lab_wire_members.proofs.members.roles_of.Given as goal

-- what is left decides
abbrev pub invariant-loop-value : goal.invariant-loop-value
invariant-loop-value l =
    roles_with no_roles (map view l.values) ≡ roles_with l.roles (map view (drop l.value-index l.values))
