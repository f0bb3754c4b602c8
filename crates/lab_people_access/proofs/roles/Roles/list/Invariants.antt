use Rattle.std.proofs.Common.{◌≡◌, take}
use Rattle.std.specs.Prelude.{filter}
use Rattle.lab_people_access.specs.Roles.{has_role, all_roles}
use Rattle.lab_people_access.proofs.roles.Roles.list.Given as goal

abbrev pub invariant-loop-role : goal.invariant-loop-role
invariant-loop-role l =
    (l.role-items ≡ all_roles) × (l.list.items ≡ filter (has_role l.self) (take l.role-index all_roles))
