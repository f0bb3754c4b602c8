use Rattle.std.proofs.Common.{◌≡◌, ◌++◌}
use Rattle.std.specs.Prelude.{string_bytes, take}
use Rattle.std.specs.List.{flat_map}
use Rattle.lab_records_kept.specs.Trails.{spaced_role}
use Rattle.lab_records_laws.proofs.subjects.push_each_role.Given as goal

abbrev pub invariant-loop-role : goal.invariant-loop-role
invariant-loop-role l =
    string_bytes l.text ≡ string_bytes l.initial.text ++ flat_map spaced_role (take l.role-index l.roles)
