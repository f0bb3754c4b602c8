use Rattle.std.proofs.Common.{◌≡◌, drop}
use Rattle.std.specs.List.{list_all}
use Rattle.lab_move_tables.specs.Private.Tests.{is_bound_by}
use Rattle.lab_move_tables.proofs.bound.are_bound_by.Given as goal

-- what is left decides
abbrev pub invariant-loop-signature : goal.invariant-loop-signature
invariant-loop-signature l = list_all (is_bound_by l.lab l.digest) l.signatures ≡ list_all (is_bound_by l.lab l.digest) (drop l.signature-index l.signatures)
