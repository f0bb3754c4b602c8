use Rattle.std.proofs.Common.{◌≡◌, true, drop}
use Rattle.lab_move_tables.specs.Private.Tests.{are_settled_after}
use Rattle.lab_move_tables.proofs.dual.are_settled.Given as goal

-- what is left decides
abbrev pub invariant-loop-version : goal.invariant-loop-version
invariant-loop-version l = are_settled_after l.kept true l.versions ≡ are_settled_after l.kept l.settled (drop l.version-index l.versions)
