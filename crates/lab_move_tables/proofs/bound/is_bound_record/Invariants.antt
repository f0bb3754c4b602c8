use Rattle.std.proofs.Common.{◌≡◌, drop}
use Rattle.std.specs.List.{list_all}
use Rattle.lab_move_tables.specs.Private.Tests.{is_sealed}
use Rattle.lab_move_tables.proofs.bound.is_bound_record.Given as goal

-- what is left decides
abbrev pub invariant-loop-place : goal.invariant-loop-place
invariant-loop-place l = list_all (is_sealed l.lab l.kept) l.kept.versions ≡ list_all (is_sealed l.lab l.kept) (drop l.place l.kept.versions)
