use Rattle.std.proofs.Common.{◌≡◌, ◌++◌, take}
use Rattle.lab_records_kept.specs.Lookups.{records_within}
use Rattle.lab_records_memory.proofs.parts.add_records_within.Given as goal

-- those of the first items that lie in the range stand behind the others
abbrev pub invariant-loop-kept : goal.invariant-loop-kept
invariant-loop-kept l = l.list ≡ l.initial.list ++ records_within l.from l.to (take l.kept-index l.records)
