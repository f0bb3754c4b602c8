use Rattle.std.proofs.Common.{◌≡◌, ◌+◌, length}
use Rattle.lab_records_kept.specs.Changes.{changed}
use Rattle.lab_records_memory.proofs.held.settle.Given as goal

-- what is left makes the same of the laboratory, and each turn leaves one change less
abbrev pub invariant-loop : goal.invariant-loop
invariant-loop l =
    (changed l.lab l.left.items ≡ changed l.initial.lab l.initial.left.items)
    × (length l.left.items + l.counter ≡ l.end)
