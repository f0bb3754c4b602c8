use Rattle.std.proofs.Common.{ℕ, ◌≡◌, List, take}
use Rattle.std.specs.Option.{option_or}
use Rattle.lab_records_rules.specs.Latest.{noted}
use Rattle.lab_records_kept.specs.Values.{value_of}
use Rattle.lab_records_rules.proofs.values.note_each.Given as goal

-- the table has the last of the first rows, or what it had
abbrev pub invariant-loop-row : goal.invariant-loop-row
invariant-loop-row l =
    (key : List ℕ) → noted l.table key
    ≡ option_or (value_of (take l.row-index l.rows) key) (noted l.initial.table key)
