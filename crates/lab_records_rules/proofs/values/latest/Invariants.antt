use Rattle.std.proofs.Common.{ℕ, ◌≡◌, List, take}
use Rattle.lab_records_rules.specs.Latest.{noted}
use Rattle.lab_records_kept.specs.Values.{all_rows, value_of}
use Rattle.lab_records_rules.proofs.values.latest.Given as goal

-- the table has the last rows of the first versions
abbrev pub invariant-loop-version : goal.invariant-loop-version
invariant-loop-version l =
    (key : List ℕ) → noted l.table key ≡ value_of (all_rows (take l.version-index l.versions)) key
