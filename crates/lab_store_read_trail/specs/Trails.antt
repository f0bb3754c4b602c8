-- Rows of the trail as they are read: each with the id of the person's row, and then with the code.
use Rattle.std.specs.Prelude.{ℕ, ℤ, Bool, ◌&&◌}
use Rattle.std.specs.Ordering.{int_eq}
use Rattle.lab_records_kept.specs.Lookups.{is_within}
use Rattle.lab_store_tables.specs.Rows.{TrailRow}

-- a row of a laboratory, whose number lies from one to another
abbrev pub is_told_within : ℤ → ℕ → ℕ → TrailRow → Bool
is_told_within lab from to one = int_eq one.lab lab && is_within from to one.number
