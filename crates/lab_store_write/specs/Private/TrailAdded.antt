-- What clauses of private functions say beside TrailAdded.antt.
use Rattle.std.specs.Prelude.{ℕ, ℤ, Option}
use Rattle.lab_store_tables.specs.Rows.{LabRow, Tables}
use Rattle.lab_store_tables.specs.Changes.{in_lab}
use Rattle.lab_store_write.specs.TrailAdded.{with_last}

-- then it has so many rows of its trail
abbrev pub with_count : ℤ → Option ℕ → ℕ → Tables → Tables
with_count lab last count t =
    in_lab lab (λ (one : LabRow). record one { trail = count }) (with_last lab last t)
