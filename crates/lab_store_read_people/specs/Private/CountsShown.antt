-- The one row that a query of a number shows.
use Rattle.std.specs.Prelude.{ℕ, Bool, false, List, [], ◌∷◌, slice_get}
use Rattle.std.specs.Option.{option_map_or}
use Rattle.sqlite_value.specs.Order.{Row}
use Rattle.sqlite_sql.specs.Aggregate.{count}
use Rattle.lab_store_read.specs.Cells.{is_id, stands}

-- how many there are, as the store counts
abbrev pub count_shown : ℕ → List Row
count_shown many = (count many ∷ []) ∷ []

-- there is a first row, and a number stands in it
abbrev pub shows_number : List Row → Bool
shows_number rows = option_map_or (λ (row : Row). stands is_id row 0) (slice_get rows 0) false
