-- What clauses of private functions say beside Counting.antt.
use Rattle.std.specs.Prelude.{◌≡◌, ℕ, ℤ, ◌<◌, List, Some}
use Rattle.sqlite_value.specs.declared.value.Value.TheVariants.{Int}
use Rattle.sqlite_value.specs.Order.{Row}
use Rattle.lab_move.specs.Counting.{counted_tables, cell}

-- ---- the question

-- an integer stands there
abbrev pub ShowsNumber : List Row → ℕ → Type 0
ShowsNumber rows at = (many : ℤ) × (cell rows at ≡ Some (Int many))

-- for one of the tables no integer stands in the first row
abbrev pub LacksNumber : List Row → Type 0
LacksNumber rows = (at : ℕ) × (at < counted_tables) × (¬ ShowsNumber rows at)
