-- What clauses of private functions say beside Cells.antt.
use Rattle.std.specs.Prelude.{ℕ, Bool, ◌&&◌}
use Rattle.sqlite_value.specs.Order.{Row, column}
use Rattle.lab_move_read_people.specs.Cells.{is_null}

abbrev pub are_null : ℕ → ℕ → Row → Bool
are_null first second row = is_null (column row first) && is_null (column row second)

-- nothing is kept of a password
abbrev pub has_no_password : Row → Bool
has_no_password row = are_null 7 8 row && are_null 9 10 row && are_null 11 12 row
