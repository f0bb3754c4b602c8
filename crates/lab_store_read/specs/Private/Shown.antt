-- What clauses of private functions say beside Shown.antt.
use Rattle.std.specs.Prelude.{ℕ, List}
use Rattle.sqlite_value.specs.Order.{Row, column, bytes}

abbrev pub code_read : Row → List ℕ
code_read row = bytes (column row 0)
