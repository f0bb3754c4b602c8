-- What clauses of private functions say beside Lines.antt.
use Rattle.std.specs.Prelude.{ℕ, Bool, List, [], unwrap_or}
use Rattle.std.specs.Str.{bytes_eq}
use Rattle.std.specs.Cmp.Lexicographic.{pointwise}
use Rattle.csv.specs.Records.{field_at}
use Rattle.lab_copy_rows.specs.Rows.{Columns, fields_in, header_row}

-- a field, or nothing where there are fewer
abbrev pub field_in : List (List ℕ) → ℕ → List ℕ
field_in fields place = unwrap_or (field_at fields place) []

-- the columns have the names of the header
abbrev pub has_header_names : Columns → Bool
has_header_names row = pointwise bytes_eq (fields_in row) (fields_in header_row)
