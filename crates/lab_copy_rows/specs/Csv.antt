-- The text of rows as CSV (RFC 4180, section 2, with a line feed in place of CR LF): fields with
-- commas between them, a field in quotes where it has a comma, a quote or the end of a line, and
-- its quotes doubled.
use Rattle.std.specs.Prelude.{ℕ, List}
use Rattle.std.specs.List.{flat_map}
use Rattle.csv.specs.Writing.{row_text, default_writer}

-- the text of a row
abbrev pub csv_row : List (List ℕ) → List ℕ
csv_row fields = row_text default_writer fields

-- the text of rows, one after the other
abbrev pub csv_text : List (List (List ℕ)) → List ℕ
csv_text rows = flat_map csv_row rows
