-- Which rows a copy has, and the fault of one that wasn't read.
use Rattle.std.specs.Prelude.{◌≡◌, ℕ, List, Option, Result, IfSome}
use Rattle.csv.specs.Reading.{default_config, records, strip_bom}
use Rattle.lab_copy_rows.specs.Copies.{verdict}
use Rattle.lab_copy_rows.specs.declared.flaws.Flaw.{Flaw}
use Rattle.lab_copy_rows.specs.declared.lines.Counts.{Counts}
use Rattle.lab_copy.specs.declared.asks.TheConstants.{MOST_ASKS}
use Rattle.lab_copy.specs.declared.checks.TheConstants.{MOST_ROWS}

-- the rows of a text of CSV (RFC 4180), behind a byte order mark that it may begin with; the kit's
-- reader defines them
abbrev pub csv_rows_of : List ℕ → List (List (List ℕ))
csv_rows_of bytes = records default_config (strip_bom bytes)

-- this holds of the verdict on some bytes: all of the input, where that is known; else nothing says
-- that they were read
abbrev pub OfVerdict : Option (List ℕ) → (Result Counts Flaw → Type 0) → Type 0
OfVerdict known Holds = (bytes : List ℕ) × IfSome known (λ all. bytes ≡ all)
    × Holds (verdict (csv_rows_of bytes))

-- how many rows of a copy are read at most, and how often its reader is asked; no copy has as many
-- rows or bytes
abbrev pub most_rows : ℕ
most_rows = MOST_ROWS

abbrev pub most_asks : ℕ
most_asks = MOST_ASKS
