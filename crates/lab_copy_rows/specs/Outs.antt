-- What of a copy goes out: the text of its rows as CSV (RFC 4180), or after a fault the front of
-- it.
use Rattle.std.specs.Prelude.{◌≡◌, ℕ, ◌+◌, ◌-◌, ◌^◌, min, Bool, if◌then◌else◌, List, [], ◌∷◌, ◌++◌, codes, Option, Result, Ok, Err}
use Rattle.std.specs.Str.{bytes_eq}
use Rattle.std.specs.Io.KnownBytes.{Appends}
use Rattle.lab_copy_rows.specs.Csv.{csv_text}
use Rattle.lab_copy_rows.specs.Rows.{fields_in, kind_in, header_row, copy_row}
use Rattle.lab_copy_rows.specs.declared.lines.CopyLine.{CopyLine}
use Rattle.lab_copy_rows.specs.declared.lines.Counts.{Counts}

-- some front of these bytes went out, and nothing else
pub record AppendsFront (old new : Option (List ℕ)) (bytes : List ℕ) : Type 0 where
  pub front : List ℕ
  pub rest : List ℕ
  pub parts : bytes ≡ front ++ rest
  pub went : Appends old new front

-- these bytes went out, or after a fault the front of them
abbrev pub Sends : {A F : Type 0} → Option (List ℕ) → Option (List ℕ) → List ℕ → Result A F → Type 0
Sends old new bytes (Ok _) = Appends old new bytes
Sends old new bytes (Err _) = AppendsFront old new bytes

-- the text with which a copy begins
abbrev pub start_text : CopyLine → List ℕ
start_text line = csv_text (fields_in header_row ∷ fields_in (copy_row line) ∷ [])

-- one more, as far as a number of 64 bits goes
abbrev pub one_more : ℕ → ℕ
one_more n = min (n + 1) (2 ^ 64 - 1)

abbrev pub counted_if : Bool → ℕ → ℕ
counted_if counts n = if counts then one_more n else n

-- the numbers of rows after one more row
abbrev pub counted : Counts → List (List ℕ) → Counts
counted counts row = record {
  records = counted_if (bytes_eq (kind_in row) (codes "record")) counts.records;
  versions = counted_if (bytes_eq (kind_in row) (codes "version")) counts.versions;
  entries = counted_if (bytes_eq (kind_in row) (codes "entry")) counts.entries;
  signatures = counted_if (bytes_eq (kind_in row) (codes "signature")) counts.signatures;
}

-- and after more rows
abbrev pub counted_all : Counts → List (List (List ℕ)) → Counts
counted_all counts [] = counts
counted_all counts (row ∷ rows) = counted_all (counted counts row) rows

-- of no rows
abbrev pub no_counts : Counts
no_counts = record { records = 0; versions = 0; entries = 0; signatures = 0 }
