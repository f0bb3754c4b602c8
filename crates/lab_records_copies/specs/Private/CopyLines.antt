-- What clauses of private functions say beside CopyLines.antt.
use Rattle.std.specs.Prelude.{ℕ, Bool, List, filter, length, codes, bytes_eq}
use Rattle.lab_copy_rows.specs.Rows.{kind_in}
use Rattle.lab_copy_rows.specs.declared.lines.Counts.{Counts}

-- ---- rows

-- how many rows are of a kind, and of each kind
abbrev pub has_kind : List ℕ → List (List ℕ) → Bool
has_kind kind row = bytes_eq (kind_in row) kind

abbrev pub count_of : List ℕ → List (List (List ℕ)) → ℕ
count_of kind rows = length (filter (has_kind kind) rows)

abbrev pub counts_in : List (List (List ℕ)) → Counts
counts_in rows = record {
  records = count_of (codes "record") rows;
  versions = count_of (codes "version") rows;
  entries = count_of (codes "entry") rows;
  signatures = count_of (codes "signature") rows;
}
