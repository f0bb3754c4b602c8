-- What clauses of private functions say beside Ranges.antt.
use Rattle.std.specs.Prelude.{ℕ, List}
use Rattle.lab_records_kept.specs.declared.needs.Slice.{Slice}
use Rattle.lab_records_copy_out.specs.CopyTexts.{record_rows}

-- the rows of the records in a part
abbrev pub rows_in : Slice → List (List (List ℕ))
rows_in slice = record_rows slice.code slice.records
