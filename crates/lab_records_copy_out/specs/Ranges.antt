-- The rows of a laboratory's records from a number to a number, without those with which a copy of
-- them begins and ends.
use Rattle.std.specs.Prelude.{ℕ, List, Some, None}
use Rattle.lab_records_kept.specs.declared.labs.Lab.{Lab}
use Rattle.lab_records_kept.specs.declared.needs.ListWanted.TheVariants.{Records}
use Rattle.lab_records_kept.specs.declared.needs.Need.{Need}
use Rattle.lab_records_kept.specs.Lookups.{records_within}
use Rattle.lab_records_copy_out.specs.CopyTexts.{record_rows}

-- what is needed of a laboratory: these records
abbrev pub range_need : ℕ → ℕ → Need
range_need from to = record {
  token = None;
  person = None;
  form = None;
  filed = None;
  list = Some (Records from to);
}

-- the rows of a laboratory's records from a number to a number
abbrev pub body_of : ℕ → ℕ → Lab → List (List (List ℕ))
body_of from to lab = record_rows lab.code (records_within from to lab.records)
