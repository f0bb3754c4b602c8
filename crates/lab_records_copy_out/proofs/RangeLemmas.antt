-- The rows of the records in a part are those of the laboratory's.
use Rattle.std.proofs.Common.{◌≡◌, ℕ, Option, Some, None, refl}
use Rattle.std.specs.Prelude.{option_map}
use Rattle.lab_records_kept.specs.declared.labs.Lab.{Lab}
use Rattle.lab_records_kept.specs.Parts.{part_of}
use Rattle.lab_records_copy_out.specs.Ranges.{body_of, range_need}
use Rattle.lab_records_copy_out.specs.Private.Ranges.{rows_in}

pub body_is : (from to : ℕ) (kept : Option Lab) →
    option_map rows_in (part_of (range_need from to) kept) ≡ option_map (body_of from to) kept
body_is from to None = refl
body_is from to (Some lab) = refl
