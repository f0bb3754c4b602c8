-- The numbers and words by which the interface tells what a check of a copy found
-- (docs/REFUSALS.md).
use Rattle.std.specs.Prelude.{ℕ, Option, Some, None, codes}
use Rattle.lab_forms_texts.specs.Faults.{Entry}
use Rattle.lab_copy_rows.specs.declared.flaws.Flaw.{Flaw}
use Rattle.lab_copy_rows.specs.declared.flaws.Flaw.TheVariants.{BadRow, Digest, Seal, Order, NoEnd, OnePerson}

abbrev pub flaw_entry : Flaw → Entry
flaw_entry (BadRow _) = record { number = 70; word = codes "bad_row" }
flaw_entry (Digest _) = record { number = 71; word = codes "digest" }
flaw_entry (Seal _) = record { number = 72; word = codes "seal" }
flaw_entry (Order _) = record { number = 73; word = codes "order" }
flaw_entry NoEnd = record { number = 74; word = codes "no_end" }
flaw_entry (OnePerson _) = record { number = 75; word = codes "one_person" }

-- the row at which a flaw is told
abbrev pub flaw_row : Flaw → Option ℕ
flaw_row (BadRow row) = Some row
flaw_row (Digest row) = Some row
flaw_row (Seal row) = Some row
flaw_row (Order row) = Some row
flaw_row NoEnd = None
flaw_row (OnePerson row) = Some row
