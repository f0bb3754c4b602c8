-- The inspection copy that goes out of a keeper one record at a time (21 CFR 11.10(b): "accurate
-- and complete copies of records in both human readable and electronic form suitable for
-- inspection, review, and copying by the agency"): its text, the walk over the records, and what of
-- a laboratory the walk relies on.
use Rattle.std.specs.Prelude.{ℕ, zero, suc, ◌+◌, ◌-◌, ◌<◌, ◌^◌, List, [], ◌++◌, length, Option, Some, None, IfSome, option_to_list}
use Rattle.lab_records_kept.specs.declared.labs.Lab.{Lab}
use Rattle.lab_records_kept.specs.declared.needs.Need.{Need}
use Rattle.lab_records_kept.specs.declared.needs.RecordWanted.{RecordWanted}
use Rattle.lab_records_kept.specs.declared.records.Record.{Record}
use Rattle.lab_records_kept.specs.Dual.{IsDual}
use Rattle.lab_records_kept.specs.Limits.{AreNumbered, IsWithin}
use Rattle.lab_records_kept.specs.Lookups.{record_of}
use Rattle.lab_records_keeper.specs.Worlds.{World}
use Rattle.lab_copy_rows.specs.Csv.{csv_text}
use Rattle.lab_records_copies.specs.declared.orders.CopyOrder.{CopyOrder}
use Rattle.lab_records_copies.specs.CopyLines.{body_lines, copy_of, rows_of_lines}

-- ---- the text

-- the copy of these records that is made at the desk's own machine: for nobody, at this moment
abbrev pub desk_order : ℕ → ℕ → ℕ → CopyOrder
desk_order from to moment = record { from = from; to = to; person = None; moment = moment }

-- the text of the copy of a laboratory's records; of no laboratory it is empty
abbrev pub copy_text : CopyOrder → Option Lab → List ℕ
copy_text order None = []
copy_text order (Some lab) = csv_text (copy_of lab order)

-- the rows of records, and the text of a copy that has these records under its first line
abbrev pub record_rows : List ℕ → List Record → List (List (List ℕ))
record_rows lab records = rows_of_lines (body_lines lab records)

-- ---- the walk

-- what is needed of a laboratory: how it is headed, and a record, if one is named
abbrev pub record_need : Option RecordWanted → Need
record_need wanted = record {
  token = None;
  person = None;
  form = None;
  filed = wanted;
  list = None;
}

-- the record of a number, where there is a laboratory that has one
abbrev pub record_at : ℕ → Option Lab → Option Record
record_at number None = None
record_at number (Some lab) = record_of lab.records number

-- the records of so many numbers, from one on
abbrev pub walked : Option Lab → ℕ → ℕ → List Record
walked lab from zero = []
walked lab from (suc count) =
    walked lab from count ++ option_to_list (record_at (from + count) lab)

abbrev pub numbers_between : ℕ → ℕ → ℕ
numbers_between from last = last + 1 - from

-- the records from a number to a last one
abbrev pub walked_to : Option Lab → ℕ → ℕ → List Record
walked_to lab from last = walked lab from (numbers_between from last)

-- the rows of these records are fewer than a number of 64 bits can count
abbrev pub AreCountable : List ℕ → List Record → Type 0
AreCountable code records = length (body_lines code records) < 2 ^ 64

-- ---- what the walk relies on

-- a laboratory's records bear the numbers from 1 on, in order, and have fewer rows in all than a
-- number of 64 bits can count
pub record IsWalkable (lab : Lab) : Type 0 where
  pub numbered : AreNumbered (λ kept. kept.number) lab.records
  pub few : AreCountable lab.code lab.records

-- the laboratory of a code can be walked, where there is one and the keeper is live
abbrev pub CanWalk : World → List ℕ → Type 0
CanWalk world code = world.is_live → IfSome (world.meaning code) IsWalkable

-- every laboratory that is within its limits and under dual control can be walked
abbrev pub AllCanBeWalked : Type 0
AllCanBeWalked = (lab : Lab) → IsWithin lab → IsDual lab → IsWalkable lab
