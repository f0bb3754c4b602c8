-- Rows in which an empty text stands for no reason are read, and tried, as those with NULL.
use Rattle.std.proofs.Common.{◌≡◌, ◌≢◌, ℕ, zero, suc, ℤ, ◌+◌, ◌==◌, ◌&&◌, List, [], ◌∷◌, map, refl, ap, ap₂, ◌∙◌, int_eq}
use Rattle.std.specs.Prelude.{slice_set}
use Rattle.std.proofs.lemmas.List.{length-map}
use Rattle.sqlite_value.specs.declared.value.Value.{Value}
use Rattle.sqlite_value.specs.declared.value.Value.TheVariants.{Null, Int, Real, Text, Blob}
use Rattle.sqlite_value.specs.Order.{Row, column, bytes}
use Rattle.sqlite_rules.specs.Edit.{id_in}
use Rattle.lab_store_tables.specs.Rows.{number_in}
use Rattle.lab_store_tables.specs.Columns.{meaning_in}
use Rattle.lab_move_tables.specs.OldRows.{reason_in}
use Rattle.lab_move_tables.specs.Showing.{said, said_at}
use Rattle.lab_move_tables.specs.Checks.{are_numbered_after, are_owned}
use Rattle.lab_move_read_people.specs.Kept.{are_counted}
use Rattle.lab_move_tables.specs.declared.older.Older.{Older}
use Rattle.lab_move_tables.specs.declared.older.Older.TheVariants.{Two}
use Rattle.lab_move_read.specs.Private.Records.{entry_read, signature_read}
use Rattle.lab_move_read.specs.Records.{format_in, version_read}

-- ---- a row

set_apart : (row : Row) (at i : ℕ) (value : Value) → i ≢ at → column (slice_set row at value) i ≡ column row i
set_apart [] at i value apart = refl
set_apart (v ∷ vs) zero zero value apart = absurd (apart refl)
set_apart (v ∷ vs) zero (suc i) value apart = refl
set_apart (v ∷ vs) (suc at) zero value apart = refl
set_apart (v ∷ vs) (suc at) (suc i) value apart = set_apart vs at i value (λ same. apart (ap suc same))

set_there : (row : Row) (at : ℕ) → column (slice_set row at (said (column row at))) at ≡ said (column row at)
set_there [] at = refl
set_there (v ∷ vs) zero = refl
set_there (v ∷ vs) (suc at) = set_there vs at

-- what isn't the reason is as it was
pub other : (at i : ℕ) → i ≢ at → (row : Row) → column (said_at at row) i ≡ column row i
other at i apart row = set_apart row at i (said (column row at)) apart

said_reason : (value : Value) → reason_in (said value) ≡ reason_in value
said_reason Null = refl
said_reason (Int n) = refl
said_reason (Real x) = refl
said_reason (Text []) = refl
said_reason (Text (first ∷ others)) = refl
said_reason (Blob b) = refl

pub reason_kept : (at : ℕ) (row : Row) → reason_in (column (said_at at row) at) ≡ reason_in (column row at)
reason_kept at row = ap reason_in (set_there row at) ∙ said_reason (column row at)

pub entry_said : (row : Row) → entry_read (said_at 5 row) ≡ entry_read row
entry_said row = λ i. record {
  key = bytes (other 5 0 (λ e. cc) row i);
  value = bytes (other 5 1 (λ e. cc) row i);
  unit = bytes (other 5 2 (λ e. cc) row i);
  person = bytes (other 5 3 (λ e. cc) row i);
  moment = number_in (other 5 4 (λ e. cc) row i);
  reason = reason_kept 5 row i;
}

pub signature_said : (row : Row) → signature_read (said_at 3 row) ≡ signature_read row
signature_said row = λ i. record {
  person = bytes (other 3 0 (λ e. cc) row i);
  name = bytes (other 3 1 (λ e. cc) row i);
  meaning = meaning_in (bytes (other 3 2 (λ e. cc) row i)) (reason_kept 3 row i);
  moment = number_in (other 3 4 (λ e. cc) row i);
  digest = bytes (other 3 5 (λ e. cc) row i);
  seal = bytes (other 3 6 (λ e. cc) row i);
}

format_said : (older : Older) (row : Row) → format_in older (said_at 4 row) ≡ format_in older row
format_said Two row = refl

pub version_said : (older : Older) (row : Row) → version_read older (said_at 4 row) ≡ version_read older row
version_said older row = λ i. record {
  id = id_in (other 4 0 (λ e. cc) row i);
  number = number_in (other 4 1 (λ e. cc) row i);
  format = format_said older row i;
  opener = bytes (other 4 2 (λ e. cc) row i);
  opened = number_in (other 4 3 (λ e. cc) row i);
  reason = reason_kept 4 row i;
  lab = id_in (other 4 5 (λ e. cc) row i);
}

-- ---- rows

module _ (at i : ℕ) (apart : i ≢ at) where
  numbered_said : (before : ℕ) (rows : List Row) → are_numbered_after i before (map (said_at at) rows) ≡ are_numbered_after i before rows
  numbered_said before [] = refl
  numbered_said before (row ∷ rows) = ap₂ (λ v more. (number_in v == before + 1) && more) (other at i apart row) (numbered_said (before + 1) rows)

  pub counted_said : (count : ℕ) (rows : List Row) → are_counted i count (map (said_at at) rows) ≡ are_counted i count rows
  counted_said count rows = ap₂ (λ n more. (n == count) && more) (length-map rows (said_at at)) (numbered_said 0 rows)

  pub owned_said : (lab : ℤ) (rows : List Row) → are_owned i lab (map (said_at at) rows) ≡ are_owned i lab rows
  owned_said lab [] = refl
  owned_said lab (row ∷ rows) = ap₂ (λ v more. int_eq (id_in v) lab && more) (other at i apart row) (owned_said lab rows)
