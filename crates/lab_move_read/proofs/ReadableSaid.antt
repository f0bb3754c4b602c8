-- Rows in which an empty text stands for no reason are readable where those with NULL are.
use Rattle.std.proofs.Common.{◌≡◌, ◌≢◌, ℕ, zero, suc, Bool, false, List, [], ◌∷◌, map, All, slice_get, IsTrue, refl, sym, ap, ◌∙◌, subst}
use Rattle.std.specs.Prelude.{slice_set}
use Rattle.std.specs.Option.{option_map_or}
use Rattle.std.proofs.lemmas.List.Elements.{All-nil, All-cons, All-head, All-tail}
use Rattle.sqlite_value.specs.declared.value.Value.{Value}
use Rattle.sqlite_value.specs.declared.value.Value.TheVariants.{Null, Int, Real, Text, Blob}
use Rattle.sqlite_value.specs.Order.{Row, column, bytes}
use Rattle.lab_store_tables.specs.Rows.{number_in}
use Rattle.lab_store_read.specs.Cells.{is_id, is_number, is_small, stands}
use Rattle.lab_move_tables.specs.Checks.{HasId, HasNumber}
use Rattle.lab_move_tables.specs.OldRows.{reason_in}
use Rattle.lab_move_tables.specs.Showing.{said, said_at}
use Rattle.lab_move_read_people.specs.Readable.{is_reason, HasReason}
use Rattle.lab_move_read.specs.Readable.{HasOldEntry, AreEntries, is_old_meaning, HasOldMeaning, HasOldSignature, AreSignatures, HasOldVersion, AreVersions}
use Rattle.lab_move_read.proofs.SaidRows.{other, reason_kept}

-- ---- a column

stands_apart : (is_one : Value → Bool) (row : Row) (at i : ℕ) (value : Value) → i ≢ at → stands is_one (slice_set row at value) i ≡ stands is_one row i
stands_apart is_one [] at i value apart = refl
stands_apart is_one (v ∷ vs) zero zero value apart = absurd (apart refl)
stands_apart is_one (v ∷ vs) zero (suc i) value apart = refl
stands_apart is_one (v ∷ vs) (suc at) zero value apart = refl
stands_apart is_one (v ∷ vs) (suc at) (suc i) value apart = stands_apart is_one vs at i value (λ same. apart (ap suc same))

is_reason_said : (value : Value) → is_reason (said value) ≡ is_reason value
is_reason_said Null = refl
is_reason_said (Int n) = refl
is_reason_said (Real x) = refl
is_reason_said (Text []) = refl
is_reason_said (Text (first ∷ others)) = refl
is_reason_said (Blob b) = refl

reason_stands : (row : Row) (at : ℕ) → stands is_reason (slice_set row at (said (column row at))) at ≡ stands is_reason row at
reason_stands [] at = refl
reason_stands (v ∷ vs) zero = is_reason_said v
reason_stands (v ∷ vs) (suc at) = reason_stands vs at

module _ (at : ℕ) (row : Row) where
  -- what isn't the reason stands as it did
  apart : (is_one : Value → Bool) (i : ℕ) → i ≢ at → IsTrue (stands is_one (said_at at row) i) → IsTrue (stands is_one row i)
  apart is_one i other is = subst IsTrue (stands_apart is_one row at i (said (column row at)) other) is

  there : HasReason at (said_at at row) → HasReason at row
  there is = subst IsTrue (reason_stands row at) is

-- ---- rows

unsaid_all : (at : ℕ) (Has : Row → Type 0) → ((row : Row) → Has (said_at at row) → Has row) → (rows : List Row) → All Has (map (said_at at) rows) → All Has rows
unsaid_all at Has f [] all = All-nil Has
unsaid_all at Has f (row ∷ rows) all =
    All-cons Has row rows (f row (All-head Has (said_at at row) (map (said_at at) rows) all)) (unsaid_all at Has f rows (All-tail Has (said_at at row) (map (said_at at) rows) all))

module _ (at i : ℕ) (other : i ≢ at) (rows : List Row) where
  numbers_unsaid : All (HasNumber i) (map (said_at at) rows) → All (HasNumber i) rows
  numbers_unsaid = unsaid_all at (HasNumber i) (λ row. apart at row (is_number is_small) i other) rows

  ids_unsaid : All (HasId i) (map (said_at at) rows) → All (HasId i) rows
  ids_unsaid = unsaid_all at (HasId i) (λ row. apart at row is_id i other) rows

entry_unsaid : (row : Row) → HasOldEntry (said_at 5 row) → HasOldEntry row
entry_unsaid row is = record {
  key = apart 5 row _ 0 (λ e. cc) is.key;
  value = apart 5 row _ 1 (λ e. cc) is.value;
  unit = apart 5 row _ 2 (λ e. cc) is.unit;
  person = apart 5 row _ 3 (λ e. cc) is.person;
  moment = apart 5 row _ 4 (λ e. cc) is.moment;
  reason = there 5 row is.reason;
}

pub entries_unsaid : (rows : List Row) → AreEntries (map (said_at 5) rows) → AreEntries rows
entries_unsaid rows are = record {
  own = unsaid_all 5 HasOldEntry entry_unsaid rows are.own;
  numbers = numbers_unsaid 5 6 (λ e. cc) rows are.numbers;
  labs = ids_unsaid 5 7 (λ e. cc) rows are.labs;
}

meaning_unsaid : (row : Row) → HasOldMeaning (said_at 3 row) → HasOldMeaning row
meaning_unsaid row is = record {
  word = apart 3 row _ 2 (λ e. cc) is.word;
  reason = there 3 row is.reason;
  known = subst IsTrue (λ i. is_old_meaning (bytes (other 3 2 (λ e. cc) row i)) (reason_kept 3 row i)) is.known;
}

signature_unsaid : (row : Row) → HasOldSignature (said_at 3 row) → HasOldSignature row
signature_unsaid row is = record {
  person = apart 3 row _ 0 (λ e. cc) is.person;
  name = apart 3 row _ 1 (λ e. cc) is.name;
  meaning = meaning_unsaid row is.meaning;
  moment = apart 3 row _ 4 (λ e. cc) is.moment;
  digest = apart 3 row _ 5 (λ e. cc) is.digest;
  seal = apart 3 row _ 6 (λ e. cc) is.seal;
}

pub signatures_unsaid : (rows : List Row) → AreSignatures (map (said_at 3) rows) → AreSignatures rows
signatures_unsaid rows are = record {
  own = unsaid_all 3 HasOldSignature signature_unsaid rows are.own;
  numbers = numbers_unsaid 3 7 (λ e. cc) rows are.numbers;
  labs = ids_unsaid 3 8 (λ e. cc) rows are.labs;
}

version_unsaid : (row : Row) → HasOldVersion (said_at 4 row) → HasOldVersion row
version_unsaid row is = record {
  id = apart 4 row _ 0 (λ e. cc) is.id;
  number = apart 4 row _ 1 (λ e. cc) is.number;
  opener = apart 4 row _ 2 (λ e. cc) is.opener;
  opened = apart 4 row _ 3 (λ e. cc) is.opened;
  reason = there 4 row is.reason;
  lab = apart 4 row _ 5 (λ e. cc) is.lab;
  first = λ one. sym (reason_kept 4 row) ∙ is.first (ap number_in (other 4 1 (λ e. cc) row) ∙ one);
}

pub versions_unsaid : (rows : List Row) → AreVersions (map (said_at 4) rows) → AreVersions rows
versions_unsaid rows are = record {
  own = unsaid_all 4 HasOldVersion version_unsaid rows are.own;
  numbers = numbers_unsaid 4 1 (λ e. cc) rows are.numbers;
}
