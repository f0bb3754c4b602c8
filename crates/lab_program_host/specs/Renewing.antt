-- A file that is written in place anew, over a disk that may have lost what a sync that failed had:
-- a byte that this handle hasn't written may be another one on the disk than it is read (fsync(2),
-- 'Error handling': which pages failed isn't known afterwards, and they aren't written again).
use Rattle.std.specs.Prelude.{◌≡◌, ◌⊎◌, ◌+◌, ◌<◌, ◌≤◌, ℕ, List, length, slice_index, max}

-- the file has these bytes at this place
pub record HasAt (at : ℕ) (bytes file : List ℕ) : Type 0 where
  pub within : at + length bytes ≤ length file
  pub each : (i : ℕ) → i < length bytes → slice_index file (at + i) ≡ slice_index bytes i

-- these bytes were put there, and all others are as before
pub record IsPutAt (at : ℕ) (bytes old new : List ℕ) : Type 0 where
  pub has : HasAt at bytes new
  pub same_length : length new ≡ max (length old) (at + length bytes)
  pub before : (i : ℕ) → i < length old → i < at → slice_index new i ≡ slice_index old i
  pub behind : (i : ℕ) → i < length old → at + length bytes ≤ i →
      slice_index new i ≡ slice_index old i

-- these bytes, and those that were written before, are written now
abbrev pub AreWritten : ℕ → ℕ → (ℕ → Type 0) → (ℕ → Type 0) → Type 0
AreWritten at count old new = (i : ℕ) → old i ⊎ ((at ≤ i) × (i < at + count)) → new i

-- of a file that was synchronized a crash leaves each byte that was written, as it is read
pub record IsLeft (written : ℕ → Type 0) (seen left : List ℕ) : Type 0 where
  pub same_length : length left ≡ length seen
  pub each : (i : ℕ) → i < length seen → written i → slice_index left i ≡ slice_index seen i
