-- Which answer an old file owes to whoever asks of which older schema it is, and which refusal a
-- move owes, whatever the calls do (21 CFR 11.10(a), "the ability to discern invalid or altered
-- records"). The old file comes first, then the new one, then the laboratories in the order of the
-- bytes of their codes. Where the store fails or memory runs out, nothing is owed.
use Rattle.std.specs.Prelude.{◌≡◌, ◌⊎◌, ◌<◌, ◌≤◌, ℕ, ℤ, pos, Bool, true, false, IsTrue, List, Option, Some, Result, Ok, Err, IfErr}
use Rattle.std.specs.Cmp.Lexicographic.{slice_cmp}
use Rattle.std.specs.Ordering.{is_lt, nat_cmp}
use Rattle.sqlite.specs.Effect.{Database}
use Rattle.sqlite.specs.State.{State, HasCleanDisk}
use Rattle.lab_store_tables.specs.Rows.{Tables}
use Rattle.lab_store_files.specs.declared.faults.FileFault.{FileFault}
use Rattle.lab_store_files.specs.declared.faults.FileFault.TheVariants.{NotADeskFile, SchemaOld, SchemaNew, Storage, NotEmpty, Memory}
use Rattle.lab_store_files.specs.Faults.{FailedInStore}
use Rattle.lab_store_files.specs.Owed.{Names, IsNoSchema}
use Rattle.lab_store_files.specs.Schemas.{has_number, is_taken}
use Rattle.lab_move_tables.specs.Olders.{number_of}
use Rattle.lab_move_tables.specs.declared.older.Older.{Older}
use Rattle.lab_move.specs.declared.faults.MoveFault.{MoveFault}
use Rattle.lab_move.specs.declared.faults.MoveFault.TheVariants.{File, NotSound}
use Rattle.lab_move.specs.Moving.{IsUnsoundIn}
use Rattle.lab_move.specs.OldFiles.{StandsFor, is_whole}

-- ---- what an old file owes

-- where it has all tables of these older schemas, and names this number: a number that is none of
-- theirs comes before the tables
abbrev pub IsOldOwed : (Older → Bool) → Option ℤ → Result Older FileFault → Type 0
IsOldOwed has number (Ok older) = (number ≡ Some (pos (number_of older))) × (has older ≡ true)
IsOldOwed has number (Err NotADeskFile) =
    IsNoSchema number
    ⊎ ((older : Older) × (number ≡ Some (pos (number_of older))) × (has older ≡ false))
IsOldOwed has number (Err (SchemaOld n)) =
    (number ≡ Some (pos n)) × (1 ≤ n) × ((older : Older) → n < number_of older)
IsOldOwed has number (Err (SchemaNew n)) =
    (number ≡ Some (pos n)) × ((older : Older) → number_of older < n)
IsOldOwed has number (Err Storage) = ⊥
IsOldOwed has number (Err NotEmpty) = ⊥
IsOldOwed has number (Err Memory) = ⊥

-- which older schemas' tables it has
abbrev pub has_tables : Database → Older → Bool
has_tables db older = is_whole older db.schema

-- the file owes this answer, whichever number it shows
abbrev pub OpensOld : Database → Result Older FileFault → Type 0
OpensOld db answer = (number : Option ℤ) → Names db number → IsOldOwed (has_tables db) number answer

-- or by a number that it shows
abbrev pub MayOpenOld : Database → Result Older FileFault → Type 0
MayOpenOld db answer =
    (number : Option ℤ) × Names db number × IsOldOwed (has_tables db) number answer

-- the answer of a call that asks it
pub record AnswersOldOwed (db : Database) (answer : Result Older FileFault) : Type 0 where
  -- it is owed, by a number that the file shows, or it is the store's
  pub told : MayOpenOld db answer ⊎ FailedInStore answer
  -- what is owed is answered, unless the store failed
  pub owed : (due : Result Older FileFault) → OpensOld db due
      → (answer ≡ due) ⊎ FailedInStore answer
  -- a file that can't be asked for its number is asked nothing, so that no store fails
  pub unnamed : has_number db.schema ≡ false → answer ≡ Err NotADeskFile

-- ---- where a move stops among the laboratories

-- one code comes before the other, by their bytes
abbrev pub precedes : List ℕ → List ℕ → Bool
precedes one other = is_lt (slice_cmp nat_cmp one other)

-- the laboratory of this code isn't sound, and no laboratory of a lesser code is such a one
pub record StopsAt (t : Tables) (code : List ℕ) : Type 0 where
  pub unsound : IsUnsoundIn t code
  pub least : (other : List ℕ) → IsUnsoundIn t other → precedes other code ≡ false

-- in some tables for which the old file stands
abbrev pub StopsInSome : Database → List ℕ → Type 0
StopsInSome db code = (t : Tables) × StandsFor db t × StopsAt t code

-- in all tables for which it stands
abbrev pub StopsInAll : Database → List ℕ → Type 0
StopsInAll db code = (t : Tables) → StandsFor db t → StopsAt t code

-- ---- what a move owes

-- of the old file and of the new one, before it: by what the old one answers, and by where it stops
module _ (Opens : Database → Result Older FileFault → Type 0)
    (Stops : Database → List ℕ → Type 0) (old fresh : Database) where
  abbrev pub IsOfOlder : Type 0
  IsOfOlder = (older : Older) × Opens old (Ok older)

  abbrev pub IsMoveOwed : MoveFault → Type 0
  IsMoveOwed (File NotADeskFile) = Opens old (Err NotADeskFile)
  IsMoveOwed (File (SchemaOld n)) = Opens old (Err (SchemaOld n))
  IsMoveOwed (File (SchemaNew n)) = Opens old (Err (SchemaNew n))
  IsMoveOwed (File NotEmpty) = IsOfOlder × IsTrue (is_taken fresh.schema)
  IsMoveOwed (NotSound lab) = IsOfOlder × (is_taken fresh.schema ≡ false) × Stops old lab
  IsMoveOwed (File Storage) = ⊥
  IsMoveOwed (File Memory) = ⊥

-- the store refused or memory ran out, which says nothing of the files
abbrev pub IsStoreFault : MoveFault → Type 0
IsStoreFault fault = (fault ≡ File Storage) ⊎ (fault ≡ File Memory)

abbrev pub FailedInMove : {A : Type 0} → Result A MoveFault → Type 0
FailedInMove result = (result ≡ Err (File Storage)) ⊎ (result ≡ Err (File Memory))

-- how a move ends, by the old file before and after it, and the new one before it
pub record MovesAsOwed (before after fresh : State) {A : Type 0} (result : Result A MoveFault)
    : Type 0 where
  -- a refusal is owed, by what the old file shows, or it is the store's
  pub told : HasCleanDisk after → IfErr result (λ fault.
      IsMoveOwed MayOpenOld StopsInAll before.now fresh.now fault ⊎ IsStoreFault fault)
  -- what is owed is told, unless the store failed
  pub owed : HasCleanDisk after → (due : MoveFault)
      → IsMoveOwed OpensOld StopsInSome before.now fresh.now due
      → (result ≡ Err due) ⊎ FailedInMove result
