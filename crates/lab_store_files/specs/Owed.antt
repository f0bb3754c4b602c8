-- Which answer a file owes to whoever opens it, whatever the call does: each refusal exactly where
-- it applies (21 CFR 11.10(a), "the ability to discern invalid or altered records"). Where the
-- store fails or memory runs out, nothing is owed.
use Rattle.std.specs.Prelude.{◌≡◌, ◌≢◌, ◌⊎◌, ◌<◌, ◌≤◌, ℕ, ℤ, pos, Bool, true, false, List, [], Option, Some, None, Result, Ok, Err}
use Rattle.sqlite_value.specs.Order.{Row}
use Rattle.sqlite_schema.specs.declared.schema.Schema.{Schema}
use Rattle.sqlite_resolve.specs.declared.compiled.Compiled.{Compiled}
use Rattle.sqlite.specs.Clock.{timed}
use Rattle.sqlite.specs.Effect.{Database, Reads}
use Rattle.sqlite.specs.Listing.{understood, reads_listing, IsSourceOf}
use Rattle.lab_store_files.specs.declared.faults.FileFault.{FileFault}
use Rattle.lab_store_files.specs.declared.faults.FileFault.TheVariants.{NotADeskFile, SchemaOld, SchemaNew, Storage, NotEmpty, Memory}
use Rattle.lab_store_files.specs.Faults.{FailedInStore}
use Rattle.lab_store_files.specs.Schemas.{has_number}
use Rattle.lab_store_files.specs.Verdicts.{number_query, number_shown}

-- ---- the number that a file names

-- the question for the number shows these rows of a file, as SQL means it there
pub record ShowsRows (db : Database) (rows : List Row) : Type 0 where
  pub read : Compiled
  pub is : understood db.schema number_query ≡ Ok read
  pub source : Database
  pub from : IsSourceOf (reads_listing db.schema number_query) db source
  pub moment : ℕ
  pub shown : Reads read.command source (timed [] read.formats moment) rows

-- a file names this number, or none
abbrev pub Names : Database → Option ℤ → Type 0
Names db number =
    ((has_number db.schema ≡ false) × (number ≡ None))
    ⊎ ((has_number db.schema ≡ true)
    × (rows : List Row) × ShowsRows db rows × (number ≡ number_shown rows))

-- schemas are numbered from 1
abbrev pub IsNoSchema : Option ℤ → Type 0
IsNoSchema number = (n : ℕ) → 1 ≤ n → number ≢ Some (pos n)

-- ---- what it owes

-- where a schema is wanted and the file names this number: the number comes before the tables, so
-- that a file of another schema is told as such whatever its tables are
abbrev pub IsOwed : ℕ → Bool → Option ℤ → Result (Unit {0}) FileFault → Type 0
IsOwed wanted whole number (Ok _) = (number ≡ Some (pos wanted)) × (whole ≡ true)
IsOwed wanted whole number (Err NotADeskFile) =
    IsNoSchema number ⊎ ((number ≡ Some (pos wanted)) × (whole ≡ false))
IsOwed wanted whole number (Err (SchemaOld n)) =
    (number ≡ Some (pos n)) × (1 ≤ n) × (n < wanted)
IsOwed wanted whole number (Err (SchemaNew n)) = (number ≡ Some (pos n)) × (wanted < n)
IsOwed wanted whole number (Err Storage) = ⊥
IsOwed wanted whole number (Err NotEmpty) = ⊥
IsOwed wanted whole number (Err Memory) = ⊥

module _ (wanted : ℕ) (is_whole : Schema → Bool) where
  -- the file owes this answer, whichever number it shows
  abbrev pub OpensBy : Database → Result (Unit {0}) FileFault → Type 0
  OpensBy db answer =
      (number : Option ℤ) → Names db number → IsOwed wanted (is_whole db.schema) number answer

  -- or by a number that it shows
  abbrev pub MayOpenBy : Database → Result (Unit {0}) FileFault → Type 0
  MayOpenBy db answer =
      (number : Option ℤ) × Names db number × IsOwed wanted (is_whole db.schema) number answer

  -- the answer of a call that opens the file
  pub record AnswersOwed (db : Database) (answer : Result (Unit {0}) FileFault) : Type 0 where
    -- it is owed, by a number that the file shows, or it is the store's
    pub told : MayOpenBy db answer ⊎ FailedInStore answer
    -- what is owed is answered, unless the store failed
    pub owed : (due : Result (Unit {0}) FileFault) → OpensBy db due
        → (answer ≡ due) ⊎ FailedInStore answer
    -- a file that can't be asked for its number is asked nothing, so that no store fails
    pub unnamed : has_number db.schema ≡ false → answer ≡ Err NotADeskFile
