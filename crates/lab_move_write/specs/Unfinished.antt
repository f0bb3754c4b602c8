-- A file that is to be filled: the twelve tables, none of which has a row. The one that names the
-- schema comes last, so that a file which was left before is none in which laboratories are kept
-- (21 CFR 11.10(a), "the ability to discern invalid or altered records").
use Rattle.std.specs.Prelude.{◌≡◌, ℕ, List, [], None}
use Rattle.sqlite.specs.Effect.{Database}
use Rattle.lab_records_keeper.specs.Worlds.{SameMeaning}
use Rattle.lab_store_tables.specs.Rows.{tables_in}
use Rattle.lab_store_tables.specs.Family.{empty_tables}
use Rattle.lab_store_tables.specs.Held.{IsTyped, Holds}
use Rattle.lab_store_tables.specs.Meaning.{meaning}
use Rattle.lab_store_tables.specs.Ready.{IsKept}
use Rattle.lab_store_tables.specs.WellKept.{AreWellKept}
use Rattle.lab_store_files.specs.NewFiles.{IsBlank}

abbrev pub IsUnfinished : Database → Type 0
IsUnfinished db = Holds db empty_tables

-- one that is being filled: its rows are well kept, but none names their schema
pub record IsBeingFilled (db : Database) : Type 0 where
  pub typed : IsTyped db
  pub rows : AreWellKept (tables_in db.trees)
  pub unnamed : (tables_in db.trees).desk ≡ []

-- the filling begins where nothing was, without a laboratory
abbrev pub Begins : Database → Database → Type 0
Begins was db =
    IsBlank was → IsBeingFilled db × ((code : List ℕ) → meaning (tables_in db.trees) code ≡ None)

-- it is finished: the file is a whole one, and every laboratory means what it meant
abbrev pub Finishes : Database → Database → Type 0
Finishes was db =
    IsBeingFilled was
    → IsKept db × SameMeaning (meaning (tables_in was.trees)) (meaning (tables_in db.trees))
