-- What a question shows of a file: the rows that SQL means by it, by the schema that the file itself
-- has (ISO/IEC 9075-2, query expressions).
use Rattle.std.specs.Prelude.{◌≡◌, ℕ, List, [], ◌∷◌, map, slice_set, Ok}
use Rattle.sqlite_value.specs.declared.value.Value.{Value}
use Rattle.sqlite_value.specs.declared.value.Value.TheVariants.{Null, Int, Real, Text, Blob}
use Rattle.sqlite_value.specs.Order.{Row, column}
use Rattle.sqlite_resolve.specs.declared.compiled.Compiled.{Compiled}
use Rattle.sqlite.specs.Clock.{timed}
use Rattle.sqlite.specs.Effect.{Database, Reads}
use Rattle.sqlite.specs.Listing.{understood, reads_listing, IsSourceOf}

-- a question with these parameters shows these rows of a file, as it is read there
pub record ShowsOf (db : Database) (sql : List ℕ) (params : Row) (rows : List Row) : Type 0 where
  pub read : Compiled
  pub is : understood db.schema sql ≡ Ok read
  pub source : Database
  pub from : IsSourceOf (reads_listing db.schema sql) db source
  pub moment : ℕ
  pub shown : Reads read.command source (timed params read.formats moment) rows

-- whatever it shows is this
abbrev pub Shows : Database → List ℕ → Row → List Row → Type 0
Shows db sql params wanted = (rows : List Row) → ShowsOf db sql params rows → rows ≡ wanted

-- ---- a reason, for which some files have an empty text where there is none

abbrev pub said : Value → Value
said Null = Null
said (Int n) = Int n
said (Real x) = Real x
said (Text []) = Null
said (Text (first ∷ others)) = Text (first ∷ others)
said (Blob b) = Blob b

-- a row with a reason at a place, NULL where there is none
abbrev pub said_at : ℕ → Row → Row
said_at at row = slice_set row at (said (column row at))

-- whatever it shows is this, where an empty text at a place is no reason
abbrev pub ShowsSaid : Database → List ℕ → Row → ℕ → List Row → Type 0
ShowsSaid db sql params at wanted =
    (rows : List Row) → ShowsOf db sql params rows → map (said_at at) rows ≡ wanted
