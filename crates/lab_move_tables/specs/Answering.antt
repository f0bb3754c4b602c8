-- Which questions a file answers. Of one that its own schema doesn't understand, or whose values it
-- doesn't take, nothing is known but that it is refused.
use Rattle.std.specs.Prelude.{◌≡◌, ℕ, ℤ, ◌≤◌, List, [], ◌∷◌, length, None, Ok}
use Rattle.sqlite_value.specs.declared.value.Value.TheVariants.{Int, Text}
use Rattle.sqlite_value.specs.Order.{Row}
use Rattle.sqlite_schema.specs.declared.command.Command.TheVariants.{Select}
use Rattle.sqlite_resolve.specs.declared.compiled.Compiled.{Compiled}
use Rattle.sqlite_sql.specs.Query.{Query}
use Rattle.sqlite.specs.declared.error.Error.{Error}
use Rattle.sqlite.specs.Effect.{Database, RefusesQuery}
use Rattle.sqlite.specs.Listing.{understood, reads_listing, IsSourceOf}
use Rattle.lab_move_tables.specs.declared.older.Older.{Older}
use Rattle.lab_move_tables.specs.Questions.{codes_text, lab_text, person_text, owner_text, session_text, form_text, field_text, choice_text, filed_text, version_text, entry_text, entry_place_text, signature_text, signature_place_text, told_text}

-- a file takes a question with these parameters: by its schema the text is one query with so many
-- parameters that asks for no time, and the query is refused neither for the types of its values nor
-- for a sum that is too great
pub record IsTaken (db : Database) (sql : List ℕ) (params : Row) : Type 0 where
  pub read : Compiled
  pub is : understood db.schema sql ≡ Ok read
  pub whole : length sql ≤ read.tail
  pub given : length params ≡ length read.names
  pub timeless : read.formats ≡ []
  pub query : Query
  pub names : List (List ℕ)
  pub selects : read.command ≡ Select (record { lets = []; body = query }) names
  pub accepted : (source : Database) → IsSourceOf (reads_listing db.schema sql) db source
      → (e : Error) → ¬ RefusesQuery None source (record { lets = []; body = query }) params e

-- it takes each of the fifteen questions, whatever it is asked for
pub record TakesAll (older : Older) (db : Database) : Type 0 where
  pub labs : IsTaken db codes_text []
  pub lab : (code : List ℕ) → IsTaken db lab_text (Text code ∷ [])
  pub persons : (lab : ℤ) → IsTaken db (person_text older) (Int lab ∷ [])
  pub owner : (id : ℤ) → IsTaken db owner_text (Int id ∷ [])
  pub sessions : (lab : ℤ) → IsTaken db session_text (Int lab ∷ [])
  pub trail : (lab : ℤ) → IsTaken db told_text (Int lab ∷ [])
  pub forms : (lab : ℤ) → IsTaken db (form_text older) (Int lab ∷ [])
  pub fields : (form : ℤ) → IsTaken db field_text (Int form ∷ [])
  pub choices : (field : ℤ) → IsTaken db choice_text (Int field ∷ [])
  pub records : (lab : ℤ) → IsTaken db filed_text (Int lab ∷ [])
  pub versions : (kept : ℤ) → IsTaken db (version_text older) (Int kept ∷ [])
  pub entries : (version : ℤ) → IsTaken db entry_text (Int version ∷ [])
  pub entry_places : (version : ℤ) → IsTaken db entry_place_text (Int version ∷ [])
  pub signatures : (version : ℤ) → IsTaken db signature_text (Int version ∷ [])
  pub signature_places : (version : ℤ) → IsTaken db signature_place_text (Int version ∷ [])
