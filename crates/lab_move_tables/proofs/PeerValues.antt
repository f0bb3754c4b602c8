-- What the texts of the other style come to, by the rules of SQL; and a small file in that style.
use Rattle.std.proofs.Common.{◌≡◌, ℕ, List, [], ◌∷◌, Ok, refl}
use Rattle.std.specs.Prelude.{codes}
use Rattle.sqlite_value.specs.Order.{Row}
use Rattle.sqlite_value.specs.declared.value.Value.TheVariants.{Null, Text}
use Rattle.sqlite_resolve.specs.Compile.{table_defined_by}
use Rattle.sqlite_catalog.specs.Change.{created}
use Rattle.sqlite_schema.specs.declared.schema.Schema.{Schema}
use Rattle.sqlite_schema.specs.declared.schema.Table.{Table}
use Rattle.sqlite_tied.specs.Compute.{everything}
use Rattle.sqlite.specs.Listing.{understood}
use Rattle.lab_store_tables.specs.Sheets.{table_of}
use Rattle.lab_store_tables.specs.Family.{Name, Desk, Labs, Persons, Sessions, Forms, Fields, Choices, Records, Versions, Entries, Signatures, Trail}
use Rattle.lab_store_tables.proofs.FamilyWords.{trees_by}
use Rattle.lab_move_tables.specs.declared.older.Older.TheVariants.{Two}
use Rattle.lab_move_tables.specs.OldRows.{old_tables}
use Rattle.lab_move_tables.specs.PeerFiles.{peer, loose, peer_schema}
use Rattle.lab_move_tables.specs.Showing.{said, said_at}
use Rattle.lab_move_tables.proofs.KnownOldFile.{lifted}

abbrev no_schema : Schema
no_schema = record { tables = []; indexes = []; views = [] }

abbrev kept_in : Name → Table
kept_in k = loose (table_of (peer k).sheet)

-- a table before it stands in a tree
abbrev placeless : Name → Table
placeless k = record (kept_in k) { tree = 0 }

pub desk_is : table_defined_by (codes "CREATE TABLE desk (id INTEGER PRIMARY KEY, schema INTEGER NOT NULL)") ≡ Ok (placeless Desk)
unfolding understood everything
desk_is = refl

pub labs_is : table_defined_by (codes "CREATE TABLE labs (id INTEGER PRIMARY KEY, code TEXT NOT NULL UNIQUE, name TEXT NOT NULL, last INTEGER NOT NULL, stray INTEGER NOT NULL, records INTEGER NOT NULL, sessions INTEGER NOT NULL, trail INTEGER NOT NULL)") ≡ Ok (placeless Labs)
unfolding understood everything
labs_is = refl

pub persons_is : table_defined_by (codes "CREATE TABLE persons (id INTEGER PRIMARY KEY, lab INTEGER NOT NULL REFERENCES labs (id), code TEXT NOT NULL, name TEXT NOT NULL, roles INTEGER NOT NULL, retired INTEGER NOT NULL, failures INTEGER NOT NULL, locked INTEGER, kind INTEGER NOT NULL, salt BLOB, rounds INTEGER, bytes BLOB, salt2 BLOB, bytes2 BLOB, changed INTEGER, asker INTEGER REFERENCES persons (id), asked INTEGER, ask_salt BLOB, ask_bytes BLOB, UNIQUE (lab, code))") ≡ Ok (placeless Persons)
unfolding understood everything
persons_is = refl

pub sessions_is : table_defined_by (codes "CREATE TABLE sessions (id INTEGER PRIMARY KEY, lab INTEGER NOT NULL REFERENCES labs (id), person INTEGER NOT NULL REFERENCES persons (id), number INTEGER NOT NULL, token BLOB NOT NULL, opened INTEGER NOT NULL, last INTEGER NOT NULL, closed INTEGER NOT NULL, signed INTEGER NOT NULL, UNIQUE (lab, token), UNIQUE (lab, number))") ≡ Ok (placeless Sessions)
unfolding understood everything
sessions_is = refl

pub forms_is : table_defined_by (codes "CREATE TABLE forms (id INTEGER PRIMARY KEY, lab INTEGER NOT NULL REFERENCES labs (id), code TEXT NOT NULL, version INTEGER NOT NULL, UNIQUE (lab, code, version))") ≡ Ok (placeless Forms)
unfolding understood everything
forms_is = refl

pub fields_is : table_defined_by (codes "CREATE TABLE fields (id INTEGER PRIMARY KEY, form INTEGER NOT NULL REFERENCES forms (id), place INTEGER NOT NULL, key TEXT NOT NULL, label TEXT NOT NULL, required INTEGER NOT NULL, kind TEXT NOT NULL, unit TEXT, decimals INTEGER, low TEXT, high TEXT, size INTEGER, UNIQUE (form, place), UNIQUE (form, key))") ≡ Ok (placeless Fields)
unfolding understood everything
fields_is = refl

pub choices_is : table_defined_by (codes "CREATE TABLE choices (id INTEGER PRIMARY KEY, field INTEGER NOT NULL REFERENCES fields (id), place INTEGER NOT NULL, name TEXT NOT NULL, UNIQUE (field, place))") ≡ Ok (placeless Choices)
unfolding understood everything
choices_is = refl

pub records_is : table_defined_by (codes "CREATE TABLE records (id INTEGER PRIMARY KEY, lab INTEGER NOT NULL REFERENCES labs (id), number INTEGER NOT NULL, form INTEGER NOT NULL REFERENCES forms (id), form_code TEXT NOT NULL, sample TEXT NOT NULL, current INTEGER NOT NULL, UNIQUE (lab, number), UNIQUE (lab, form_code, sample))") ≡ Ok (placeless Records)
unfolding understood everything
records_is = refl

pub versions_is : table_defined_by (codes "CREATE TABLE versions (id INTEGER PRIMARY KEY, record INTEGER NOT NULL REFERENCES records (id), number INTEGER NOT NULL, opener INTEGER NOT NULL REFERENCES persons (id), opened INTEGER NOT NULL, reason TEXT NOT NULL, UNIQUE (record, number))") ≡ Ok (placeless Versions)
unfolding understood everything
versions_is = refl

pub entries_is : table_defined_by (codes "CREATE TABLE entries (id INTEGER PRIMARY KEY, version INTEGER NOT NULL REFERENCES versions (id), place INTEGER NOT NULL, key TEXT NOT NULL, value TEXT NOT NULL, unit TEXT NOT NULL, person INTEGER NOT NULL REFERENCES persons (id), moment INTEGER NOT NULL, reason TEXT NOT NULL, UNIQUE (version, place))") ≡ Ok (placeless Entries)
unfolding understood everything
entries_is = refl

pub signatures_is : table_defined_by (codes "CREATE TABLE signatures (id INTEGER PRIMARY KEY, version INTEGER NOT NULL REFERENCES versions (id), place INTEGER NOT NULL, person INTEGER NOT NULL REFERENCES persons (id), name TEXT NOT NULL, meaning TEXT NOT NULL, moment INTEGER NOT NULL, reason TEXT NOT NULL, digest BLOB NOT NULL, seal BLOB NOT NULL, UNIQUE (version, place), UNIQUE (version, meaning))") ≡ Ok (placeless Signatures)
unfolding understood everything
signatures_is = refl

pub trail_is : table_defined_by (codes "CREATE TABLE trail (id INTEGER PRIMARY KEY, lab INTEGER NOT NULL REFERENCES labs (id), number INTEGER NOT NULL, moment INTEGER NOT NULL, person INTEGER REFERENCES persons (id), action TEXT NOT NULL, subject TEXT NOT NULL, UNIQUE (lab, number))") ≡ Ok (placeless Trail)
unfolding understood everything
trail_is = refl

-- one made after the other, they are the schema
pub schema_is : created (created (created (created (created (created (created (created (created (created (created (created no_schema (kept_in Desk)) (kept_in Labs)) (kept_in Persons)) (kept_in Sessions)) (kept_in Forms))
    (kept_in Fields)) (kept_in Choices)) (kept_in Records)) (kept_in Versions)) (kept_in Entries)) (kept_in Signatures)) (kept_in Trail) ≡ peer_schema
unfolding understood everything
schema_is = refl

-- each table's rows in its own tree; they are read as those of a file with our tables
abbrev trees : ℕ → List Row
trees = trees_by peer lifted

pub known_tables : old_tables Two trees ≡ lifted
known_tables = refl

-- an empty text is no reason
pub known_said : (said (Text []) ≡ Null) × (said (Text (codes "x")) ≡ Text (codes "x")) × (said_at 1 (Text [] ∷ Text [] ∷ []) ≡ Text [] ∷ Null ∷ [])
known_said = (refl, refl, refl)
