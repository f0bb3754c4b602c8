-- What a file that is to be moved is: one of an older schema of which files are moved, of one before or
-- after these, or none in which laboratories are kept (21 CFR 11.10(a), "the ability to discern invalid or altered records"). The
-- one row of the table `desk` says which schema it has.
use Rattle.std.specs.Prelude.{◌≡◌, ◌⊎◌, ℕ, ℤ, pos, int_lt, unsigned_abs, Bool, true, false, ◌==◌, ◌&&◌, if◌then◌else◌, List, [], ◌∷◌, find, codes, Option, Some, None, Result, Ok, Err}
use Rattle.std.specs.List.{list_all}
use Rattle.std.specs.Option.{option_map_or}
use Rattle.std.specs.Ordering.{int_eq}
use Rattle.sqlite_value.specs.Order.{Row}
use Rattle.sqlite_schema.specs.declared.schema.Schema.{Schema}
use Rattle.sqlite_schema.specs.declared.schema.Table.{Table}
use Rattle.sqlite.specs.Effect.{Database}
use Rattle.sqlite.specs.State.{State, Shown}
use Rattle.lab_store_tables.specs.Schema as ours
use Rattle.lab_store_tables.specs.Rows.{DeskRow, Tables}
use Rattle.lab_store_tables.specs.Sheets.{table_of}
use Rattle.lab_store_tables.specs.Family as kept
use Rattle.lab_store_files.specs.declared.faults.FileFault.{FileFault}
use Rattle.lab_store_files.specs.declared.faults.FileFault.TheVariants.{NotADeskFile, SchemaOld, SchemaNew}
use Rattle.lab_store_files.specs.Faults.{FailedInStore}
use Rattle.lab_store_files.specs.Schemas.{table_named, has_columns, has_number}
use Rattle.lab_store_files.specs.Verdicts.{number_query, number_shown}
use Rattle.lab_move.specs.Arrows.{has_id, has_arrows}
use Rattle.lab_move_tables.specs.Olders.{all_older, layout_of, number_of}
use Rattle.lab_move_tables.specs.Showing.{ShowsOf}
use Rattle.lab_move_tables.specs.Standing.{StandsBy}
use Rattle.lab_move_tables.specs.declared.older.Older.{Older}
use Rattle.lab_move_tables.specs.declared.older.Older.TheVariants.{Two}
use Rattle.lab_move.specs.declared.old_tables.OldTable.{OldTable}
use Rattle.lab_move.specs.declared.old_tables.OldTable.TheVariants.{Desk, Labs, Persons, Sessions, Forms, Fields, Choices, Records, Versions, Entries, Signatures, Trail}

-- ---- the tables

-- by the value of the schema
abbrev table_by : Older → kept.Name → Table
table_by older one = table_of (layout_of older one).sheet

-- each as the older schema has it: as today's, but for those that have changed since
abbrev pub own_table : Older → OldTable → Table
own_table older Desk = ours.desk
own_table older Labs = ours.labs
own_table older Persons = table_by older kept.Persons
own_table older Sessions = ours.sessions
own_table older Forms = table_by older kept.Forms
own_table older Fields = ours.fields
own_table older Choices = ours.choices
own_table older Records = ours.records
own_table older Versions = table_by older kept.Versions
own_table older Entries = ours.entries
own_table older Signatures = ours.signatures
own_table older Trail = ours.trail

abbrev pub name_of : OldTable → List ℕ
name_of Desk = codes "desk"
name_of Labs = codes "labs"
name_of Persons = codes "persons"
name_of Sessions = codes "sessions"
name_of Forms = codes "forms"
name_of Fields = codes "fields"
name_of Choices = codes "choices"
name_of Records = codes "records"
name_of Versions = codes "versions"
name_of Entries = codes "entries"
name_of Signatures = codes "signatures"
name_of Trail = codes "trail"

abbrev pub all_tables : List OldTable
all_tables =
    Desk ∷ Labs ∷ Persons ∷ Sessions ∷ Forms ∷ Fields ∷ Choices ∷ Records ∷ Versions ∷ Entries
    ∷ Signatures ∷ Trail ∷ []

-- the table has ours' columns, an id and ours' references, in whatever order, and however they were
-- written; of a key that it lacks its rows are tried when they are placed in the new file
abbrev pub is_like : Table → Table → Bool
is_like ours table = has_columns ours table && (has_id table && has_arrows ours table)

-- the table is there, and is like ours
abbrev pub has_table : Older → Schema → OldTable → Bool
has_table older schema one =
    option_map_or (is_like (own_table older one)) (table_named schema (name_of one)) false

-- all of them are
abbrev pub is_whole : Older → Schema → Bool
is_whole older schema = list_all (has_table older schema) all_tables

-- ---- the verdict

-- the older schema of a number
abbrev pub has_old_number : ℤ → Older → Bool
has_old_number number one = int_eq (pos (number_of one)) number

abbrev pub older_of : ℤ → Option Older
older_of number = find (has_old_number number) all_older

-- the oldest
abbrev pub oldest : Older
oldest = Two

abbrev pub whole_verdict : Older → Bool → Result Older FileFault
whole_verdict older true = Ok older
whole_verdict older false = Err NotADeskFile

-- of a number that none of them has; schemas are numbered from 1
abbrev pub other_verdict : ℤ → Result Older FileFault
other_verdict number =
    if int_lt number (pos 1) then Err NotADeskFile else
    (if int_lt number (pos (number_of oldest)) then Err (SchemaOld (unsigned_abs number)) else
    Err (SchemaNew (unsigned_abs number)))

abbrev pub named_verdict : Schema → ℤ → Option Older → Result Older FileFault
named_verdict schema number None = other_verdict number
named_verdict schema number (Some older) = whole_verdict older (is_whole older schema)

abbrev pub shown_verdict : Schema → Option ℤ → Result Older FileFault
shown_verdict schema None = Err NotADeskFile
shown_verdict schema (Some number) = named_verdict schema number (older_of number)

-- by its schema, and by what the question for the number shows
abbrev pub old_verdict : Schema → List Row → Result Older FileFault
old_verdict schema rows = shown_verdict schema (number_shown rows)

-- the answer is the verdict on the file
abbrev pub IsOldVerdict : State → State → Result Older FileFault → Type 0
IsOldVerdict old new answer =
    ((has_number old.now.schema ≡ false) × (answer ≡ Err NotADeskFile))
    ⊎ ((rows : List Row) × Shown number_query [] old new rows
    × (answer ≡ old_verdict old.now.schema rows))

-- or the store gave none
abbrev pub OldAnswers : State → State → Result Older FileFault → Type 0
OldAnswers old new answer = IsOldVerdict old new answer ⊎ FailedInStore answer

-- ---- a file of an older schema

-- its tables are there, however they are written, and the one row of `desk` names the schema
pub record IsNamedOldFile (older : Older) (db : Database) : Type 0 where
  pub whole : is_whole older db.schema ≡ true
  pub named : (rows : List Row) → ShowsOf db number_query [] rows
      → number_shown rows ≡ Some (pos (number_of older))

-- as its rows say it, where these are the ones of `desk`
abbrev pub is_old_desk : Older → List DeskRow → Bool
is_old_desk older [] = false
is_old_desk older (one ∷ []) = one.number == number_of older
is_old_desk older (one ∷ other ∷ others) = false

-- the number that the file shows is the schema's
abbrev pub Names : Older → Database → Type 0
Names older db =
    (rows : List Row) × ShowsOf db number_query [] rows
    × (number_shown rows ≡ Some (pos (number_of older)))

-- the tables for which the file stands, as one of an older schema; it names no other of them
pub record StandsFor (db : Database) (t : Tables) : Type 0 where
  pub older : Older
  pub alone : (other : Older) → Names other db → other ≡ older
  pub stands : StandsBy older db t

-- ---- why it was refused

-- it is none of an older schema: the fault is the verdict on it, and no file of these gets such a one
pub record IsNoneOfOld (old new : State) (fault : FileFault) : Type 0 where
  pub verdict : IsOldVerdict old new (Err fault)
  pub other : (older : Older) → ¬ IsNamedOldFile older old.now
