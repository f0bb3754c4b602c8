-- What a file is: one of this schema, of an older or a newer one, or none in which laboratories are
-- kept. A system has to know whose records it reads (21 CFR 11.10(a), "the ability to discern
-- invalid or altered records"; ISO/IEC 17025:2017, 7.11.3(d), a system is "maintained in a manner
-- that ensures the integrity of the data and information"). The one row of the table `desk` says
-- which schema the file has.
use Rattle.std.specs.Prelude.{◌≡◌, ◌⊎◌, ℕ, ℤ, pos, int_lt, unsigned_abs, Bool, true, false, if◌then◌else◌, List, [], ◌∷◌, codes, Option, Some, None, Result, Ok, Err}
use Rattle.sqlite_value.specs.declared.value.Value.{Value}
use Rattle.sqlite_value.specs.declared.value.Value.TheVariants.{Null, Int, Real, Text, Blob}
use Rattle.sqlite_value.specs.Order.{Row, column}
use Rattle.sqlite_schema.specs.declared.schema.Schema.{Schema}
use Rattle.sqlite.specs.State.{State, Shown}
use Rattle.lab_store_tables.specs.Schema.{schema_number}
use Rattle.lab_store_files.specs.declared.faults.FileFault.{FileFault}
use Rattle.lab_store_files.specs.declared.faults.FileFault.TheVariants.{NotADeskFile, SchemaOld, SchemaNew}
use Rattle.lab_store_files.specs.Faults.{FailedInStore}
use Rattle.lab_store_files.specs.Schemas.{has_number, is_whole}

-- the question for the number
abbrev pub number_query : List ℕ
number_query = codes "SELECT schema FROM desk"

abbrev pub integer_in : Value → Option ℤ
integer_in Null = None
integer_in (Int number) = Some number
integer_in (Real _) = None
integer_in (Text _) = None
integer_in (Blob _) = None

-- the answer, where one row alone shows a whole number
abbrev pub number_shown : List Row → Option ℤ
number_shown [] = None
number_shown (row ∷ []) = integer_in (column row 0)
number_shown (row ∷ other ∷ others) = None

-- schemas are numbered from 1
abbrev pub number_verdict : ℤ → Result (Unit {0}) FileFault
number_verdict number =
    if int_lt number (pos 1) then Err NotADeskFile else
    (if int_lt number (pos schema_number) then Err (SchemaOld (unsigned_abs number)) else
    (if int_lt (pos schema_number) number then Err (SchemaNew (unsigned_abs number)) else Ok tt))

-- a file of this schema has all its tables and columns
abbrev pub whole_verdict : Bool → Result (Unit {0}) FileFault → Result (Unit {0}) FileFault
whole_verdict whole (Err fault) = Err fault
whole_verdict true (Ok _) = Ok tt
whole_verdict false (Ok _) = Err NotADeskFile

abbrev pub shown_verdict : Bool → Option ℤ → Result (Unit {0}) FileFault
shown_verdict whole None = Err NotADeskFile
shown_verdict whole (Some number) = whole_verdict whole (number_verdict number)

-- by its schema, and by what the question for the number shows
abbrev pub file_verdict : Schema → List Row → Result (Unit {0}) FileFault
file_verdict schema rows = shown_verdict (is_whole schema) (number_shown rows)

-- The answer is the verdict on the file, or the store gave none.
abbrev pub IsVerdict : State → State → Result (Unit {0}) FileFault → Type 0
IsVerdict old new answer =
    ((has_number old.now.schema ≡ false) × (answer ≡ Err NotADeskFile))
    ⊎ ((rows : List Row) × Shown number_query [] old new rows
    × (answer ≡ file_verdict old.now.schema rows))

abbrev pub AnswersVerdict : State → State → Result (Unit {0}) FileFault → Type 0
AnswersVerdict old new answer = IsVerdict old new answer ⊎ FailedInStore answer
