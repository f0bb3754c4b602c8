-- What is found of rows that are tried where they are read, and rows that are so many and numbered
-- (21 CFR 11.10(a), "the ability to discern invalid or altered records").
use Rattle.std.specs.Prelude.{◌≡◌, ℕ, Bool, true, false, ◌&&◌, ◌==◌, List, length, Option, Some, None, Result, Ok, Err}
use Rattle.sqlite_value.specs.Order.{Row}
use Rattle.sqlite.specs.Effect.{Database}
use Rattle.sqlite.specs.State.{State}
use Rattle.lab_store_tables.specs.Rows.{Tables}
use Rattle.lab_move_tables.specs.Checks.{are_rows_numbered}
use Rattle.lab_move_tables.specs.Reading.{ReadsWhere}
use Rattle.lab_move_tables.specs.Standing.{StandsBy, StandsBySome}
use Rattle.lab_move_tables.specs.declared.older.Older.{Older}
use Rattle.lab_move_read_people.specs.declared.faults.KeptFault.{KeptFault}
use Rattle.lab_move_read_people.specs.declared.faults.KeptFault.TheVariants.{NotKept, Storage, Memory}

-- what a call found: that rows aren't well kept is an answer, too
abbrev pub found_of : {T : Type 0} → Result T KeptFault → Result (Option T) KeptFault
found_of (Ok made) = Ok (Some made)
found_of (Err NotKept) = Ok None
found_of (Err Storage) = Err Storage
found_of (Err Memory) = Err Memory

-- the rows are well kept, and this is made of them; or they aren't, and nothing is made
abbrev pub IsFound : {T : Type 0} → Bool → (T → Type 0) → Option T → Type 0
IsFound is_kept Made (Some made) = (is_kept ≡ true) × Made made
IsFound is_kept Made None = is_kept ≡ false

-- of rows that a file has, for whose tables it stands in this way, and which is readable so
abbrev pub TriesWhere : (Database → Tables → Type 0) → (Database → Tables → Type 0) → {T : Type 0}
    → (Tables → Bool) → (Tables → T → Type 0) → State → State → Result T KeptFault → Type 0
TriesWhere Stands Readable is_kept Made old new result =
    ReadsWhere Stands Readable (λ fault. fault ≡ Storage) (λ t. IsFound (is_kept t) (Made t)) old new
    (found_of result)

-- of a file of any older schema
abbrev pub TriesOld : (Database → Tables → Type 0) → {T : Type 0} → (Tables → Bool)
    → (Tables → T → Type 0) → State → State → Result T KeptFault → Type 0
TriesOld Readable is_kept Made old new result =
    TriesWhere StandsBySome Readable is_kept Made old new result

-- of a file of this one
abbrev pub TriesBy : Older → (Database → Tables → Type 0) → {T : Type 0} → (Tables → Bool)
    → (Tables → T → Type 0) → State → State → Result T KeptFault → Type 0
TriesBy older Readable is_kept Made old new result =
    TriesWhere (StandsBy older) Readable is_kept Made old new result

abbrev pub are_counted : ℕ → ℕ → List Row → Bool
are_counted at count rows = (length rows == count) && are_rows_numbered at rows
