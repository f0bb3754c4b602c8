-- Why a call inside a transaction fails: memory ran out, or the transaction refused the last
-- statement of the call, or that statement finds no row of what is named. The statement is one that
-- our schema understands, on rows, and gets all its parameters: that a text isn't understood, ends or
-- begins a transaction, or shows rows where it is executed, is no cause. It is also one that the
-- call may try over the tables that its steps have made by then.
use Rattle.std.specs.Prelude.{◌≡◌, ◌⊎◌, ◌^◌, ◌≤◌, ℕ, Bool, true, false, List, [], length, None, Ok, Err, IsSomeAnd, IsTrue, IsFalse, slice_get}
use Rattle.std.specs.Option.{option_map_or}
use Rattle.sqlite_value.specs.Order.{Row}
use Rattle.sqlite_schema.specs.declared.command.Command.{Command}
use Rattle.sqlite_schema.specs.declared.command.Command.TheVariants.{Select, Insert, Update}
use Rattle.sqlite_resolve.specs.declared.compiled.Compiled.{Compiled}
use Rattle.sqlite.specs.Listing.{understood, reads_listing}
use Rattle.sqlite.specs.declared.error.Error.{Error}
use Rattle.sqlite.specs.declared.error.Error.TheVariants.{QueryReturnedNoRows}
use Rattle.sqlite.specs.State.{State, HasCleanDisk, Survives, Shown, ExecutesInside, FailsToQuery}
use Rattle.lab_store_tables.specs.Rows.{Tables}
use Rattle.lab_store_tables.specs.Held.{IsTyped}
use Rattle.lab_store_tables.specs.Ready.{tables_of}
use Rattle.lab_store_tables.specs.Schema.{lab_schema}
use Rattle.lab_store_read.specs.Cells.{is_id, stands}
use Rattle.lab_store_read.specs.Faults.{is_out_of_memory}

-- the row shows an id first
abbrev pub shows_id : Row → Bool
shows_id row = stands is_id row 0

-- there is a first row, and it shows an id
abbrev pub names_one : List Row → Bool
names_one rows = option_map_or shows_id (slice_get rows 0) false

-- why an id isn't read of a row, and none of the first of some rows
abbrev pub IsUnread : Row → Error → Type 0
IsUnread row e = IsTrue (is_out_of_memory e) ⊎ IsFalse (shows_id row)

abbrev pub IsUnnamed : List Row → Error → Type 0
IsUnnamed rows e =
    ((slice_get rows 0 ≡ None) × (e ≡ QueryReturnedNoRows))
    ⊎ IsSomeAnd (slice_get rows 0) (λ row. IsUnread row e)

-- it adds rows to a table, or sets rows of one
abbrev pub is_writing : Command → Bool
is_writing (Insert at from) = true
is_writing (Update at query) = true
is_writing _ = false

-- it shows rows
abbrev pub is_reading : Command → Bool
is_reading (Select query names) = true
is_reading _ = false

-- the text is one statement, which does this, as our schema understands it, with so many parameters
pub record IsOurs (is_so : Command → Bool) (sql : List ℕ) (params : Row) : Type 0 where
  pub compiled : Compiled
  pub is : understood lab_schema sql ≡ Ok compiled
  pub whole : length sql ≤ compiled.tail
  pub given : length params ≡ length compiled.names
  -- it asks for no time, since a clock may give none
  pub timeless : compiled.formats ≡ []
  -- no rows are wanted of what it writes
  pub silent : compiled.returning ≡ None
  pub does : IsTrue (is_so compiled.command)
  -- its tables are those of our schema, and not the list of them
  pub own : reads_listing lab_schema sql ≡ false

-- a statement, with the values of its parameters
pub record Statement : Type 0 where
  pub sql : List ℕ
  pub params : Row

abbrev pub statement : List ℕ → Row → Statement
statement sql params = record { sql = sql; params = params }

-- the statement is ours, and shows these rows from here to there
pub record IsShown (one : Statement) (old new : State) (rows : List Row) : Type 0 where
  pub ours : IsOurs is_reading one.sql one.params
  pub shown : Shown one.sql one.params old new rows

-- it is ours, and has written so many rows
pub record IsRun (one : Statement) (old new : State) (count : ℕ) : Type 0 where
  pub ours : IsOurs is_writing one.sql one.params
  pub ran : ExecutesInside 0 one.sql one.params old new (Ok count)

-- it is ours, and was refused with the error: one that writes, or one that reads
abbrev pub IsRefused : Statement → State → State → Error → Type 0
IsRefused one old new e =
    (IsOurs is_writing one.sql one.params × ExecutesInside 0 one.sql one.params old new (Err e))
    ⊎ (IsOurs is_reading one.sql one.params × FailsToQuery one.sql one.params old new e)

-- it names a row that isn't there: it writes none; or it shows none, or a first one without an id
pub record IsNamedInVain (one : Statement) (old new : State) (e : Error) : Type 0 where
  pub told : e ≡ QueryReturnedNoRows
  pub vain : IsRun one old new 0
      ⊎ ((rows : List Row) × IsShown one old new rows × IsFalse (names_one rows))

-- which statements a call may try, and over which tables: those before the call, and those that its
-- steps have made by then
abbrev pub Tries : Type 1
Tries = Tables → Statement → Tables → Type 0

-- nothing is said of them
abbrev pub Anything : Tries
Anything old tried at = Unit {0}

-- a transaction over tables of ours is under way, and no fault of the disk went unseen so far; from here
-- to there nothing is committed
pub record RunsInside (old new : State) : Type 0 where
  pub inside : IsTrue old.in_transaction
  pub clean : HasCleanDisk old
  pub typed : IsTyped old.now
  pub survives : Survives old new (λ _. ⊥)

-- the last statement of a call, which committed nothing before, was refused or named a row that isn't
-- there, and is one that the call may try
pub record EndsTrying (tries : Tries) {T : Type 0} (state : T → State) (old new : T) (e : Error)
    : Type 0 where
  -- before that statement
  pub last : T
  pub led : Survives (state old) (state last) (λ _. ⊥)
  pub ran : RunsInside (state last) (state new)
  pub tried : Statement
  pub own : tries (tables_of (state old)) tried (tables_of (state last))
  pub why : IsRefused tried (state last) (state new) e
      ⊎ IsNamedInVain tried (state last) (state new) e

abbrev pub FailsTrying : Tries → {T : Type 0} → (T → State) → T → T → Error → Type 0
FailsTrying tries state old new e = IsTrue (is_out_of_memory e) ⊎ EndsTrying tries state old new e

-- no column holds a number as great as this
abbrev pub IsTooGreat : ℕ → Type 0
IsTooGreat count = 2 ^ 63 ≤ count
