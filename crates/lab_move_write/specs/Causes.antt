-- Why a call that makes the tables of a new file, or names its schema, returns the fault of the store:
-- in its transaction one of the statements that make them, or the one that names it, was refused. Else
-- the disk had a fault in the call, the connection was shut before it, or its steps have a limit.
use Rattle.std.specs.Prelude.{◌≡◌, ◌⊎◌, ◌<◌, ◌++◌, ℕ, true, List, [], ◌∷◌, get_or, length, map, take, codes, Err, Result, IfErr, IsFalse, IsTrue}
use Rattle.sqlite_trees.specs.declared.store.Store.{Ghosts}
use Rattle.sqlite_schema.specs.declared.schema.Table.{Table}
use Rattle.sqlite.specs.declared.error.Error.{Error}
use Rattle.sqlite.specs.Effect.{Database}
use Rattle.sqlite.specs.Held.{Held, state}
use Rattle.sqlite.specs.State.{State, ExecutesInside, HasCleanDisk, IsRolledBack, Survives}
use Rattle.lab_store_read.specs.Causes.{IsCaused}
use Rattle.lab_store_read.specs.Faults.{is_out_of_memory}
use Rattle.lab_store_files.specs.NewFiles.{IsBlank, IsEmptyUnder}
use Rattle.lab_store_write.specs.Transactions.{FailsWithin}
use Rattle.lab_move_write.specs.Namings.{naming_text}
use Rattle.lab_move_write.specs.Tables.{own_tables, schema_of}

-- the statements that make the file: one for each table, and then its index
abbrev pub making_texts : List (List ℕ)
making_texts =
    map (λ (one : Table × List ℕ). one.1) own_tables
    ++ codes "CREATE INDEX sessions_of_person ON sessions (person, closed)" ∷ []

-- the last statement of a call, one of these, was refused. The call committed nothing before; and where
-- `Was` held of the file at its beginning, the statements before that one have made their tables and
-- nothing else
pub record EndsMaking (Was : Database → Type 0) {T : Type 0} (state : T → State) (old new : T)
    (e : Error) : Type 0 where
  -- before that statement
  pub last : T
  pub led : Survives (state old) (state last) (λ _. ⊥)
  pub inside : IsTrue (state last).in_transaction
  pub clean : HasCleanDisk (state last)
  pub survives : Survives (state last) (state new) (λ _. ⊥)
  -- its place
  pub at : ℕ
  pub within : at < length making_texts
  pub made : Was (state old).now → IsEmptyUnder (schema_of (take at own_tables)) (state last).now
  pub refused : ExecutesInside 0 (get_or making_texts at []) [] (state last) (state new) (Err e)

-- the tables weren't made; of a file that wasn't empty it isn't said which tables it had then
abbrev pub AreUnmade : {S : Type 0} → Ghosts S → Held S → Held S → Type 0
AreUnmade g old new =
    IsCaused (state g old) (state g new) ⊎ FailsWithin g (EndsMaking IsBlank (state g)) old new

-- a call in one transaction tells of the store for no other cause
pub record MakingEndsForCause {S T E : Type 0} (g : Ghosts S) (IsTold : E → Type 0)
    (old new : Held S) (result : Result T E) : Type 0 where
  pub limit : (state g new).step_limit ≡ (state g old).step_limit
  pub cause : HasCleanDisk (state g new)
      → IfErr result (λ fault. IsTold fault → AreUnmade g old new)

-- the one statement that names the schema was refused, in a transaction over the file as it was; it
-- was then undone
pub record IsNamingRefused {S : Type 0} (g : Ghosts S) (old new : Held S) : Type 0 where
  -- as the statement left the file
  pub last : Held S
  pub error : Error
  pub told : IsFalse (is_out_of_memory error)
  pub refused : ExecutesInside 0 naming_text [] (state g (record old { in_transaction = true }))
      (state g last) (Err error)
  pub survives : Survives (state g (record old { in_transaction = true })) (state g last) (λ _. ⊥)
  pub ended : Survives (state g last) (state g new) (λ _. ⊥)
  pub undone : IsRolledBack (state g last) (state g new)

-- a call that names the schema tells of the store for no other cause
abbrev pub NamingEndsForCause : {S T E : Type 0} → Ghosts S → (E → Type 0) → Held S → Held S
    → Result T E → Type 0
NamingEndsForCause g IsTold old new result =
    HasCleanDisk (state g new) → IfErr result (λ fault. IsTold fault
    → IsCaused (state g old) (state g new) ⊎ IsNamingRefused g old new)
