-- What a call inside a transaction leaves of it and makes of the tables, said once for all writers.
-- Calls stand one after the other, and the last of all commits. Of what takes the statements
-- (`Writable`) two things are named: whose transaction it is, and what its connection shows, which
-- says something only while no fault of the disk went unseen: a clean disk afterward shows that.
use Rattle.std.specs.Prelude.{◌≡◌, ◌⊎◌, ℕ, ℤ, ◌+◌, length, List, [], ◌∷◌, Vec, Result, IfOk, IfErr, IsTrue}
use Rattle.std.specs.declared.alloc.Global.{Global}
use Rattle.sqlite_value.specs.declared.value.Value.TheVariants.{Int}
use Rattle.sqlite_value.specs.Order.{Row}
use Rattle.sqlite.specs.declared.error.Error.{Error}
use Rattle.sqlite.specs.Effect.{IsDatabase}
use Rattle.sqlite.specs.State.{State, HasCleanDisk, KeepsCommit, Survives, Shown, FailsToQuery, IsTooLate}
use Rattle.lab_store_tables.specs.Rows.{Tables}
use Rattle.lab_store_tables.specs.Held.{IsTyped}
use Rattle.lab_store_tables.specs.Ready.{IsMadeBy}
use Rattle.lab_store_write.specs.Causes.{Tries, Anything, FailsTrying}

-- a call that ended well: the transaction goes on, the step is made, and a database that obeyed its
-- own rules still does
pub record Steps (step : Tables → Tables → Type 0) (old new : State) : Type 0 where
  pub inside : IsTrue new.in_transaction
  pub made : IsMadeBy step old new.now
  pub sound : IsTyped old.now → IsDatabase old.now → IsDatabase new.now

-- however a call ends, it commits nothing
pub record Stays {T : Type 0} (lender : T → ℕ × ℕ) (state : T → State) (old new : T) : Type 0 where
  -- no other transaction stands in its place
  pub same_lender : lender new ≡ lender old
  -- a crash leaves no more than it could leave before
  pub survives : Survives (state old) (state new) (λ _. ⊥)
  -- in a transaction under way, what was committed is what is committed
  pub kept : IsTrue (state old).in_transaction → HasCleanDisk (state new)
      → KeepsCommit (state old) (state new)

-- a call inside a transaction, over tables of ours, fails for its causes alone, or for what is told
-- beside them
abbrev pub FailsForTrying : (Error → Type 0) → Tries → {T A : Type 0} → (T → State) → T → T
    → Result A Error → Type 0
FailsForTrying Beside tries state old new result =
    IsTrue (state old).in_transaction → HasCleanDisk (state new) → IsTyped (state old).now
    → IfErr result (λ e. Beside e ⊎ FailsTrying tries state old new e)

-- so does a call that answers; where a transaction was under way and it answered well, it made the
-- step that belongs to the answer
pub record AnswersUnlessTrying (Beside : Error → Type 0) (tries : Tries) {T A : Type 0}
    (lender : T → ℕ × ℕ) (state : T → State) (step : A → Tables → Tables → Type 0) (old new : T)
    (result : Result A Error) : Type 0 where
  pub stays : Stays lender state old new
  pub made : IsTrue (state old).in_transaction → HasCleanDisk (state new)
      → IfOk result (λ one. Steps (step one) (state old) (state new))
  pub failed : FailsForTrying Beside tries state old new result

abbrev pub AnswersUnless : (Error → Type 0) → {T A : Type 0} → (T → ℕ × ℕ) → (T → State)
    → (A → Tables → Tables → Type 0) → T → T → Result A Error → Type 0
AnswersUnless Beside lender state step old new result =
    AnswersUnlessTrying Beside Anything lender state step old new result

-- by statements that are told
abbrev pub AnswersTrying : Tries → {T A : Type 0} → (T → ℕ × ℕ) → (T → State)
    → (A → Tables → Tables → Type 0) → T → T → Result A Error → Type 0
AnswersTrying tries lender state step old new result =
    AnswersUnlessTrying (λ _. ⊥) tries lender state step old new result

abbrev pub WritesTrying : Tries → {T A : Type 0} → (T → ℕ × ℕ) → (T → State)
    → (Tables → Tables → Type 0) → T → T → Result A Error → Type 0
WritesTrying tries lender state step old new result =
    AnswersTrying tries lender state (λ _. step) old new result

abbrev pub WritesUnless : (Error → Type 0) → {T A : Type 0} → (T → ℕ × ℕ) → (T → State)
    → (Tables → Tables → Type 0) → T → T → Result A Error → Type 0
WritesUnless Beside lender state step old new result =
    AnswersUnless Beside lender state (λ _. step) old new result

abbrev pub WritesUnlessTrying : (Error → Type 0) → Tries → {T A : Type 0} → (T → ℕ × ℕ)
    → (T → State) → (Tables → Tables → Type 0) → T → T → Result A Error → Type 0
WritesUnlessTrying Beside tries lender state step old new result =
    AnswersUnlessTrying Beside tries lender state (λ _. step) old new result

-- a step that finds this true of the tables and leaves them as they are
abbrev pub Finds : (Tables → Type 0) → Tables → Tables → Type 0
Finds P before after = P before × (after ≡ before)

-- a step, made from tables of which this is true
abbrev pub MadeFrom : (Tables → Type 0) → (Tables → Tables → Type 0) → Tables → Tables → Type 0
MadeFrom P step before after = P before → step before after

-- a query by the id of a parent, which answers one more than the rows that are shown
pub record CountsBelow {T : Type 0} (lender : T → ℕ × ℕ) (state : T → State) (sql : List ℕ)
    (parent : ℤ) (old new : T) (result : Result ℕ Error) : Type 0 where
  pub same_lender : lender new ≡ lender old
  pub survives : Survives (state old) (state new) (λ _. ⊥)
  pub ok : HasCleanDisk (state new) → IfOk result (λ place. (rows : Vec Row Global)
      × Shown sql (Int parent ∷ []) (state old) (state new) rows.items
      × (place ≡ length rows.items + 1))
  pub err : HasCleanDisk (state new) → IfErr result
      (λ e. FailsToQuery sql (Int parent ∷ []) (state old) (state new) e
      ⊎ IsTooLate sql (Int parent ∷ []) (state old) (state new) e)
