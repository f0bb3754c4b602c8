-- A call inside a transaction that makes changes of one laboratory, one after the other, in a
-- database that keeps its own rules (ISO/IEC 17025:2017, 7.11.3(d), a system is "maintained in a
-- manner that ensures the integrity of the data and information").
use Rattle.std.specs.Prelude.{ℕ, ℤ, List, Result, OnOk, IsTrue}
use Rattle.sqlite.specs.declared.error.Error.{Error}
use Rattle.sqlite.specs.Effect.{IsDatabase}
use Rattle.sqlite.specs.State.{State, HasCleanDisk}
use Rattle.lab_records_kept.specs.declared.changes.Change.{Change}
use Rattle.lab_store_tables.specs.Changes.{InTurn}
use Rattle.lab_store_tables.specs.Held.{IsTyped}
use Rattle.lab_store_tables.specs.Steps.{StepsBy}
use Rattle.lab_store_write.specs.Calls.{Stays, Steps}
use Rattle.lab_store_write.specs.Private.Calls.{FailsFor}

pub record MakesInTurn {T A : Type 0} (lender : T → ℕ × ℕ) (state : T → State) (lab : ℤ)
    (changes : List Change) (old new : T) (result : Result A Error) : Type 0 where
  -- however it ends, it commits nothing
  pub stays : Stays lender state old new
  -- where it ended well, the transaction goes on, and the changes are made
  pub inside : IsTrue (state old).in_transaction → HasCleanDisk (state new)
      → OnOk result (IsTrue (state new).in_transaction)
  pub made : IsTrue (state old).in_transaction → HasCleanDisk (state new)
      → OnOk result (IsDatabase (state old).now
      → Steps (InTurn (StepsBy lab) changes) (state old) (state new))
  -- tables of ours stay ours; and over them it fails for its causes alone
  pub typed : IsTrue (state old).in_transaction → HasCleanDisk (state new)
      → OnOk result (IsTyped (state old).now → IsTyped (state new).now)
  pub failed : FailsFor (λ _. ⊥) state old new result
