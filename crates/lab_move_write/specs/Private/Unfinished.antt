-- What clauses of private functions say beside Unfinished.antt.
use Rattle.std.specs.Prelude.{ℕ, Result, IfErr, OnOk, IsTrue}
use Rattle.sqlite.specs.declared.error.Error.{Error}
use Rattle.sqlite.specs.Effect.{Database}
use Rattle.sqlite.specs.State.{State, HasCleanDisk}
use Rattle.lab_store_write.specs.Calls.{Stays}
use Rattle.lab_move_write.specs.Private.Causes.{FailsMaking}

-- a call inside a transaction, which makes the one of the other
pub record Makes {T A : Type 0} (lender : T → ℕ × ℕ) (state : T → State)
    (Was Is : Database → Type 0) (old new : T) (result : Result A Error) : Type 0 where
  -- however it ends, it commits nothing
  pub stays : Stays lender state old new
  -- where it ended well, the transaction goes on, and what was so is so
  pub inside : IsTrue (state old).in_transaction → HasCleanDisk (state new)
      → OnOk result (IsTrue (state new).in_transaction)
  pub made : IsTrue (state old).in_transaction → HasCleanDisk (state new)
      → OnOk result (Was (state old).now → Is (state new).now)
  -- it failed for want of memory, or because one of its statements was refused
  pub failed : IsTrue (state old).in_transaction → HasCleanDisk (state new)
      → IfErr result (FailsMaking Was state old new)
