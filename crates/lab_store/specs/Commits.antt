-- A call that makes the changes of a request by one commit, or none at all, however it ends.
use Rattle.std.specs.Prelude.{◌≡◌, ◌⊎◌, Result, OnOk, OnErr, IsTrue}
use Rattle.sqlite_trees.specs.Tree.{Trees}
use Rattle.sqlite.specs.Effect.{Database}
use Rattle.sqlite.specs.State.{State, HasCleanDisk}
use Rattle.lab_store_tables.specs.Rows.{Tables}
use Rattle.lab_store_tables.specs.Ready.{IsAtRest, WhereShown, IsMadeBy, Shuts}

-- by a step of the tables: what is kept, what a crash may leave, and what a failure leaves
pub record EndsStep (step : Tables → Tables → Type 0) {A E : Type 0} (result : Result A E)
    (old new : State) : Type 0 where
  pub at_rest : IsAtRest new
  pub clean : HasCleanDisk new → HasCleanDisk old
  pub live : HasCleanDisk new → IsTrue new.is_open → IsTrue old.is_open
  -- at Ok the connection was open and is, and the step was made
  pub made : HasCleanDisk new
      → OnOk result (IsTrue old.is_open × IsTrue new.is_open × IsMadeBy step old new.now)
  -- where it failed the rows are as before
  pub rows : WhereShown new (OnErr result (new.now ≡ old.now))
  -- a crash may leave what it could leave before, or what the commit makes
  pub crash : HasCleanDisk new → IsTrue old.is_open → (trees : Trees) → new.may_leave trees
      → old.may_leave trees ⊎ ((db : Database) × IsMadeBy step old db × (trees ≡ db.trees))
  -- only a fault of the disk shuts the connection, also where the call failed
  pub shuts : Shuts old new
