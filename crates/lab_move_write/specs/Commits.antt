-- A call that makes something by one commit, all of it or nothing, however it ends (21 CFR 11.10(c),
-- "protection of records to enable their accurate and ready retrieval"; ISO/IEC 17025:2017,
-- 7.11.3(d), a system is "maintained in a manner that ensures the integrity of the data and
-- information").
use Rattle.std.specs.Prelude.{◌≡◌, ◌≤◌, Result, OnOk, OnErr, IsTrue}
use Rattle.sqlite.specs.Effect.{Database}
use Rattle.sqlite.specs.State.{State, HasCleanDisk}
use Rattle.lab_store_tables.specs.Ready.{WhereShown, CommitsOnce}

pub record MakesAtOnce (Made : Database → Type 0) {A E : Type 0} (result : Result A E)
    (old new : State) : Type 0 where
  -- a crash may leave what it could leave before, or what was made
  pub once : CommitsOnce Made old new
  pub live : HasCleanDisk new → IsTrue new.is_open → IsTrue old.is_open
  -- at Ok the connection was open and is, and it was made
  pub made : HasCleanDisk new → OnOk result (IsTrue old.is_open × IsTrue new.is_open × Made new.now)
  -- where it failed the rows are as before
  pub rows : WhereShown new (OnErr result (new.now ≡ old.now))
  -- no fault is forgotten, and the steps have the limit that they had
  pub counts : old.faults ≤ new.faults
  pub limit : new.step_limit ≡ old.step_limit
