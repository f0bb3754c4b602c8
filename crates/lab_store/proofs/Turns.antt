-- What a call of the keeper promises, of what a call on its connection does.
use Rattle.std.proofs.Common.{Result, Ok, Err, OnOk}
use Rattle.sqlite.specs.State.{State, HasCleanDisk, IsUnchanged}
use Rattle.lab_forms_texts.specs.declared.refusals.Fault.{Fault}
use Rattle.lab_records_keeper.specs.declared.faults.BadStore.{BadStore}
use Rattle.lab_forms_texts.specs.declared.refusals.Fault.TheVariants.{Refused, Memory}
use Rattle.lab_records_keeper.specs.Worlds.{Passes, Quiet, Shuts, StaysSafe, Lives, KeeperFaultFits}
use Rattle.lab_store_tables.specs.Ready.{IsReady, PassesBy, Shuts as ShutsBy}
use Rattle.lab_store.specs.StoreWorlds.{world_of}

-- ---- a call that reads

module _ (old new : State) (passes : PassesBy old new) where
  pub world_passes : Passes (world_of old) (world_of new)
  world_passes = record { honest = passes.clean; live = passes.live; refusing = λ it. it }

  pub quiet_by : HasCleanDisk new → IsReady old → Quiet (world_of old) (world_of new)
  quiet_by clean ready opened held left = (left.0, passes.crash ready clean opened left.0 left.1, left.2)

  pub safe_by : HasCleanDisk new → IsReady old → StaysSafe (world_of old) (world_of new)
  safe_by clean ready opened safe trees left = safe trees (passes.crash ready clean opened trees left)

-- a fault alone shuts the keeper
pub world_shuts : (old new : State) → HasCleanDisk new → ShutsBy old new → Shuts (world_of old) (world_of new)
world_shuts old new clean shuts = record { counts = shuts.counts; cause = shuts.cause clean }

pub lives_by : {A E : Type 0} (old new : State) (r : Result A E) → OnOk r (IsUnchanged old new) → OnOk r (Lives (world_of old) (world_of new))
lives_by old new (Ok a) same = (same.0.was_open, same.0.is_open)
lives_by old new (Err e) same = tt

pub any_fault : (fault : Fault BadStore) → KeeperFaultFits (Unit {0}) fault
any_fault (Refused _) = tt
any_fault Memory = tt
