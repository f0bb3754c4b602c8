-- What each call of a keeper leaves, in one record for each, which whoever makes the call passes on
-- as one fact.
use Rattle.std.specs.Prelude.{◌≡◌, ◌≢◌, ℕ, List, [], Result, Err, IfErr, IsSome, OnOk, OnErr}
use Rattle.lab_records_kept.specs.declared.labs.Lab.{Lab}
use Rattle.lab_records_kept.specs.declared.births.Newborn.{Newborn}
use Rattle.lab_records_kept.specs.declared.changes.Change.{Change}
use Rattle.lab_forms_texts.specs.declared.refusals.Fault.{Fault}
use Rattle.lab_records_keeper.specs.declared.faults.BadStore.{BadStore}
use Rattle.lab_records_keeper.specs.declared.faults.PlacingFault.{PlacingFault}
use Rattle.lab_records_keeper.specs.declared.faults.PlacingFault.TheVariants.{LabExists}
use Rattle.lab_records_kept.specs.Births.{newborn_lab}
use Rattle.lab_records_kept.specs.Changes.{ChangesFit}
use Rattle.lab_records_keeper.specs.Worlds.{World, Passes, Given, Changes, CommitsAs, IsDurable, KeeperFaultFits, Leaves, Lives, OnPlaced, Places, PlacingFaultFits, Quiet, Shuts, StaysSafe}

-- a call that answers something or fails: after an error every laboratory means what it meant, in
-- rows that are as they were, and the store is blamed only where it may refuse
pub record EndsCall {A : Type 0} (old new : World) (rests : Type 0)
    (result : Result A (Fault BadStore)) : Type 0 where
  pub err : Given old new (OnErr result (Leaves old new))
  pub rows_err : Given old new (OnErr result (new.is_live → rests))
  pub lives : Given old new (OnOk result (Lives old new))
  pub fault : IfErr result (KeeperFaultFits old.may_refuse)
  pub shuts : Given old new (Shuts old new)
  pub passes : Passes old new

-- a call of `load`, which changes nothing, whatever it answers
pub record Loads {A : Type 0} (old new : World) (rests : Type 0)
    (result : Result A (Fault BadStore)) : Type 0 where
  pub same : Given old new (Leaves old new)
  pub rows : Given old new (new.is_live → rests)
  pub lives : Given old new (OnOk result (Lives old new))
  pub fault : IfErr result (KeeperFaultFits old.may_refuse)
  pub crash : Given old new (Quiet old new)
  pub safe : Given old new (StaysSafe old new)
  pub reached : Given old new new.is_reached
  pub shuts : Given old new (Shuts old new)
  pub passes : Passes old new

-- changes of the laboratory of the code that were made, where they fit it
pub record Makes {A : Type 0} (code : List ℕ) (changes : List Change) (old new : World)
    (moves : List ℕ → List Change → Type 0) (result : Result A (Fault BadStore)) : Type 0 where
  pub changed : OnOk result (Changes code changes old.meaning new.meaning)
  pub rows : OnOk result (moves code changes)
  pub crash : CommitsAs (Changes code changes) old new
  pub safe : StaysSafe old new
  pub durable : changes ≢ [] → OnOk result (IsDurable new)
  pub reached : new.is_reached

-- a call of `apply`
pub record Applies {A : Type 0} (code : List ℕ) (changes : List Change) (old new : World)
    (rests : Type 0) (moves : List ℕ → List Change → Type 0)
    (result : Result A (Fault BadStore)) : Type 0 where
  pub makes : ChangesFit (old.meaning code) changes →
      Given old new (Makes code changes old new moves result)
  pub ends : EndsCall old new rests result
  pub quiet : changes ≡ [] → Given old new (Quiet old new)
  pub reached_err : Given old new (OnErr result new.is_reached)

-- a call of `found`: a laboratory that is placed under its code, if none is there
pub record PlacesOne (newborn : Newborn) (old new : World) (rests : Type 0)
    (places : Lab → Type 0) (result : Result (Unit {0}) PlacingFault) : Type 0 where
  pub founded : Given old new
      (OnOk result (Places (newborn_lab newborn) old.meaning new.meaning))
  pub err : Given old new (OnErr result (Leaves old new))
  pub rows : Given old new (OnOk result (places (newborn_lab newborn)))
  pub rows_err : Given old new (OnErr result (new.is_live → rests))
  pub lives : Given old new (OnPlaced result (Lives old new))
  pub fault : IfErr result (PlacingFaultFits old.may_refuse
      (Given old new (IsSome (old.meaning newborn.code))))
  pub crash : Given old new (CommitsAs (Places (newborn_lab newborn)) old new)
  pub safe : Given old new (StaysSafe old new)
  pub durable : Given old new (OnOk result (IsDurable new))
  -- where a laboratory of the code is there, nothing was to be committed
  pub quiet : result ≡ Err LabExists → Given old new (Quiet old new)
  pub reached : Given old new new.is_reached
  pub shuts : Given old new (Shuts old new)
  pub passes : Passes old new
