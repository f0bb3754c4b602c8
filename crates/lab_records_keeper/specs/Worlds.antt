-- What is known of a keeper of laboratories at a moment, and the words for what a call of it makes
-- and passes on.
use Rattle.std.specs.Prelude.{◌≡◌, ◌≢◌, ◌⊎◌, ◌+◌, ◌-◌, ◌^◌, ◌≤◌, ℕ, min, List, Option, Some, None, Result, Ok, Err}
use Rattle.lab_records_kept.specs.declared.labs.Lab.{Lab}
use Rattle.lab_records_kept.specs.declared.changes.Change.{Change}
use Rattle.lab_forms_texts.specs.declared.refusals.Fault.{Fault}
use Rattle.lab_forms_texts.specs.declared.refusals.Fault.TheVariants.{Refused, Memory}
use Rattle.lab_records_keeper.specs.declared.faults.BadStore.{BadStore}
use Rattle.lab_records_keeper.specs.declared.faults.PlacingFault.{PlacingFault}
use Rattle.lab_records_keeper.specs.declared.faults.PlacingFault.TheVariants.{LabExists, Storage as NotStored, Memory as NoMemory}
use Rattle.lab_records_kept.specs.Changes.{changed_in}

-- the laboratory of each code, or none
abbrev pub Meaning : Type 0
Meaning = List ℕ → Option Lab

pub record World : Type 1 where
  -- what is kept
  pub meaning : Meaning
  -- the premise on the world below: what was read is what was written, up to this moment
  pub is_honest : Type 0
  -- no fault has shut the keeper
  pub is_live : Type 0
  -- how often its store has failed or refused; contracts alone see it
  pub faults : ℕ
  -- the tables are well kept
  pub is_reached : Type 0
  -- the keeper may refuse a call for a cause of its store; contracts alone see it
  pub may_refuse : Type 0
  -- a crash at this moment may leave laboratories of this meaning
  pub may_leave : Meaning → Type 0
  -- the tables are well kept that a crash at this moment may leave, whichever of them it leaves
  pub is_safe : Type 0

-- ---- meanings

-- every laboratory means what it meant
abbrev pub SameMeaning : Meaning → Meaning → Type 0
SameMeaning old new = (code : List ℕ) → new code ≡ old code

-- every laboratory but that of the code means what it meant
abbrev pub SameElsewhere : List ℕ → Meaning → Meaning → Type 0
SameElsewhere code old new = (other : List ℕ) → other ≢ code → new other ≡ old other

-- the laboratory of the code is this one or none, and every other means what it meant
pub record SetsOne (code : List ℕ) (lab : Option Lab) (old new : Meaning) : Type 0 where
  pub here : new code ≡ lab
  pub others : SameElsewhere code old new

-- the changes were made of the laboratory of the code, and of no other
abbrev pub Changes : List ℕ → List Change → Meaning → Meaning → Type 0
Changes code changes old new = SetsOne code (changed_in (old code) changes) old new

-- the laboratory was placed under its code, where none was, and no other was touched
pub record Places (lab : Lab) (old new : Meaning) : Type 0 where
  pub was_none : old lab.code ≡ None
  pub placed : SetsOne lab.code (Some lab) old new

-- ---- what every call passes on

-- what is honest after a call was so before it, and is live after it only where it was live before;
-- and a keeper that never refuses doesn't begin to
pub record Passes (old new : World) : Type 0 where
  pub honest : new.is_honest → old.is_honest
  pub live : new.is_honest → new.is_live → old.is_live
  pub refusing : new.may_refuse → old.may_refuse

-- the count of faults rose, unless it is at the top of a `u64`
abbrev pub HasFaulted : ℕ → ℕ → Type 0
HasFaulted old new = min (old + 1) (2 ^ 64 - 1) ≤ new

-- however a call ended, also for want of memory and refused by the store: a keeper that was live is
-- live, or its store had a fault in this call; and no fault is forgotten
pub record Shuts (old new : World) : Type 0 where
  pub counts : old.faults ≤ new.faults
  pub cause : old.is_live → new.is_live ⊎ HasFaulted old.faults new.faults

-- the premises of a call: the keeper is honest at its end, and its tables were well kept at its
-- start
abbrev pub Given : World → World → Type 0 → Type 0
Given old new P = new.is_honest → old.is_reached → P

-- no fault had shut the keeper, nor has one since
abbrev pub Lives : World → World → Type 0
Lives old new = old.is_live × new.is_live

-- these are the laboratories, where the keeper is there to tell
abbrev pub HoldsMeaning : World → Meaning → Type 0
HoldsMeaning world meaning = world.is_live → SameMeaning meaning world.meaning

-- every laboratory means what it meant, where the keeper is there to tell
abbrev pub Leaves : World → World → Type 0
Leaves old new = HoldsMeaning new old.meaning

-- ---- what a crash may leave, after a call of a keeper that no fault had shut

-- no more than before the call
abbrev pub Quiet : World → World → Type 0
Quiet old new = old.is_live → (held : Meaning) → new.may_leave held → old.may_leave held

-- no more than before the call, or what its commit makes of what was kept
abbrev pub CommitsAs : (Meaning → Meaning → Type 0) → World → World → Type 0
CommitsAs Makes old new =
    old.is_live → (held : Meaning) → new.may_leave held
    → old.may_leave held ⊎ Makes old.meaning held

-- only what is kept, in tables that are well kept
abbrev pub IsDurable : World → Type 0
IsDurable world =
    ((held : Meaning) → world.may_leave held → SameMeaning world.meaning held) × world.is_safe

-- tables that are well kept, where before the call it was such alone
abbrev pub StaysSafe : World → World → Type 0
StaysSafe old new = old.is_live → old.is_safe → new.is_safe

-- ---- faults

-- a keeper blames its store only where it may refuse
abbrev pub KeeperFaultFits : Type 0 → Fault BadStore → Type 0
KeeperFaultFits may_refuse (Refused _) = may_refuse
KeeperFaultFits may_refuse Memory = Unit {0}

-- at a founding too a keeper blames its store only where it may refuse; that the laboratory
-- exists is an answer only where it does
abbrev pub PlacingFaultFits : Type 0 → Type 0 → PlacingFault → Type 0
PlacingFaultFits may_refuse exists LabExists = exists
PlacingFaultFits may_refuse exists NotStored = may_refuse
PlacingFaultFits may_refuse exists NoMemory = Unit {0}

-- a fact on a founding that was answered: the laboratory is founded, or was there already; where
-- the store or memory failed, nothing is said
abbrev pub OnPlaced : Result (Unit {0}) PlacingFault → Type 0 → Type 0
OnPlaced (Ok _) P = P
OnPlaced (Err LabExists) P = P
OnPlaced (Err NotStored) P = Unit {0}
OnPlaced (Err NoMemory) P = Unit {0}
