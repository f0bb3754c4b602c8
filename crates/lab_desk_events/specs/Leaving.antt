-- What a crash may leave at the end of a run: what is kept by every event that was taken, or that
-- and one event beside it whose commit the store didn't confirm (21 CFR 11.10(c), "protection of
-- records to enable their accurate and ready retrieval throughout the records retention period").
use Rattle.std.specs.Prelude.{◌≡◌, ◌⊎◌, ◌++◌, List, [], ◌∷◌, Bool, true, false}
use Rattle.lab_records_kept.specs.Limits.{IsWithin}
use Rattle.lab_records_keeper.specs.Worlds.{World, Meaning, SameMeaning}
use Rattle.lab_records_laws.specs.Runs.{IsReleasing}
use Rattle.lab_desk_events.specs.Keeping.{AreReleasing, LeavesOnly}
use Rattle.lab_desk_events.specs.Alone.{Happening}
use Rattle.lab_desk_events.specs.Runs.{Handled, IsAccountOf, after_run}

-- an event as one that was taken or refused; what it answers plays no part here
abbrev pub as_told : Happening → Bool → Handled
as_told event taken = record { event = event; taken = taken; answer = [] }

-- the laboratories of a front of the run, whose last event was refused and made all the same;
-- nothing that was taken since has changed any
pub record IsFrontOfRun (start : Meaning) (handled : List Handled) (held : Meaning) : Type 0 where
  pub front : List Handled
  pub one : Handled
  pub rest : List Handled
  pub are : handled ≡ front ++ one ∷ rest
  pub refused : one.taken ≡ false
  pub made : SameMeaning (after_run start (front ++ as_told one.event true ∷ [])) held
  pub since : SameMeaning (after_run start front) (after_run start handled)

-- what a crash may leave once these were handled: what is kept; a front of the run; or what it
-- could leave before the run, where nothing that was taken has changed any laboratory
abbrev pub IsLeftBy : Meaning → (Meaning → Type 0) → List Handled → Meaning → Type 0
IsLeftBy start before handled held =
    SameMeaning (after_run start handled) held
    ⊎ (IsFrontOfRun start handled held
    ⊎ (before held × SameMeaning start (after_run start handled)))

abbrev pub AreTakenButLast : List Bool → Type 0
AreTakenButLast [] = Unit {0}
AreTakenButLast (one ∷ []) = Unit {0}
AreTakenButLast (one ∷ next ∷ others) = (one ≡ true) × AreTakenButLast (next ∷ others)

-- no fault had shut the keeper before the last event: it is live at the end; or it was live at the
-- start, and each event but the last was taken, also where the last one shut it
abbrev pub IsLiveToLast : World → World → List Bool → Type 0
IsLiveToLast old new taken = new.is_live ⊎ (old.is_live × AreTakenButLast taken)

-- what a crash may leave at the end of a run, told where this is so
pub record LeavesRun (was_live : Type 0) (old new : World) (events : List Happening)
    (taken : List Bool) : Type 0 where
  pub handled : List Handled
  pub told : IsAccountOf events taken handled
  pub left : was_live → (held : Meaning) → new.may_leave held →
      IsLeftBy old.meaning old.may_leave handled held
  pub safe : was_live → old.is_safe → new.is_safe
  pub left_within : was_live → LeavesOnly IsWithin old → LeavesOnly IsWithin new
  pub left_releasing : was_live → AreReleasing old → LeavesOnly IsReleasing old →
      LeavesOnly IsReleasing new
