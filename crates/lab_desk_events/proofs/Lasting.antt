-- What stays true where nothing was touched, where every laboratory means what it meant, and over
-- one event more.
use Rattle.std.proofs.Common.{◌≤◌, inl, inr, ℕ, arith}
use Rattle.lab_records_kept.specs.Limits.{IsWithin}
use Rattle.lab_records_keeper.specs.Worlds.{World, HasFaulted, Leaves, Passes, Quiet, Shuts, StaysSafe}
use Rattle.lab_records_copy_out.specs.Legible.{IsLegible}
use Rattle.lab_records_laws.specs.Runs.{IsReleasing}
use Rattle.lab_desk_events.specs.Keeping.{AreReleasing, AreWithin, GivenWithin, LeavesOnly, Stays, StaysOn}
use Rattle.lab_desk_events.proofs.Keeping.{left_keeps, still_keeps}
use Rattle.lab_desk_events.proofs.Releasing.{released_stay}
use Rattle.lab_desk_events.proofs.Retaining.{retained_on, still_retained}
use Rattle.lab_desk_events.proofs.Staying.{left_holds}

-- ---- the keeper may be asked again

-- nothing was asked
pub shuts_none : (world : World) → Shuts world world
shuts_none world = record { counts = omega arith; cause = λ live. inl live }

faulted_later : (first mid last : ℕ) → HasFaulted first mid → mid ≤ last → HasFaulted first last
faulted_later first mid last faulted later = omega (arith, faulted, later)

faulted_since : (first mid last : ℕ) → first ≤ mid → HasFaulted mid last → HasFaulted first last
faulted_since first mid last later faulted = omega (arith, later, faulted)

-- one call and then another
pub shuts_on : (first mid last : World) → Shuts first mid → Shuts mid last → Shuts first last
shuts_on first mid last one other = record {
  counts = omega (arith, one.counts, other.counts);
  cause = λ live. elim (one.cause live) [
    | inl still ↦ elim (other.cause still) [
      | inl yet ↦ inl yet
      | inr faulted ↦ inr (faulted_since first.faults mid.faults last.faults one.counts faulted)
    ]
    | inr faulted ↦ inr (faulted_later first.faults mid.faults last.faults faulted other.counts)
  ];
}

-- ---- what stays

-- nothing was touched
pub still_stays : (world : World) → world.is_reached → Stays world world
still_stays world reached = record {
  within = λ within. within;
  releasing = λ releasing. releasing;
  keeps = still_keeps world;
  reached = reached;
  safe = λ live safe. safe;
  legible = λ legible. legible;
  left_within = λ live within left. left;
  left_releasing = λ live releasing left. left;
  again = shuts_none world;
}

-- every laboratory means what it meant
pub left_stays : (old new : World) → (new.is_live → old.is_live) → Leaves old new →
    new.is_reached → StaysSafe old new →
    (old.is_live → AreWithin old → LeavesOnly IsWithin old → LeavesOnly IsWithin new) →
    (old.is_live → AreReleasing old → LeavesOnly IsReleasing old → LeavesOnly IsReleasing new) →
    Shuts old new → Stays old new
left_stays old new back left reached safe left_within left_releasing again = record {
  within = left_holds IsWithin old new back left;
  releasing = left_holds IsReleasing old new back left;
  keeps = left_keeps old new left;
  reached = reached;
  safe = safe;
  legible = left_holds IsLegible old new back left;
  left_within = left_within;
  left_releasing = left_releasing;
  again = again;
}

-- so it is where a crash leaves no more than before
pub quiet_stays : (old new : World) → (new.is_live → old.is_live) → Leaves old new →
    new.is_reached → StaysSafe old new → Quiet old new → Shuts old new → Stays old new
quiet_stays old new back left reached safe quiet again = left_stays old new back left reached safe
    (λ live within before held may. before held (quiet live held may))
    (λ live releasing before held may. before held (quiet live held may)) again

-- before the first event
pub stays_first : (world : World) → AreWithin world → world.is_reached → StaysOn world world
stays_first world within reached = record {
  within = within;
  releasing = λ releasing. releasing;
  retains = still_retained world;
  released = λ releasing. released_stay world world (still_retained world) releasing;
  reached = reached;
  safe = λ live safe. safe;
  legible = λ legible. legible;
  left_within = λ live left. left;
  left_releasing = λ live releasing left. left;
  again = shuts_none world;
}

-- one event more
stays_more : (old mid new : World) → (new.is_live → mid.is_live) → StaysOn old mid →
    Stays mid new → StaysOn old new
stays_more old mid new back so next =
    let retains = retained_on old mid new back so.retains next.keeps in record {
      within = next.within so.within;
      releasing = λ releasing. next.releasing (so.releasing releasing);
      retains = retains;
      released = λ releasing. released_stay old new retains
          (next.releasing (so.releasing releasing));
      reached = next.reached;
      safe = λ live safe. next.safe (back live) (so.safe (back live) safe);
      legible = λ legible. next.legible (so.legible legible);
      left_within = λ live left.
          next.left_within (back live) so.within (so.left_within (back live) left);
      left_releasing = λ live releasing left.
          next.left_releasing (back live) (so.releasing releasing)
          (so.left_releasing (back live) releasing left);
      again = shuts_on old mid new so.again next.again;
    }

-- so it is by what a call says of the event
pub stays_after : (old mid new : World) → Passes mid new →
    GivenWithin old mid (StaysOn old mid) → GivenWithin mid new (Stays mid new) →
    GivenWithin old new (StaysOn old new)
stays_after old mid new passes so next = λ within honest reached.
    let before = so within (passes.honest honest) reached in
    stays_more old mid new (passes.live honest) before (next before.within honest before.reached)
