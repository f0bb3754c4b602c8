-- A connection that a call shut had a fault of its disk: of one statement, of no call, and of one call and then another.
use Rattle.std.proofs.Common.{◌≤◌, inl, inr, ℕ, arith}
use Rattle.sqlite_trees.specs.Tree.{Trees}
use Rattle.sqlite.specs.State.{State, HasCleanDisk, Survives}
use Rattle.lab_records_keeper.specs.Worlds.{HasFaulted}
use Rattle.lab_store_tables.specs.Ready.{Shuts}

pub shuts_by : (old new : State) (Commits : Trees → Type 0) → Survives old new Commits → Shuts old new
shuts_by old new Commits survives = record { counts = survives.counts; cause = survives.closes }

pub shuts_none : (s : State) → Shuts s s
shuts_none s = record { counts = omega arith; cause = λ clean opened. inl opened }

faulted_later : (first mid last : ℕ) → HasFaulted first mid → mid ≤ last → HasFaulted first last
faulted_later first mid last faulted later = omega (arith, faulted, later)

faulted_since : (first mid last : ℕ) → first ≤ mid → HasFaulted mid last → HasFaulted first last
faulted_since first mid last later faulted = omega (arith, later, faulted)

pub shuts_on : (a b c : State) → (HasCleanDisk c → HasCleanDisk b) → Shuts a b → Shuts b c → Shuts a c
shuts_on a b c clean one other = record {
  counts = omega (arith, one.counts, other.counts);
  cause = λ last opened. elim (one.cause (clean last) opened) [
    | inl still ↦ elim (other.cause last still) [
      | inl open_yet ↦ inl open_yet
      | inr faulted ↦ inr (faulted_since a.faults b.faults c.faults one.counts faulted)
    ]
    | inr faulted ↦ inr (faulted_later a.faults b.faults c.faults faulted other.counts)
  ];
}
