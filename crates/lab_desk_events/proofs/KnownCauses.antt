-- A keeper that meets what is said of why a request was refused: the part that it needs was loaded,
-- and a fault shut the keeper within the commit of the changes.
use Rattle.std.proofs.Common.{◌≡◌, arith, ℕ, zero, suc, None, Some, refl, inl, inr}
use Rattle.lab_forms_texts.specs.declared.tick.Tick.{Tick}
use Rattle.lab_records_kept.specs.declared.needs.Slice.{Slice}
use Rattle.lab_records_kept.specs.Parts.{part_of}
use Rattle.lab_records_keeper.specs.declared.keeper.Keeper.{Ghosts}
use Rattle.lab_records_keeper.specs.Calls.{Loads}
use Rattle.lab_records_keeper.specs.Worlds.{Meaning, SameMeaning, World}
use Rattle.lab_records_machine.specs.Needs.{need_of}
use Rattle.lab_wire.specs.declared.commands.Asked.{Asked}
use Rattle.lab_desk_events.specs.Causes.{RefusesAsked, loaded}

-- the keeper while it is open, and after the fault
abbrev world_at : Meaning → ℕ → World
world_at start zero = record {
  meaning = start;
  is_honest = Unit {0};
  is_live = Unit {0};
  faults = 0;
  is_reached = Unit {0};
  may_refuse = Unit {0};
  may_leave = SameMeaning start;
  is_safe = Unit {0};
}
world_at start (suc _) = record {
  meaning = λ _. None;
  is_honest = Unit {0};
  is_live = ⊥;
  faults = 1;
  is_reached = Unit {0};
  may_refuse = Unit {0};
  may_leave = SameMeaning start;
  is_safe = Unit {0};
}

-- it refuses changes alone, and those that a fault keeps it from
abbrev keeper : Meaning → Ghosts ℕ
keeper start = record {
  world = world_at start;
  rests = λ _ _. Unit {0};
  moves = λ _ _ _ _. Unit {0};
  places = λ _ _ _. Unit {0};
  refuses_load = λ _ _ _ _. ⊥;
  refuses_changes = λ old new _ _. (world_at start old).is_live × ¬ (world_at start new).is_live;
  refuses_founding = λ _ _ _. ⊥;
}

loads : (start : Meaning) (slice : Slice) →
    Loads (world_at start 0) (world_at start 0) (Unit {0}) (loaded slice)
loads start slice = record {
  same = λ honest reached live code. refl;
  rows = λ honest reached live. tt;
  lives = λ honest reached. (tt, tt);
  fault = tt;
  crash = λ honest reached live held left. left;
  safe = λ honest reached live safe. safe;
  reached = λ honest reached. reached;
  shuts = λ honest reached. record { counts = omega (arith); cause = λ live. inl live };
  passes = record { honest = λ one. one; live = λ honest one. one; refusing = λ one. one };
}

pub known_refusal : (start : Meaning) (tick : Tick) (asked : Asked) (slice : Slice) →
    Some slice ≡ part_of (need_of tick asked.instruction) (start asked.lab) →
    RefusesAsked (keeper start) 0 1 tick asked
known_refusal start tick asked slice part = inr (record {
  mid = 0;
  slice = slice;
  loads = loads start slice;
  part = λ honest reached. part;
  passes = record { honest = λ _. tt; live = λ _ _. tt; refusing = λ _. tt };
  refused = (tt, λ live. live);
})
