-- A keeper that meets what is said of why a copy was refused: it was opened, its laboratories were
-- read, and then a fault shut it.
use Rattle.std.proofs.Common.{ℕ, ◌≤◌, zero, suc, List, None, refl, inl, inr, arith}
use Rattle.lab_records_keeper.specs.declared.keeper.Keeper.{Ghosts}
use Rattle.lab_records_keeper.specs.Worlds.{Meaning, Passes, SameMeaning, Shuts, World}
use Rattle.lab_records_copy_out.specs.Causes.{RefusesCopy, RefusesOne, RefusesRecords}
use Rattle.lab_records_copy_out.specs.Resting.{IsOnlyRead}

-- the keeper while it is open, and after the fault
abbrev world_at : Meaning → ℕ → World
world_at start zero = record {
  meaning = start;
  is_honest = Unit {0};
  is_live = Unit {0};
  faults = 0;
  is_reached = Unit {0};
  may_refuse = Unit {0};
  may_leave = SameMeaning start;
  is_safe = Unit {0};
}
world_at start (suc _) = record {
  meaning = λ _. None;
  is_honest = Unit {0};
  is_live = ⊥;
  faults = 1;
  is_reached = Unit {0};
  may_refuse = Unit {0};
  may_leave = SameMeaning start;
  is_safe = Unit {0};
}

-- it refuses what a fault keeps it from
abbrev keeper : Meaning → Ghosts ℕ
keeper start = record {
  world = world_at start;
  rests = λ _ _. Unit {0};
  moves = λ _ _ _ _. Unit {0};
  places = λ _ _ _. Unit {0};
  refuses_load = λ old new _ _. (world_at start old).is_live × ¬ (world_at start new).is_live;
  refuses_changes = λ _ _ _ _. ⊥;
  refuses_founding = λ _ _ _. ⊥;
}

read : (start : Meaning) → IsOnlyRead (world_at start) (λ _ _. Unit {0}) 0 0
read start = record {
  same = λ honest reached live code. refl;
  rested = λ honest reached live. tt;
  quiet = λ honest reached live held left. left;
  safe = λ honest reached live safe. safe;
  reached = λ honest reached. reached;
  passes = record { honest = λ one. one; live = λ honest one. one; refusing = λ one. one };
}

shuts_before : (start : Meaning) → Shuts (world_at start 0) (world_at start 0)
shuts_before start = record { counts = omega arith; cause = λ live. inl live }

passes : (start : Meaning) → Passes (world_at start 0) (world_at start 1)
passes start = record { honest = λ _. tt; live = λ _ _. tt; refusing = λ _. tt }

shuts : (start : Meaning) → Shuts (world_at start 0) (world_at start 1)
shuts start = record { counts = omega arith; cause = λ live. inr (omega arith) }

pub known_one : (start : Meaning) (code : List ℕ) (from number last : ℕ) →
    from ≤ number → number ≤ last → RefusesOne (keeper start) 0 1 code from last
known_one start code from number last first within = record {
  number = number;
  first = first;
  within = within;
  mid = 0;
  read = read start;
  shuts_before = λ honest reached. shuts_before start;
  passes = passes start;
  shuts = λ honest reached. shuts start;
  refused = (tt, λ live. live);
}

-- the head was loaded, and then a record was refused
pub known_copy : (start : Meaning) (code : List ℕ) (from number last to : ℕ) →
    from ≤ number → number ≤ last → last ≤ to →
    RefusesCopy (keeper start) (RefusesOne (keeper start)) 0 1 code from to
known_copy start code from number last to first within most = inr (record {
  mid = 0;
  read = read start;
  shuts_before = λ honest reached. shuts_before start;
  named = code;
  its = λ honest reached. refl;
  last = last;
  within = most;
  passes = passes start;
  shuts = λ honest reached. shuts start;
  refused = known_one start code from number last first within;
})
