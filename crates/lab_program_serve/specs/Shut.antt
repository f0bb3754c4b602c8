-- A keeper that a fault has shut: it tells of no laboratory, and refuses every call.
use Rattle.std.specs.Prelude.{None}
use Rattle.lab_records_keeper.specs.declared.keeper.Keeper.{Ghosts}
use Rattle.lab_records_keeper.specs.Worlds.{World}
use Rattle.lab_program_serve.specs.declared.shut.Shut.{Shut}

abbrev pub shut_world : World
shut_world = record {
  meaning = λ _. None;
  is_honest = Unit {0};
  is_live = ⊥;
  faults = 0;
  is_reached = Unit {0};
  may_refuse = Unit {0};
  may_leave = λ _. ⊥;
  is_safe = Unit {0};
}

abbrev pub shut_keeper : Ghosts Shut
shut_keeper = record {
  world = λ _. shut_world;
  rests = λ _ _. Unit {0};
  moves = λ _ _ _ _. Unit {0};
  places = λ _ _ _. Unit {0};
  refuses_load = λ _ _ _ _. Unit {0};
  refuses_changes = λ _ _ _ _. Unit {0};
  refuses_founding = λ _ _ _. Unit {0};
}
