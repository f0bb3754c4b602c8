-- What a clause of a private function says beside Times.antt.
use Rattle.std.specs.Prelude.{Option, Some, None}
use Rattle.lab_records_keeper.specs.declared.keeper.Keeper.{Ghosts}
use Rattle.lab_desk.specs.Desk.{Served}
use Rattle.lab_program_serve.specs.Times.{IsAsked}

-- a keeper is as it was, or was asked whether it answers, where there is a desk
abbrev pub IsAskedIfAny : {S : Type 0} → Ghosts S → Option (Served S) → Option (Served S) → Type 0
IsAskedIfAny keeper (Some old) (Some new) = IsAsked keeper old.keeper new.keeper
IsAskedIfAny keeper None None = Unit {0}
IsAskedIfAny keeper old new = ⊥
