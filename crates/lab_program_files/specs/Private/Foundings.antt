-- What a clause of a private function says beside Foundings.antt.
use Rattle.std.specs.Prelude.{◌≡◌, Option, Some, Result}
use Rattle.lab_records_keeper.specs.declared.keeper.Keeper.{Ghosts}
use Rattle.lab_program_host.specs.declared.faults.RehearsalFault.{RehearsalFault as FoundingFault}
use Rattle.lab_program_files.specs.Foundings.{FoundTask, EndsOver}

-- a founding ended so; and what is left to be closed is the keeper as the founding left it
abbrev pub EndsAs : {S : Type 0} → Ghosts S → FoundTask → (S → Type 0)
    → Result (Unit {0}) FoundingFault → Option S → Type 0
EndsAs keeper task opened ending finished =
    (ends : EndsOver keeper task opened ending) × (finished ≡ Some ends.1)
