-- What a clause of a private function says beside Copying.antt.
use Rattle.std.specs.Prelude.{◌≡◌, ℕ, List, Option, Some, Result}
use Rattle.lab_records_keeper.specs.declared.keeper.Keeper.{Ghosts}
use Rattle.lab_records_copy_out.specs.declared.faults.CopyOutFault.{CopyOutFault}
use Rattle.lab_records_copy_out.specs.Causes.{Refusing}
use Rattle.lab_program_files.specs.Copying.{CopyTask, Copies}

-- a copy was made so; and what is left to be closed is the keeper as the copy left it
abbrev pub CopiesTo : {S : Type 0} → Ghosts S → Refusing S → CopyTask → (S → Type 0)
    → Option (List ℕ) → Option (List ℕ) → Result (Unit {0}) CopyOutFault → Option S → Type 0
CopiesTo keeper refuses task opened before after ending finished =
    (copies : Copies keeper refuses task opened before after ending)
    × (finished ≡ Some copies.new)
