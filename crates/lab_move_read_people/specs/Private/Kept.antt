-- What clauses of private functions say beside Kept.antt.
use Rattle.std.specs.Prelude.{Bool, Result, IfOk}
use Rattle.lab_move_read_people.specs.declared.faults.KeptFault.{KeptFault}
use Rattle.lab_move_read_people.specs.Kept.{found_of, IsFound}

-- of rows that were read
abbrev pub IsTried : {T : Type 0} → Bool → (T → Type 0) → Result T KeptFault → Type 0
IsTried is_kept Made result = IfOk (found_of result) (IsFound is_kept Made)
