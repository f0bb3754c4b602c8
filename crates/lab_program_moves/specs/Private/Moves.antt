-- What a clause of a private function says beside Moves.antt.
use Rattle.std.specs.Prelude.{◌≡◌, ℕ, Option, Some, Result}
use Rattle.sqlite_trees.specs.declared.store.Store.{Ghosts}
use Rattle.sqlite.specs.Held.{Held}
use Rattle.lab_move.specs.declared.faults.MoveFault.{MoveFault}
use Rattle.lab_program_moves.specs.Moves.{AnswersRightly, Moves}

-- a move ended so; and what is left to be closed is the new file as it was left
abbrev pub MovesTo : {S : Type 0} → Ghosts S → Held S → Held S → Result ℕ MoveFault
    → Option (Held S) → Type 0
MovesTo disk old new ending finished =
    (moves : Moves disk old new ending) × AnswersRightly disk old new ending moves
    × (finished ≡ Some moves.made)
