-- Definitions for proofs only, which belong to specs/Left.antt: no clause names them.
use Rattle.std.specs.Prelude.{◌≡◌, ℕ, ◌+◌, List, [], length, Option, Result}
use Rattle.csv.specs.declared.parser.State.{State}
use Rattle.lab_copy_rows.specs.Copies.{verdict_after}
use Rattle.lab_copy_rows.specs.declared.flaws.Flaw.{Flaw}
use Rattle.lab_copy_rows.specs.declared.lines.Counts.{Counts}
use Rattle.lab_copy_rows.specs.declared.lines.Line.{Line}
use Rattle.lab_copy.specs.Kept.{IsAt, kept_none}
use Rattle.lab_copy.specs.declared.kept.Kept.{Kept}
use Rattle.lab_copy.specs.Private.Left.{IsLeftOf}

-- the loop's invariant: to check from this row on gives the verdict on the whole copy
abbrev pub LeavesAt : State → Option (List ℕ) → Kept → ℕ → State → Option (List ℕ) → Type 0
LeavesAt state source kept row later rest =
    (found : Result Counts Flaw) → IsLeftOf found kept_none 2 state source
    → IsLeftOf found kept row later rest

-- whatever the bytes are: whichever rows follow, the verdict on them after the lines so far is the
-- one on some rows after the header
pub record FollowsSome (kept : Kept) (row : ℕ) : Type 0 where
  pub lines : List Line
  pub row_is : row ≡ length lines + 2
  pub kept_at : IsAt kept lines
  pub whole : (rest : List (List (List ℕ))) →
      (all : List (List (List ℕ))) × (verdict_after [] all ≡ verdict_after lines rest)
