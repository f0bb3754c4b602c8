-- What is left to find, while a copy is read: of the lines so far what is kept, and of the bytes
-- those that the reader has left.
use Rattle.std.specs.Prelude.{◌≡◌, ℕ, ◌+◌, ◌≤◌, false, List, [], length, Option, Some, Result}
use Rattle.csv.specs.Machine.{ends_at_end}
use Rattle.csv.specs.Reading.{default_config, records_from}
use Rattle.csv.specs.declared.parser.State.{State}
use Rattle.lab_copy_rows.specs.Copies.{verdict, verdict_after}
use Rattle.lab_copy_rows.specs.declared.flaws.Flaw.{Flaw}
use Rattle.lab_copy_rows.specs.declared.lines.Counts.{Counts}
use Rattle.lab_copy_rows.specs.declared.lines.Line.{Line}
use Rattle.lab_copy.specs.Faults.{IsAnswer}
use Rattle.lab_copy.specs.Kept.{IsAt, kept_none}
use Rattle.lab_copy.specs.declared.faults.CopyFault.{CopyFault}
use Rattle.lab_copy.specs.declared.kept.Kept.{Kept}

-- no record is begun, and there are no more records than this in the bytes
pub record IsEnough (fuel : ℕ) (state : State) (bytes : List ℕ) : Type 0 where
  pub between : ends_at_end state ≡ false
  pub few : length bytes ≤ fuel

-- what is found of the whole copy is what is found of these bytes behind the lines so far
pub record IsLeft (found : Result Counts Flaw) (kept : Kept) (row : ℕ) (state : State)
    (bytes : List ℕ) : Type 0 where
  pub lines : List Line
  pub fuel : ℕ
  pub row_is : row ≡ length lines + 2
  pub kept_at : IsAt kept lines
  pub enough : IsEnough fuel state bytes
  pub found_is : found ≡ verdict_after lines (records_from default_config fuel state bytes)

-- the same of a reader whose bytes are known
abbrev pub IsLeftOf : Result Counts Flaw → Kept → ℕ → State → Option (List ℕ) → Type 0
IsLeftOf found kept row state source =
    (bytes : List ℕ) × (source ≡ Some bytes) × IsLeft found kept row state bytes

-- so many rows there are in all: those in front of this one, and those in the bytes
abbrev pub AreRows : ℕ → ℕ → State → Option (List ℕ) → Type 0
AreRows total row state source =
    (bytes : List ℕ) × (fuel : ℕ) × (source ≡ Some bytes) × IsEnough fuel state bytes
    × (total + 1 ≡ row + length (records_from default_config fuel state bytes))

-- what the rows behind the header leave to find is answered
abbrev pub AnswersRest : State → Option (List ℕ) → Result Counts CopyFault → Type 0
AnswersRest state source result =
    (found : Result Counts Flaw) → IsLeftOf found kept_none 2 state source → IsAnswer found result

-- the verdict on some rows is answered; and on some rows that follow the header
abbrev pub AnswersSome : Result Counts CopyFault → Type 0
AnswersSome result = (rows : List (List (List ℕ))) × IsAnswer (verdict rows) result

abbrev pub AnswersSomeRest : Result Counts CopyFault → Type 0
AnswersSomeRest result = (rows : List (List (List ℕ))) × IsAnswer (verdict_after [] rows) result
