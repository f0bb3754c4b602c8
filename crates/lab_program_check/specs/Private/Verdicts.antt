-- What clauses of private functions say beside Verdicts.antt.
use Rattle.std.specs.Prelude.{◌≡◌, ℕ, List, Result}
use Rattle.lab_copy_rows.specs.declared.flaws.Flaw.{Flaw}
use Rattle.lab_copy_rows.specs.declared.lines.Counts.{Counts}
use Rattle.lab_program_check.specs.Verdicts.{verdict_line, verdict_status}

-- ---- what is told

-- a line and a status are those of a verdict
abbrev pub IsFound : Result Counts Flaw → List ℕ → ℕ → Type 0
IsFound verdict line status = (line ≡ verdict_line verdict) × (status ≡ verdict_status verdict)
