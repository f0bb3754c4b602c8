-- What holds of the laboratory that there is.
use Rattle.std.specs.Prelude.{Option, MatchOption}
use Rattle.lab_records_kept.specs.declared.labs.Lab.{Lab}

-- there is a laboratory, and it holds of it
abbrev pub HoldsOf : (Lab → Type 0) → Option Lab → Type 0
HoldsOf Holds lab = MatchOption lab ⊥ Holds

-- it holds of the laboratory, where there is one
abbrev pub WhereThere : (Lab → Type 0) → Option Lab → Type 0
WhereThere Holds lab = MatchOption lab (Unit {0}) Holds
