-- A laboratory as it is made of rows, which name no digest of an earlier version: each later version
-- names the digest that was computed of the one before it (ISO/IEC 17025:2017, 7.5.2).
use Rattle.std.specs.Prelude.{ℕ, List, All, None}
use Rattle.lab_records_kept.specs.declared.records.Record.{Record}
use Rattle.lab_records_kept.specs.declared.labs.Lab.{Lab}
use Rattle.lab_records_kept.specs.Bound.{IsChain}

abbrev pub IsChained : List ℕ → Record → Type 0
IsChained lab kept = IsChain lab kept None kept.versions

abbrev pub AreChained : Lab → Type 0
AreChained lab = All (IsChained lab.code) lab.records
