-- A whole laboratory that is placed in a database that keeps its own rules (ISO/IEC 17025:2017,
-- 7.5.2, "amendments to technical records can be tracked to previous versions", wherever they are
-- kept). First comes its row, and then all that it has, kind by kind, as changes of a laboratory
-- that has nothing yet; each leaves tables in which ids rise and those rules hold.
use Rattle.std.specs.Prelude.{ℤ, List, ◌++◌, map, filter}
use Rattle.lab_records_kept.specs.declared.labs.Lab.{Lab}
use Rattle.lab_records_kept.specs.declared.changes.Change.{Change}
use Rattle.lab_records_kept.specs.declared.changes.Change.TheVariants.{PersonAdded, PersonSet, SessionAdded, FormAdded, RecordAdded, TrailAdded}
use Rattle.lab_store_tables.specs.Rows.{Tables, lab_id}
use Rattle.lab_store_tables.specs.Changes.{IsFree, InTurn}
use Rattle.lab_store_tables.specs.Placing.{lab_row_of, put_lab, unasked, is_asked_for}
use Rattle.lab_store_tables.specs.ByRules.{IsByRules}
use Rattle.lab_store_tables.specs.Steps.{StepsBy}

-- all that it has; what was asked for a person comes once all persons are there
abbrev pub whole_changes : Lab → List Change
whole_changes lab =
    map PersonAdded (map unasked lab.persons) ++ map PersonSet (filter is_asked_for lab.persons)
    ++ map SessionAdded lab.sessions ++ map FormAdded lab.forms ++ map RecordAdded lab.records
    ++ map TrailAdded lab.trail

pub record PlacesByRules (lab : Lab) (old new : Tables) : Type 0 where
  pub id : ℤ
  pub free : IsFree lab_id old.labs id
  pub rules : IsByRules (put_lab (lab_row_of id lab) old)
  pub steps : InTurn (StepsBy id) (whole_changes lab) (put_lab (lab_row_of id lab) old) new
