-- What the rows of a founded laboratory make of the tables: its own row, under an id that none has,
-- the rows of its persons and the rows of its trail; every other row stays as it is.
use Rattle.std.specs.Prelude.{◌≡◌, ℤ}
use Rattle.lab_records_kept.specs.declared.labs.Lab.{Lab}
use Rattle.lab_store_tables.specs.Rows.{Tables, lab_id}
use Rattle.lab_store_tables.specs.Held.{AreRising}
use Rattle.lab_store_tables.specs.Changes.{IsFree, InTurn, AddsPerson, AddsTold}
use Rattle.lab_store_tables.specs.Placing.{lab_row_of, put_lab}
use Rattle.lab_store_tables.specs.ByRules.{IsByRules}

-- the laboratory's row, under this id
pub record AddsLab (id : ℤ) (lab : Lab) (old new : Tables) : Type 0 where
  pub free : IsFree lab_id old.labs id
  pub made : new ≡ put_lab (lab_row_of id lab) old

-- that row, and then its persons and its trail, each in its order
pub record AddsRows (lab : Lab) (old new : Tables) : Type 0 where
  pub id : ℤ
  pub begun : Tables
  pub row : AddsLab id lab old begun
  pub enrolled : Tables
  pub persons : InTurn (AddsPerson id) lab.persons begun enrolled
  pub trail : InTurn (AddsTold id) lab.trail enrolled new
  -- ids rise, and the database's own rules hold
  pub rising : AreRising new
  pub rules : IsByRules new
