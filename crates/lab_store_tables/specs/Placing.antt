-- What a laboratory that is placed adds to the tables: its row, and those of all that it has, under
-- ids that no row of their tables has. It is placed where no laboratory of its code is, and every
-- other row stays as it is (21 CFR 11.10(e), "record changes shall not obscure previously recorded
-- information"). A founding places a laboratory with three persons and the first row of its trail.
use Rattle.std.specs.Prelude.{◌≡◌, ℤ, Bool, map, filter, find, None, is_some}
use Rattle.sqlite_keyed.specs.Keyed.{insert_by}
use Rattle.lab_people_access.specs.declared.persons.Person.{Person}
use Rattle.lab_records_kept.specs.declared.labs.Lab.{Lab}
use Rattle.lab_store_tables.specs.Rows.{LabRow, Tables, lab_id}
use Rattle.lab_store_tables.specs.Meaning.{has_code}
use Rattle.lab_store_tables.specs.Changes.{IsFree, InTurn, AddsPerson, SetsPerson, AddsSession, AddsForm, AddsRecord, AddsTold}

-- the row of a laboratory that gave no number yet
abbrev pub lab_row_of : ℤ → Lab → LabRow
lab_row_of id lab = record {
  id = id;
  code = lab.code;
  name = lab.name;
  last = lab.last;
  stray = lab.strays;
  records = 0;
  sessions = 0;
  trail = 0;
}

abbrev pub put_lab : LabRow → Tables → Tables
put_lab row t = record t { labs = insert_by lab_id t.labs row }

-- a person as before anything was asked for, and those for whom something is
abbrev pub unasked : Person → Person
unasked person = record person { ask = None }

abbrev pub is_asked_for : Person → Bool
is_asked_for person = is_some person.ask

-- the laboratory's row, and then its rows kind by kind, each kind in its order; who asked for
-- something may stand behind the person it is asked for, so what was asked is set once all persons
-- are there
pub record PlacesLab (lab : Lab) (old new : Tables) : Type 0 where
  pub absent : find (has_code lab.code) old.labs ≡ None
  pub id : ℤ
  pub free : IsFree lab_id old.labs id
  pub enrolled : Tables
  pub persons : InTurn (AddsPerson id) (map unasked lab.persons) (put_lab (lab_row_of id lab) old)
      enrolled
  pub asked : Tables
  pub asks : InTurn (SetsPerson id) (filter is_asked_for lab.persons) enrolled asked
  pub opened : Tables
  pub sessions : InTurn (AddsSession id) lab.sessions asked opened
  pub formed : Tables
  pub forms : InTurn (AddsForm id) lab.forms opened formed
  pub filed : Tables
  pub records : InTurn (AddsRecord id) lab.records formed filed
  pub trail : InTurn (AddsTold id) lab.trail filed new
