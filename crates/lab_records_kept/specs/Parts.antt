-- The part of a laboratory that is needed: its code, name, last moment, stray count, how many it
-- has, and what the need names. Nothing else of the laboratory is seen.
use Rattle.std.specs.Prelude.{List, [], length, Option, Some, None, option_and_then}
use Rattle.lab_people_access.specs.declared.persons.Person.{Person}
use Rattle.lab_records_kept.specs.declared.records.FormVersion.{FormVersion}
use Rattle.lab_records_kept.specs.declared.records.Record.{Record}
use Rattle.lab_records_kept.specs.declared.trails.TrailRow.{TrailRow}
use Rattle.lab_records_kept.specs.declared.labs.Lab.{Lab}
use Rattle.lab_records_kept.specs.declared.needs.Need.{Need}
use Rattle.lab_records_kept.specs.declared.needs.Slice.{Slice}
use Rattle.lab_records_kept.specs.declared.needs.LabCounts.{LabCounts}
use Rattle.lab_records_kept.specs.declared.needs.FormWanted.{FormWanted}
use Rattle.lab_records_kept.specs.declared.needs.FormWanted.TheVariants.{Last, Exact}
use Rattle.lab_records_kept.specs.declared.needs.RecordWanted.{RecordWanted}
use Rattle.lab_records_kept.specs.declared.needs.RecordWanted.TheVariants.{Numbered, About}
use Rattle.lab_records_kept.specs.declared.needs.ListWanted.{ListWanted}
use Rattle.lab_records_kept.specs.declared.needs.ListWanted.TheVariants.{Persons, Records, Trail}
use Rattle.lab_records_kept.specs.Lookups.{session_at, person_at, caller_of, last_form, exact_form, record_of, record_about, records_within, rows_within}

-- how many a laboratory has
abbrev pub counts_of : Lab → LabCounts
counts_of lab = record {
  persons = length lab.persons;
  sessions = length lab.sessions;
  records = length lab.records;
  trail = length lab.trail;
}

-- the version of a form, and the record, that are meant
abbrev pub form_meant : Lab → FormWanted → Option FormVersion
form_meant lab (Last code) = last_form lab.forms code
form_meant lab (Exact code version) = exact_form lab.forms code version

abbrev pub record_meant : Lab → RecordWanted → Option Record
record_meant lab (Numbered number) = record_of lab.records number
record_meant lab (About form sample) = record_about lab.records form sample

-- the persons, the records and the rows of the trail that are in the list meant
abbrev pub persons_meant : Lab → Option ListWanted → List Person
persons_meant lab (Some Persons) = lab.persons
persons_meant lab _ = []

abbrev pub records_meant : Lab → Option ListWanted → List Record
records_meant lab (Some (Records from to)) = records_within from to lab.records
records_meant lab _ = []

abbrev pub rows_meant : Lab → Option ListWanted → List TrailRow
rows_meant lab (Some (Trail from to)) = rows_within from to lab.trail
rows_meant lab _ = []

-- the part
abbrev pub part : Need → Lab → Slice
part need lab = record {
  code = lab.code;
  name = lab.name;
  last = lab.last;
  strays = lab.strays;
  counts = counts_of lab;
  session = option_and_then (session_at lab) need.token;
  caller = caller_of lab (option_and_then (session_at lab) need.token);
  person = option_and_then (person_at lab) need.person;
  form = option_and_then (form_meant lab) need.form;
  filed = option_and_then (record_meant lab) need.filed;
  persons = persons_meant lab need.list;
  records = records_meant lab need.list;
  trail = rows_meant lab need.list;
}

-- the part, where there is a laboratory
abbrev pub part_of : Need → Option Lab → Option Slice
part_of need None = None
part_of need (Some lab) = Some (part need lab)
