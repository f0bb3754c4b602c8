-- The part of a laboratory, put together of what is read for it: by the laboratory's own row first
-- how many it has, then the list, then whoever and whatever else is meant.
use Rattle.lab_records_kept.specs.declared.needs.Need.{Need}
use Rattle.lab_records_kept.specs.declared.needs.Slice.{Slice}
use Rattle.lab_records_kept.specs.declared.needs.LabCounts.{LabCounts}
use Rattle.lab_store_tables.specs.Rows.{Tables}
use Rattle.lab_store_read_records.specs.declared.heads.LabHead.{LabHead}
use Rattle.lab_store_read_records.specs.Laboratories.{lab_by}
use Rattle.lab_store_load.specs.declared.lists.Listed.{Listed}
use Rattle.lab_store_load.specs.Lists.{counts_by, listed_by}
use Rattle.lab_store_load.specs.declared.people.People.{People}
use Rattle.lab_store_load.specs.People.{people_by}
use Rattle.lab_store_load.specs.declared.things.Things.{Things}
use Rattle.lab_store_load.specs.Things.{things_by}

abbrev pub slice_of : LabHead → LabCounts → Listed → People → Things → Slice
slice_of head counts listed people things = record {
  code = head.code;
  name = head.name;
  last = head.last;
  strays = head.strays;
  counts = counts;
  session = people.session;
  caller = people.caller;
  person = people.person;
  form = things.form;
  filed = things.filed;
  persons = listed.persons;
  records = listed.records;
  trail = listed.trail;
}

-- with whoever and whatever is meant
abbrev pub slice_with : Tables → Need → LabHead → LabCounts → Listed → Slice
slice_with t need head counts listed =
    slice_of head counts listed (people_by (lab_by t head) need) (things_by (lab_by t head) need)

-- and with the list that is meant
abbrev pub slice_counted : Tables → Need → LabHead → LabCounts → Slice
slice_counted t need head counts =
    slice_with t need head counts (listed_by (lab_by t head) need.list)

-- and with how many the laboratory has
abbrev pub slice_by : Tables → Need → LabHead → Slice
slice_by t need head = slice_counted t need head (counts_by t head)
