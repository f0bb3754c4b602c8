-- A laboratory, whole, by its own row: all that the tables mean of it.
use Rattle.lab_records_kept.specs.declared.labs.Lab.{Lab}
use Rattle.lab_store_tables.specs.Rows.{Tables}
use Rattle.lab_store_tables.specs.Meaning.{persons_of, sessions_of, forms_of, records_of, trail_of}
use Rattle.lab_store_read_records.specs.declared.heads.LabHead.{LabHead}

abbrev pub lab_by : Tables → LabHead → Lab
lab_by t head = record {
  code = head.code;
  name = head.name;
  last = head.last;
  strays = head.strays;
  persons = persons_of t head.id;
  sessions = sessions_of t head.id;
  forms = forms_of t head.id;
  records = records_of t head.code head.id;
  trail = trail_of t head.id;
}
