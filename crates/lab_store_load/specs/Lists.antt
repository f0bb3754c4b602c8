-- How many a laboratory has, and the list that is meant.
use Rattle.std.specs.Prelude.{length, Option}
use Rattle.lab_records_kept.specs.declared.labs.Lab.{Lab}
use Rattle.lab_records_kept.specs.declared.needs.LabCounts.{LabCounts}
use Rattle.lab_records_kept.specs.declared.needs.ListWanted.{ListWanted}
use Rattle.lab_records_kept.specs.Parts.{persons_meant, records_meant, rows_meant}
use Rattle.lab_store_tables.specs.Rows.{Tables}
use Rattle.lab_store_tables.specs.Meaning.{persons_of}
use Rattle.lab_store_read_records.specs.declared.heads.LabHead.{LabHead}
use Rattle.lab_store_load.specs.declared.lists.Listed.{Listed}

-- how many it has: its row counts all but the persons
abbrev pub counts_by : Tables → LabHead → LabCounts
counts_by t head = record {
  persons = length (persons_of t head.id);
  sessions = head.sessions;
  records = head.records;
  trail = head.trail;
}

-- the list that is meant; the others are empty
abbrev pub listed_by : Lab → Option ListWanted → Listed
listed_by lab list = record {
  persons = persons_meant lab list;
  records = records_meant lab list;
  trail = rows_meant lab list;
}
