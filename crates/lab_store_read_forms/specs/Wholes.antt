-- A record of a laboratory, with its form and all its versions, as its own row leads to them.
use Rattle.std.specs.Prelude.{ℕ, List, [], None}
use Rattle.lab_records_kept.specs.declared.records.FormVersion.{FormVersion}
use Rattle.lab_records_kept.specs.declared.records.Record.{Record}
use Rattle.lab_store_tables.specs.Rows.{Tables}
use Rattle.lab_store_tables.specs.Meaning.{Leaf, form_at, leaves_of, chained}
use Rattle.lab_store_read_records.specs.declared.heads.RecordHead.{RecordHead}

-- without its versions
abbrev pub cover_of : RecordHead → FormVersion → Record
cover_of head form = record {
  number = head.number;
  form = form;
  sample = head.sample;
  versions = [];
}

-- with versions of which their own rows tell this
abbrev pub record_with : List ℕ → RecordHead → FormVersion → List Leaf → Record
record_with lab head form leaves =
    record (cover_of head form) { versions = chained lab (cover_of head form) None leaves }

abbrev pub record_by : Tables → List ℕ → RecordHead → Record
record_by t lab head = record_with lab head (form_at t head.form) (leaves_of t head.id)
