-- Versions of forms and their fields, as they are read: each row by its id, and what stands
-- in rows of their own put together.
use Rattle.lab_records_kept.specs.declared.records.FormVersion.{FormVersion}
use Rattle.lab_store_tables.specs.Rows.{Tables}
use Rattle.lab_store_tables.specs.Meaning.{fields_of}
use Rattle.lab_store_read_forms.specs.declared.heads.FormHead.{FormHead}

-- the version of a form that has the row, with its fields
abbrev pub form_by : Tables → FormHead → FormVersion
form_by t head = record {
  code = head.code;
  version = head.version;
  form = record { fields = fields_of t head.id; approval = head.approval };
}
