-- Tables with a record or a version more, under the next id.
use Rattle.std.specs.Prelude.{ℤ}
use Rattle.sqlite_keyed.specs.Keyed.{next_key}
use Rattle.lab_records_kept.specs.declared.records.Record.{Record}
use Rattle.lab_records_kept.specs.declared.records.Version.{Version}
use Rattle.lab_store_tables.specs.Rows.{Tables, record_id, version_id}
use Rattle.lab_store_tables.specs.Changes.{put_record, record_row_of, put_version, version_row_of}

abbrev pub with_record : ℤ → ℤ → Record → Tables → Tables
with_record lab form kept t =
    put_record (record_row_of lab (next_key record_id t.records) form kept) t

abbrev pub with_version : ℤ → ℤ → Version → Tables → Tables
with_version kept opener version t =
    put_version (version_row_of kept (next_key version_id t.versions) opener version) t
