-- Tables with a row more, under the next id and behind those that its parent has.
use Rattle.std.specs.Prelude.{ℤ}
use Rattle.sqlite_keyed.specs.Keyed.{next_key}
use Rattle.lab_records_kept.specs.declared.records.FormVersion.{FormVersion}
use Rattle.lab_store_tables.specs.Rows.{Tables, form_id}
use Rattle.lab_store_tables.specs.Changes.{put_form, form_row_of}

abbrev pub with_form : ℤ → FormVersion → Tables → Tables
with_form lab form t = put_form (form_row_of lab (next_key form_id t.forms) form) t
