-- Records, versions, entries and signatures as they are read: each row by its id, what stands in
-- rows of their own put together, and whether the rows are well kept.
use Rattle.std.specs.Prelude.{ℕ, ℤ, Bool, false, ◌&&◌, nat_le, List, [], map, Option, Some, None, option_and_then, unwrap_or, is_some, bytes_eq, if◌then◌else◌}
use Rattle.std.specs.List.{list_all}
use Rattle.sqlite_value.specs.Order.{Row, column, bytes}
use Rattle.sqlite_rules.specs.Edit.{id_in}
use Rattle.lab_records_kept.specs.declared.records.FormVersion.{FormVersion}
use Rattle.lab_records_kept.specs.declared.records.Record.{Record}
use Rattle.lab_store_tables.specs.Rows.{Tables, number_in}
use Rattle.lab_store_tables.specs.Meaning.{leaves_of}
use Rattle.lab_store_read_records.specs.declared.heads.RecordHead.{RecordHead}
use Rattle.lab_store_read_records.specs.Heads.{record_head}
use Rattle.lab_store_read_forms.specs.Wholes.{record_with}
use Rattle.lab_move_tables.specs.declared.older.Older.{Older}
use Rattle.lab_move_tables.specs.declared.older.Older.TheVariants.{Two}
use Rattle.lab_move_tables.specs.OldRows.{reason_in}
use Rattle.lab_move_tables.specs.Owned.{own_records}
use Rattle.lab_move_tables.specs.KeptLabs.{are_kept_versions, are_so_many_records}
use Rattle.lab_store_read_forms.specs.declared.heads.FormAt.{FormAt}
use Rattle.lab_move_read.specs.declared.heads.VersionHead.{VersionHead}
use Rattle.lab_move_read.specs.Forms.{form_among}

-- ---- versions

-- the format of its text: the first where no schema knew another
abbrev pub format_in : Older → Row → ℕ
format_in Two row = 1

abbrev pub version_read : Older → Row → VersionHead
version_read older row = record {
  id = id_in (column row 0);
  number = number_in (column row 1);
  format = format_in older row;
  opener = bytes (column row 2);
  opened = number_in (column row 3);
  reason = reason_in (column row 4);
  lab = id_in (column row 5);
}

-- ---- records

-- the form of a record, if it is one of these and has the code that the record's row names
abbrev pub named_form : List FormAt → RecordHead → Option FormVersion
named_form forms head =
    option_and_then (λ (form : FormVersion).
    if bytes_eq form.code head.form_code then Some form else None) (form_among forms head.form)

abbrev no_form : FormVersion
no_form = record { code = []; version = 0; form = record { fields = []; approval = false } }

abbrev pub is_kept_record_head : Tables → ℤ → List FormAt → RecordHead → Bool
is_kept_record_head t lab forms head =
    is_some (named_form forms head) && nat_le 1 head.current
    && are_kept_versions t lab head.id head.current

abbrev pub record_by : Tables → List ℕ → List FormAt → RecordHead → Record
record_by t code forms head =
    record_with code head (unwrap_or (named_form forms head) no_form) (leaves_of t head.id)

abbrev pub record_heads_of : Tables → ℤ → List RecordHead
record_heads_of t lab = map record_head (own_records t lab)

abbrev pub are_kept_records_by : Tables → ℤ → List FormAt → ℕ → Bool
are_kept_records_by t lab forms count =
    are_so_many_records t lab count
    && list_all (is_kept_record_head t lab forms) (record_heads_of t lab)

abbrev pub records_by : Tables → ℤ → List ℕ → List FormAt → List Record
records_by t lab code forms =
    map (record_by t code forms) (record_heads_of t lab)
