-- What clauses of private functions say beside Shown.antt.
use Rattle.std.specs.Prelude.{ℤ, List, [], ◌∷◌, map, filter}
use Rattle.std.specs.Ordering.{int_eq}
use Rattle.sqlite_keyed.specs.Lists.{sort_by}
use Rattle.sqlite_value.specs.declared.value.Value.TheVariants.{Int, Text}
use Rattle.sqlite_value.specs.Order.{Row, column, bytes}
use Rattle.sqlite_rules.specs.Edit.{id_in}
use Rattle.lab_store_tables.specs.Rows.{EntryRow, Tables, number, optional, number_in, optional_in}
use Rattle.lab_store_tables.specs.Columns.{meaning_in}
use Rattle.lab_store_tables.specs.Meaning.{by_entry}
use Rattle.lab_records_kept.specs.declared.records.Signature.{Signature}
use Rattle.lab_store_read_records.specs.declared.heads.EntryHead.{EntryHead}

-- ---- entries of a version, each by its own row

abbrev pub own_entry_shown : EntryRow → Row
own_entry_shown one =
    Text one.key ∷ Text one.value ∷ Text one.unit ∷ Int one.person ∷ number one.moment
    ∷ optional Text one.reason ∷ []

abbrev pub own_entries_shown : Tables → ℤ → List Row
own_entries_shown t version =
    map own_entry_shown
    (sort_by by_entry (filter (λ (one : EntryRow). int_eq one.version version) t.entries))

abbrev pub own_entry_read : Row → EntryHead
own_entry_read row = record {
  key = bytes (column row 0);
  value = bytes (column row 1);
  unit = bytes (column row 2);
  person = id_in (column row 3);
  moment = number_in (column row 4);
  reason = optional_in bytes (column row 5);
}

-- ---- signatures of a version

abbrev pub signature_read : Row → Signature
signature_read row = record {
  person = bytes (column row 0);
  name = bytes (column row 1);
  meaning = meaning_in (bytes (column row 2)) (optional_in bytes (column row 3));
  moment = number_in (column row 4);
  digest = bytes (column row 5);
  seal = bytes (column row 6);
}
