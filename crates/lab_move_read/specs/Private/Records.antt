-- What clauses of private functions say beside Records.antt.
use Rattle.std.specs.Prelude.{ℤ, Bool, ◌&&◌, List, map}
use Rattle.std.specs.Ordering.{int_eq}
use Rattle.sqlite_value.specs.Order.{Row, column, bytes}
use Rattle.lab_seal_versions.specs.declared.rows.EntryRow.{EntryRow as Entry}
use Rattle.lab_records_kept.specs.declared.records.Signature.{Signature}
use Rattle.lab_store_tables.specs.Rows.{VersionRow, Tables, number_in}
use Rattle.lab_store_tables.specs.Columns.{meaning_in}
use Rattle.lab_store_tables.specs.Meaning.{Leaf, code_of, entries_of, signatures_of}
use Rattle.lab_move_tables.specs.OldRows.{reason_in}
use Rattle.lab_move_tables.specs.Owned.{own_versions, lab_of}
use Rattle.lab_move_tables.specs.KeptLabs.{are_kept_entries, are_kept_signatures}
use Rattle.lab_move_read.specs.declared.heads.VersionHead.{VersionHead}

-- ---- entries and signatures

abbrev pub entry_read : Row → Entry
entry_read row = record {
  key = bytes (column row 0);
  value = bytes (column row 1);
  unit = bytes (column row 2);
  person = bytes (column row 3);
  moment = number_in (column row 4);
  reason = reason_in (column row 5);
}

abbrev pub signature_read : Row → Signature
signature_read row = record {
  person = bytes (column row 0);
  name = bytes (column row 1);
  meaning = meaning_in (bytes (column row 2)) (reason_in (column row 3));
  moment = number_in (column row 4);
  digest = bytes (column row 5);
  seal = bytes (column row 6);
}

-- ---- versions

abbrev pub version_head : Tables → VersionRow → VersionHead
version_head t one = record {
  id = one.id;
  number = one.number;
  format = one.format;
  opener = code_of t one.opener;
  opened = one.opened;
  reason = one.reason;
  lab = lab_of t one.opener;
}

-- the version that has the row
abbrev pub leaf_by : Tables → VersionHead → Leaf
leaf_by t head = record {
  number = head.number;
  format = head.format;
  opener = head.opener;
  opened = head.opened;
  reason = head.reason;
  rows = entries_of t head.id;
  signatures = signatures_of t head.id;
}

abbrev pub is_kept_leaf : Tables → ℤ → VersionHead → Bool
is_kept_leaf t lab head =
    int_eq head.lab lab && are_kept_entries t lab head.id && are_kept_signatures t lab head.id

abbrev pub version_heads_of : Tables → ℤ → List VersionHead
version_heads_of t kept = map (version_head t) (own_versions t kept)
