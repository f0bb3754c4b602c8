-- A version as its own rows tell it: of what is read, as the tables' meaning has it.
use Rattle.lab_store_tables.specs.Rows.{Tables}
use Rattle.lab_store_tables.specs.Meaning.{Leaf, entries_of, signatures_of}
use Rattle.lab_store_read_records.specs.declared.heads.VersionHead.{VersionHead}
use Rattle.lab_store_read_records.specs.declared.leaves.VersionLeaf.{VersionLeaf}

abbrev pub leaf_of : VersionLeaf → Leaf
leaf_of one = record {
  number = one.number;
  format = one.format;
  opener = one.opener;
  opened = one.opened;
  reason = one.reason;
  rows = one.rows;
  signatures = one.signatures;
}

-- the version with the row, in these tables
abbrev pub leaf_by : Tables → VersionHead → Leaf
leaf_by t head = record {
  number = head.number;
  format = head.format;
  opener = head.opener;
  opened = head.opened;
  reason = head.reason;
  rows = entries_of t head.id;
  signatures = signatures_of t head.id;
}
