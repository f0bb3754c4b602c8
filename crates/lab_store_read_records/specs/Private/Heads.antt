-- What clauses of private functions say beside Heads.antt.
use Rattle.std.specs.Prelude.{ℤ, List, map, filter}
use Rattle.std.specs.Ordering.{int_eq}
use Rattle.sqlite_keyed.specs.Lists.{sort_by}
use Rattle.lab_seal_versions.specs.declared.rows.EntryRow.{EntryRow as Entry}
use Rattle.lab_store_tables.specs.Rows.{EntryRow, Tables}
use Rattle.lab_store_tables.specs.Meaning.{code_of, by_entry}
use Rattle.lab_store_read_records.specs.declared.heads.EntryHead.{EntryHead}

abbrev pub entry_head : EntryRow → EntryHead
entry_head one = record {
  key = one.key;
  value = one.value;
  unit = one.unit;
  person = one.person;
  moment = one.moment;
  reason = one.reason;
}

-- the entries of a version, in the order of their places
abbrev pub entry_heads_of : Tables → ℤ → List EntryHead
entry_heads_of t version =
    map entry_head
    (sort_by by_entry (filter (λ (one : EntryRow). int_eq one.version version) t.entries))

-- the entry with the row, in these tables
abbrev pub entry_by : Tables → EntryHead → Entry
entry_by t head = record {
  key = head.key;
  value = head.value;
  unit = head.unit;
  person = code_of t head.person;
  moment = head.moment;
  reason = head.reason;
}
