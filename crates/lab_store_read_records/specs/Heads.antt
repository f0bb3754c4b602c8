-- Rows of the tables, as they are given to whoever reads: each by its id.
use Rattle.std.specs.Prelude.{ℕ, ℤ, Bool, ◌&&◌, ◌==◌, List, map, filter}
use Rattle.std.specs.Ordering.{int_eq}
use Rattle.sqlite_keyed.specs.Lists.{sort_by}
use Rattle.lab_store_tables.specs.Rows.{LabRow, RecordRow, VersionRow, Tables}
use Rattle.lab_store_tables.specs.Meaning.{code_of, by_version}
use Rattle.lab_store_read_records.specs.declared.heads.LabHead.{LabHead}
use Rattle.lab_store_read_records.specs.declared.heads.VersionHead.{VersionHead}
use Rattle.lab_store_read_records.specs.declared.heads.RecordHead.{RecordHead}

abbrev pub lab_head : LabRow → LabHead
lab_head one = record {
  id = one.id;
  code = one.code;
  name = one.name;
  last = one.last;
  strays = one.stray;
  records = one.records;
  sessions = one.sessions;
  trail = one.trail;
}

abbrev pub version_head : Tables → VersionRow → VersionHead
version_head t one = record {
  id = one.id;
  number = one.number;
  format = one.format;
  opener = code_of t one.opener;
  opened = one.opened;
  reason = one.reason;
}

-- the versions of a record, in the order of their numbers
abbrev pub versions_of : Tables → ℤ → List VersionHead
versions_of t kept =
    map (version_head t)
    (sort_by by_version (filter (λ (one : VersionRow). int_eq one.kept kept) t.versions))

-- a record of a laboratory, by its number
abbrev pub is_record : ℤ → ℕ → RecordRow → Bool
is_record lab number one = int_eq one.lab lab && (one.number == number)

abbrev pub record_head : RecordRow → RecordHead
record_head one = record {
  id = one.id;
  number = one.number;
  form = one.form;
  form_code = one.form_code;
  sample = one.sample;
  current = one.current;
}
