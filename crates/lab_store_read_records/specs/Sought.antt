-- Which rows are sought, of those of all laboratories.
use Rattle.std.specs.Prelude.{ℕ, ℤ, Bool, ◌&&◌, bytes_eq, List, map, filter}
use Rattle.std.specs.Ordering.{int_eq}
use Rattle.sqlite_keyed.specs.Lists.{sort_by}
use Rattle.lab_records_kept.specs.Lookups.{is_within}
use Rattle.lab_store_tables.specs.Rows.{RecordRow, Tables}
use Rattle.lab_store_tables.specs.Meaning.{by_record}
use Rattle.lab_store_read_records.specs.declared.heads.RecordHead.{RecordHead}
use Rattle.lab_store_read_records.specs.Heads.{record_head}

-- a record of a laboratory, by the code of its form and its sample
abbrev pub is_about : ℤ → List ℕ → List ℕ → RecordRow → Bool
is_about lab form sample one =
    int_eq one.lab lab && (bytes_eq one.form_code form && bytes_eq one.sample sample)

-- a record of a laboratory, whose number lies from one to another
abbrev pub is_record_within : ℤ → ℕ → ℕ → RecordRow → Bool
is_record_within lab from to one = int_eq one.lab lab && is_within from to one.number

-- all of these, in the order of their numbers
abbrev pub heads_within : Tables → ℤ → ℕ → ℕ → List RecordHead
heads_within t lab from to =
    map record_head (sort_by by_record (filter (is_record_within lab from to) t.records))
