-- The rows that each query shows of the tables, in its order, and what such a row is read as.
use Rattle.std.specs.Prelude.{ℕ, ℤ, List, map, filter}
use Rattle.sqlite_keyed.specs.Lists.{sort_by}
use Rattle.sqlite_value.specs.Order.{Row}
use Rattle.lab_store_tables.specs.Rows.{Tables}
use Rattle.lab_store_tables.specs.Meaning.{by_record}
use Rattle.lab_store_read_records.specs.Shown.{record_shown}
use Rattle.lab_store_read_records.specs.Sought.{is_about, is_record_within}

abbrev pub abouts_shown : Tables → ℤ → List ℕ → List ℕ → List Row
abouts_shown t lab form sample = map record_shown (filter (is_about lab form sample) t.records)

abbrev pub within_shown : Tables → ℤ → ℕ → ℕ → List Row
within_shown t lab from to =
    map record_shown (sort_by by_record (filter (is_record_within lab from to) t.records))
