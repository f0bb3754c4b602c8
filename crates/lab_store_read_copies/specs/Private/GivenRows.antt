-- What clauses of private functions say beside GivenRows.antt.
use Rattle.std.specs.Prelude.{ℕ, ℤ, List, ◌++◌, None}
use Rattle.std.specs.List.{flat_map}
use Rattle.lab_records_kept.specs.declared.records.Record.{Record}
use Rattle.lab_records_kept.specs.declared.records.Version.{Version}
use Rattle.lab_records_copies.specs.CopyLines.{rows_of_lines, version_lines}
use Rattle.lab_store_tables.specs.Rows.{Tables}
use Rattle.lab_store_tables.specs.Meaning.{chained, leaves_of}
use Rattle.lab_store_read_copies.specs.GivenRows.{cover_rows}

-- ---- rows that go out

-- those of versions, one after the other
abbrev pub rows_of_versions : List ℕ → Record → List Version → List (List (List ℕ))
rows_of_versions lab cover versions = rows_of_lines (flat_map (version_lines lab cover) versions)

-- those of the versions of the record with the id, and the record's own before them
abbrev pub versions_rows : Tables → List ℕ → Record → ℤ → List (List (List ℕ))
versions_rows t lab cover kept =
    rows_of_versions lab cover (chained lab cover None (leaves_of t kept))

abbrev pub parts_rows : Tables → List ℕ → Record → ℤ → List (List (List ℕ))
parts_rows t lab cover kept = cover_rows lab cover ++ versions_rows t lab cover kept
