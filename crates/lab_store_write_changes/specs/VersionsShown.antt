-- What each look-up shows: the rows that have a key or a parent, by their ids, or NULL where a
-- record has no such version.
use Rattle.std.specs.Prelude.{ℕ, ℤ, Option, option_and_then}
use Rattle.lab_store_tables.specs.Rows.{RecordRow, Tables}
use Rattle.lab_store_tables.specs.Changes.{record_named, version_named}

-- ---- a version of the record of a number; the version's number may stand in the record

abbrev pub current_of : RecordRow → ℕ
current_of kept = kept.current

abbrev pub version_in_record : (RecordRow → ℕ) → Tables → ℤ → ℕ → Option ℤ
version_in_record which t lab wanted =
    option_and_then (λ (kept : RecordRow). version_named t kept.id (which kept))
    (record_named t lab wanted)
