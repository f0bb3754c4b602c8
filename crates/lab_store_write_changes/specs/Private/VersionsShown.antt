-- What clauses of private functions say beside VersionsShown.antt.
use Rattle.std.specs.Prelude.{◌⊎◌, ℕ, ℤ, Bool, List, [], ◌∷◌, map, filter, flat_map, slice_get, IsSomeAnd, IsFalse}
use Rattle.std.specs.Ordering.{int_eq}
use Rattle.sqlite_value.specs.declared.value.Value.{Value}
use Rattle.sqlite_value.specs.declared.value.Value.TheVariants.{Null, Int}
use Rattle.sqlite_value.specs.Order.{Row, column}
use Rattle.sqlite.specs.declared.error.Error.{Error}
use Rattle.lab_store_tables.specs.Rows.{RecordRow, VersionRow, EntryRow, SignatureRow, Tables}
use Rattle.lab_store_tables.specs.Changes.{is_record_row, is_version_row}
use Rattle.lab_store_read.specs.Cells.{is_id, is_optional, stands}
use Rattle.lab_store_write.specs.Private.Causes.{IsVain}

abbrev pub records_shown : ℤ → ℕ → Tables → List Row
records_shown lab wanted t =
    map (λ (one : RecordRow). Int one.id ∷ [])
    (filter (is_record_row lab wanted) t.records)

-- ---- a version of the record of a number; the version's number may stand in the record

-- the ids of versions, or a row of NULL where there are none
abbrev pub ids_or_null : List VersionRow → List Row
ids_or_null [] = (Null ∷ []) ∷ []
ids_or_null (one ∷ others) = map (λ (one : VersionRow). Int one.id ∷ []) (one ∷ others)

-- for each record of the number its rows, so that the first row is the first record's
abbrev pub versions_shown : (RecordRow → ℕ) → ℤ → ℕ → Tables → List Row
versions_shown which lab wanted t =
    flat_map (λ (kept : RecordRow).
    ids_or_null (filter (is_version_row kept.id (which kept)) t.versions))
    (filter (is_record_row lab wanted) t.records)

-- ---- rows of one parent

abbrev pub is_entry_of : ℤ → EntryRow → Bool
is_entry_of version one = int_eq one.version version

abbrev pub is_signature_of : ℤ → SignatureRow → Bool
is_signature_of version one = int_eq one.version version

-- ---- what is read of a row

abbrev pub first_value : Row → Value
first_value row = column row 0

-- why no version is read of the first row: there is none, or NULL stands there, or no id
abbrev pub IsUnversioned : List Row → Error → Type 0
IsUnversioned rows e =
    IsVain rows e ⊎ IsSomeAnd (slice_get rows 0) (λ row. IsFalse (stands (is_optional is_id) row 0))
