-- A version that isn't read of the first row: of no row, of NULL, and of what stands in no row that a look-up shows.
use Rattle.std.proofs.Common.{◌≡◌, ◌⊎◌, inl, inr, ℕ, ℤ, ◌<◌, Bool, true, false, List, [], ◌∷◌, ◌++◌, filter, flat_map, length, slice_get, Ok, Err, Result, IfErr, IsFalse, refl, ap, subst, ◌∙◌, arith}
use Rattle.std.specs.Prelude.{IsSomeAnd}
use Rattle.sqlite_value.specs.declared.value.Value.TheVariants.{Null, Int, Real, Text, Blob}
use Rattle.sqlite_value.specs.Order.{Row, column}
use Rattle.sqlite.specs.declared.error.Error.{Error}
use Rattle.sqlite.specs.declared.error.Error.TheVariants.{SqliteFailure, QueryReturnedNoRows}
use Rattle.sqlite.specs.declared.error.ErrorCode.TheVariants as code
use Rattle.sqlite.specs.Values.{IsInt}
use Rattle.lab_store_tables.specs.Rows.{RecordRow, VersionRow, Tables}
use Rattle.lab_store_tables.specs.Changes.{is_record_row, is_version_row}
use Rattle.lab_store_read.specs.Cells.{is_id, is_optional, stands}
use Rattle.lab_store_read.specs.Faults.{is_out_of_memory}
use Rattle.lab_store_write.specs.Private.Causes.{IsVain}
use Rattle.lab_store_write_changes.specs.Private.VersionsShown.{ids_or_null, versions_shown, IsUnversioned}

-- ---- of one row

pub unread_version : (row : Row) (e : Error) → ((e ≡ SqliteFailure code.OutOfMemory → ⊥) → 0 < length row → ¬ ((column row 0 ≡ Null) ⊎ IsInt (column row 0))) → IsUnversioned (row ∷ []) e
unread_version [] e h = inr refl
unread_version (Null ∷ row) e h = by (is_out_of_memory e) refl
  where
    by : (b : Bool) → is_out_of_memory e ≡ b → IsUnversioned ((Null ∷ row) ∷ []) e
    by true is = inl (inl is)
    by false is = absurd (h (λ same. let wrong = ap is_out_of_memory same in cc) (omega arith) (inl refl))
unread_version (Int n ∷ row) e h = by (is_out_of_memory e) refl
  where
    by : (b : Bool) → is_out_of_memory e ≡ b → IsUnversioned ((Int n ∷ row) ∷ []) e
    by true is = inl (inl is)
    by false is = absurd (h (λ same. let wrong = ap is_out_of_memory same in cc) (omega arith) (inr (n, refl)))
unread_version (Real x ∷ row) e h = inr refl
unread_version (Text t ∷ row) e h = inr refl
unread_version (Blob b ∷ row) e h = inr refl

pub null_version : (row : Row) → 0 < length row → column row 0 ≡ Null → IsUnversioned (row ∷ []) QueryReturnedNoRows
null_version [] within null = absurd (omega (arith, within))
null_version (v ∷ row) within null = let is : v ≡ Null = null in rw is (inl (inr (refl, refl)))

-- ---- of some rows

abbrev IsOdd : List Row → Type 0
IsOdd rows = IsSomeAnd (slice_get rows 0) (λ row. IsFalse (stands (is_optional is_id) row 0))

module _ (which : RecordRow → ℕ) (lab : ℤ) (wanted : ℕ) (t : Tables) where
  abbrev ids : RecordRow → List Row
  ids kept = ids_or_null (filter (is_version_row kept.id (which kept)) t.versions)

  of_ids : (found : List VersionRow) (more : List Row) → ¬ IsOdd (ids_or_null found ++ more)
  of_ids [] more odd = absurd (let wrong = odd in cc)
  of_ids (one ∷ others) more odd = absurd (let wrong = odd in cc)

  none_odd : (found : List RecordRow) → ¬ IsOdd (flat_map ids found)
  none_odd [] odd = odd
  none_odd (kept ∷ more) odd = of_ids (filter (is_version_row kept.id (which kept)) t.versions) (flat_map ids more) odd

  pub unversioned_vainly : {B : Type 0} (slice rows : List Row) → slice ≡ rows → rows ≡ versions_shown which lab wanted t → (r : Result B Error) → IfErr r (IsUnversioned slice) → IfErr r (IsVain rows)
  unversioned_vainly slice rows same are (Ok one) bad = tt
  unversioned_vainly slice rows same are (Err e) bad = by (subst (λ (l : List Row). IsUnversioned l e) same bad)
    where
      by : IsUnversioned rows e → IsVain rows e
      by (inl vain) = vain
      by (inr odd) = absurd (none_odd (filter (is_record_row lab wanted) t.records) (subst IsOdd are odd))
