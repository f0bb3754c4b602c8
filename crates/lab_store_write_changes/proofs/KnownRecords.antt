-- Values from outside, computed on the definitions over the small file of lab_store_tables: which form a
-- look-up shows, and the row that each call adds (docs/TABLES.md).
use Rattle.std.proofs.Common.{◌≡◌, ◌++◌, ℤ, pos, [], ◌∷◌, None, refl}
use Rattle.std.specs.Prelude.{codes}
use Rattle.sqlite_value.specs.declared.value.Value.TheVariants.{Int}
use Rattle.sqlite_value.specs.Order.{Row}
use Rattle.lab_store_tables.proofs.KnownFile.{filled, file, filed, version}
use Rattle.lab_store_tables.proofs.KnownValues.{aqua_record, older_version}
use Rattle.lab_store_write_changes.specs.RecordsAdded.{with_record, with_version}
use Rattle.lab_store_write_changes.specs.Private.FormsShown.{forms_shown}
use Rattle.lab_store_write_changes.specs.Private.Texts.{amendment_reason}

-- a row that shows an id
abbrev shown : ℤ → Row
shown id = Int id ∷ []

-- of the one laboratory, the code and the version alone
pub known_keys : (forms_shown (pos 7) (codes "water") 1 file ≡ shown (pos 1) ∷ [])
    × (forms_shown (pos 3) (codes "water") 1 file ≡ shown (pos 2) ∷ [])
    × (forms_shown (pos 7) (codes "water") 3 file ≡ [])
known_keys = (refl, refl, refl)

-- a record's versions are rows of their own; the record says how many it has
pub known_parts :
    ((with_record (pos 7) (pos 1) (aqua_record 3 (codes "S3") (older_version ∷ [])) file).records
    ≡ file.records ++ filed (pos 4) (pos 7) 3 (pos 1) (codes "water") (codes "S3") 1 ∷ [])
    × ((with_version (pos 4) (pos 2) older_version file).versions
    ≡ file.versions ++ version (pos 5) (pos 4) 1 1 (pos 2) 1450 None ∷ [])
known_parts = (refl, refl)

-- why a version amends the one before it, and not which it amends
pub known_reason : amendment_reason (record { previous = filled 32 21; reason = codes "one decimal is meant" })
    ≡ codes "one decimal is meant"
known_reason = refl
