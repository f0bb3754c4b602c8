-- Values from outside, computed on the definitions over the small file of lab_store_tables: which rows a
-- look-up shows, in the order of their ids, and the row that each call adds (docs/TABLES.md).
use Rattle.std.proofs.Common.{◌≡◌, ◌++◌, ℤ, pos, [], ◌∷◌, Some, None, refl}
use Rattle.std.specs.Prelude.{codes}
use Rattle.sqlite_value.specs.declared.value.Value.TheVariants.{Null, Int}
use Rattle.sqlite_value.specs.Order.{Row}
use Rattle.lab_seal_versions.specs.declared.seals.Meaning.TheVariants.{Rejection}
use Rattle.lab_seal_versions.specs.declared.rows.EntryRow.{EntryRow as Entry}
use Rattle.lab_records_kept.specs.declared.records.Signature.{Signature}
use Rattle.lab_records_kept.proofs.KnownDefaults.{bare_entry, bare_signature}
use Rattle.lab_store_tables.proofs.KnownFile.{filled, file, entry, signature}
use Rattle.lab_store_write_changes.specs.Private.EntriesAdded.{with_entry, with_signature}
use Rattle.lab_store_write_changes.specs.Private.VersionsShown.{records_shown, versions_shown}
use Rattle.lab_store_write_changes.specs.VersionsShown.{current_of, version_in_record}
use Rattle.lab_store_write_changes.proofs.VersionsShownWords.{entries_shown, signatures_shown}

-- a row that shows an id
abbrev shown : ℤ → Row
shown id = Int id ∷ []

-- ---- look-ups

-- of the one laboratory and the number alone
pub known_keys : (records_shown (pos 7) 1 file ≡ shown (pos 3) ∷ []) × (records_shown (pos 3) 2 file ≡ [])
known_keys = (refl, refl)

-- the current version, or another one; NULL where the record has none of the number, and no row where there is no record
pub known_versions : (versions_shown current_of (pos 7) 1 file ≡ shown (pos 3) ∷ []) × (versions_shown (λ _. 1) (pos 7) 1 file ≡ shown (pos 1) ∷ [])
    × (versions_shown current_of (pos 3) 1 file ≡ shown (pos 2) ∷ []) × (versions_shown (λ _. 3) (pos 7) 1 file ≡ (Null ∷ []) ∷ [])
    × (versions_shown current_of (pos 3) 2 file ≡ []) × (version_in_record current_of file (pos 7) 1 ≡ Some (pos 3))
    × (version_in_record (λ _. 3) file (pos 7) 1 ≡ None) × (version_in_record current_of file (pos 3) 2 ≡ None)
known_versions = (refl, refl, refl, refl, refl, refl, refl, refl)

-- in the order of their ids, which isn't that of their places
pub known_parents : (entries_shown (pos 1) file ≡ shown (pos 1) ∷ shown (pos 2) ∷ shown (pos 5) ∷ [])
    × (entries_shown (pos 4) file ≡ []) × (signatures_shown (pos 2) file ≡ shown (pos 3) ∷ shown (pos 4) ∷ [])
known_parents = (refl, refl, refl)

-- ---- rows more: each has the next id of its table, whichever its place is

abbrev pub noted : Entry
noted = record bare_entry {
  key = codes "note";
  value = codes "new";
  person = codes "dan";
  moment = 1500;
  reason = Some (codes "forgotten");
}

abbrev pub rejected : Signature
rejected = record bare_signature {
  person = codes "eve";
  name = codes "Eve Eden";
  meaning = Rejection (codes "smudged");
  moment = 1600;
  digest = filled 32 21;
  seal = filled 32 27;
}

pub known_leaves :
    ((with_entry (pos 3) 2 (pos 2) noted file).entries
    ≡ file.entries ++ entry (pos 6) (pos 3) 2 (codes "note") (codes "new") [] (pos 2) 1500 (Some (codes "forgotten")) ∷ [])
    × ((with_signature (pos 1) 3 (pos 6) rejected file).signatures
    ≡ file.signatures
    ++ signature (pos 5) (pos 1) 3 (pos 6) (codes "Eve Eden") (codes "rejection") 1600 (Some (codes "smudged")) (filled 32 21) (filled 32 27)
    ∷ [])
known_leaves = (refl, refl)
