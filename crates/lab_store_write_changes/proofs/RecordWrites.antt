-- What each statement on records means, and what it makes of the tables.
use Rattle.std.proofs.Common.{◌≡◌, ℕ, ℤ, List, [], ◌∷◌, codes, Ok, refl, lit≤}
use Rattle.sqlite_value.specs.declared.value.Value.TheVariants.{Int}
use Rattle.sqlite_value.specs.Order.{Row}
use Rattle.sqlite_tied.specs.Compute.{everything}
use Rattle.sqlite_keyed.specs.Keyed.{next_key}
use Rattle.sqlite.specs.Listing.{understood}
use Rattle.sqlite.specs.State.{State, Executes}
use Rattle.lab_store_tables.specs.Rows.{RecordRow, record_id, VersionRow, version_id, tables_in, number}
use Rattle.lab_store_tables.specs.Changes.{put_record, put_version, set_current}
use Rattle.lab_store_tables.specs.Held.{IsTyped}
use Rattle.lab_store_tables.specs.Family.{Records, Versions}
use Rattle.lab_store_tables.proofs.FamilyWords.{values_of}
use Rattle.lab_store_write.specs.Causes.{is_writing, IsOurs}
use Rattle.lab_store_write.proofs.Inserts.{adds, adds_ours, ids}
use Rattle.lab_store_write.proofs.Updates.{IsUpdate, given, by_id, sets}
use Rattle.lab_store_write.proofs.Inside.{Wrote}
use Rattle.lab_store_write.proofs.Ours.{ours}
pub use Rattle.lab_store_write_changes.specs.Statements.{add_record_text, add_version_text}

-- ---- a row more of records

-- the columns of the row but its ids
abbrev pub record_values : RecordRow → Row
record_values = values_of Records

pub adds_record : (one : RecordRow) (old new : State) (count : ℕ) → IsTyped old.now → one.id ≡ next_key record_id (tables_in old.now.trees).records
    → Executes add_record_text (record_values one) old new (Ok count)
    → Wrote (put_record one (tables_in old.now.trees)) new.now
adds_record = adds Records

pub add_record_ours : (one : RecordRow) → IsOurs is_writing add_record_text (record_values one)
add_record_ours = adds_ours Records

-- the id that the connection tells then
pub ids_record : (one : RecordRow) (old new : State) (count : ℕ) → IsTyped old.now → Executes add_record_text (record_values one) old new (Ok count)
    → new.last_rowid ≡ next_key record_id (tables_in old.now.trees).records
ids_record = ids Records

-- ---- the current version of a record

abbrev pub current_text : List ℕ
current_text = codes "UPDATE records SET current = ?2 WHERE id = ?1"

current_is : IsUpdate Records by_id (given 1 (codes "current" ∷ [])) current_text
unfolding understood everything
current_is = ((refl, refl), refl)

pub current_ours : (id : ℤ) (version : ℕ) → IsOurs is_writing current_text (Int id ∷ number version ∷ [])
unfolding understood everything
current_ours id version = ours _ _ (lit≤ tt, refl, refl, refl, refl) refl

pub sets_current : (id : ℤ) (version : ℕ) (old new : State) (count : ℕ) → IsTyped old.now
    → Executes current_text (Int id ∷ number version ∷ []) old new (Ok count)
    → Wrote (set_current id version (tables_in old.now.trees)) new.now
sets_current id version =
    sets Records (given 1 (codes "current" ∷ [])) current_text current_is id (number version ∷ []) (λ (one : RecordRow). record one { current = version }) (λ _. refl) (λ _. refl)

-- ---- a row more of versions

-- the columns of the row but its ids
abbrev pub version_values : VersionRow → Row
version_values = values_of Versions

pub adds_version : (one : VersionRow) (old new : State) (count : ℕ) → IsTyped old.now → one.id ≡ next_key version_id (tables_in old.now.trees).versions
    → Executes add_version_text (version_values one) old new (Ok count)
    → Wrote (put_version one (tables_in old.now.trees)) new.now
adds_version = adds Versions

pub add_version_ours : (one : VersionRow) → IsOurs is_writing add_version_text (version_values one)
add_version_ours = adds_ours Versions

-- the id that the connection tells then
pub ids_version : (one : VersionRow) (old new : State) (count : ℕ) → IsTyped old.now → Executes add_version_text (version_values one) old new (Ok count)
    → new.last_rowid ≡ next_key version_id (tables_in old.now.trees).versions
ids_version = ids Versions
