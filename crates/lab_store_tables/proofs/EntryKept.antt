-- An entry and a signature more in a version of a record: the tables stay well kept.
use Rattle.std.proofs.Common.{◌≡◌, ℕ, ℤ, true, List, Some, refl, sym, ap, subst}
use Rattle.lab_seal_versions.specs.declared.rows.EntryRow.{EntryRow as Entry}
use Rattle.lab_seal_versions.specs.Seals.{meaning_word}
use Rattle.lab_records_kept.specs.declared.records.Signature.{Signature}
use Rattle.lab_records_kept.specs.declared.changes.Change.TheVariants.{RowAdded, SignatureAdded}
use Rattle.lab_store_tables.specs.Rows.{Tables, person_id, entry_id, signature_id}
use Rattle.lab_store_tables.specs.Family.{Entries, Signatures}
use Rattle.lab_store_tables.specs.Columns.{reason_column}
use Rattle.lab_store_tables.specs.WellKept.{have_own_ids, lab_of_person, lab_of_version, IsSignatureSpelled, AreWellKept}
use Rattle.lab_store_tables.specs.Changes.{IsFree, person_named, entry_row_of, put_entry, signature_row_of, put_signature, Applies}
use Rattle.lab_store_tables.proofs.ColumnsBack.{meaning_back}
use Rattle.lab_store_tables.specs.ByRules.{IsByRules}
use Rattle.lab_store_tables.proofs.Kept.{AreRowsKept, AreAllKept, all_kept, well_kept}
use Rattle.lab_store_tables.proofs.Ids.{own_ids}
use Rattle.lab_store_tables.proofs.Named.{of_same, named_lab, record_lab, version_lab}
use Rattle.lab_store_tables.proofs.Puts.{put_kept}

module _ (t : Tables) (own : have_own_ids person_id t.persons ≡ true) (lab version : ℤ) (its : lab_of_version t version ≡ Some lab) (id person : ℤ) where
  pub entry_more : (entry : Entry) → IsFree entry_id t.entries id → person_named t lab entry.person ≡ Some person → AreRowsKept t
      → AreRowsKept (put_entry (entry_row_of t version id person entry) t)
  entry_more entry free named kept =
      put_kept Entries t (entry_row_of t version id person entry) free
      (of_same (lab_of_person t person) (lab_of_version t version) lab (named_lab t own lab entry.person person named) its) refl kept

  signature_spelled : (signature : Signature) → IsSignatureSpelled (signature_row_of t version id person signature)
  signature_spelled signature = (ap meaning_word (meaning_back signature.meaning), ap reason_column (meaning_back signature.meaning))

  pub signature_more : (signature : Signature) → IsFree signature_id t.signatures id → person_named t lab signature.person ≡ Some person → AreRowsKept t
      → AreRowsKept (put_signature (signature_row_of t version id person signature) t)
  signature_more signature free named kept =
      put_kept Signatures t (signature_row_of t version id person signature) free
      (of_same (lab_of_person t person) (lab_of_version t version) lab (named_lab t own lab signature.person person named) its, signature_spelled signature) refl kept

-- a row in the last version of a record
pub row_added_keeps : {old new : Tables} {code : List ℕ} {number : ℕ} {entry : Entry} → AreWellKept old → IsByRules new
    → Applies code (RowAdded number entry) old new → AreWellKept new
row_added_keeps {old} {new} {code} {number} {entry} well rules it =
    let ids = own_ids old well.ids in
    let its = version_lab old ids.versions it.made.kept.id it.made.kept.current it.made.version it.lab.id it.made.last
    (record_lab old ids.records it.lab.id number it.made.kept it.made.found) in
    let kept = all_kept old well in
    well_kept new rules (subst AreAllKept (sym it.made.added.made) (record {
      rows =
          entry_more old ids.persons it.lab.id it.made.version its it.made.added.id it.made.added.person entry it.made.added.free it.made.added.named kept.rows;
      counters = kept.counters;
      currents = kept.currents;
    }))

-- a signature of a version of a record
pub signature_added_keeps : {old new : Tables} {code : List ℕ} {number version : ℕ} {signature : Signature} → AreWellKept old → IsByRules new
    → Applies code (SignatureAdded number version signature) old new → AreWellKept new
signature_added_keeps {old} {new} {code} {number} {version} {signature} well rules it =
    let ids = own_ids old well.ids in
    let its = version_lab old ids.versions it.made.kept.id version it.made.signed it.lab.id it.made.there
    (record_lab old ids.records it.lab.id number it.made.kept it.made.found) in
    let kept = all_kept old well in
    well_kept new rules (subst AreAllKept (sym it.made.added.made) (record {
      rows =
          signature_more old ids.persons it.lab.id it.made.signed its it.made.added.id it.made.added.person signature it.made.added.free it.made.added.named
          kept.rows;
      counters = kept.counters;
      currents = kept.currents;
    }))
