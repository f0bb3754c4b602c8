-- An entry or a signature more in a version, and a choice more in a field: it stands behind those that were there, and no
-- other version or field sees it.
use Rattle.std.proofs.Common.{◌≡◌, ℕ, ℤ, Bool, true, false, cond, List, [], ◌∷◌, ◌++◌, Some, refl, ap, ◌∙◌, int_eq}
use Rattle.std.proofs.lemmas.Bool.{and_parts}
use Rattle.lab_seal_versions.specs.declared.rows.EntryRow.{EntryRow as Entry}
use Rattle.lab_records_kept.specs.declared.records.Signature.{Signature}
use Rattle.lab_store_tables.specs.Rows.{VersionRow, ChoiceRow, EntryRow, SignatureRow, Tables, choice_id, entry_id, signature_id}
use Rattle.lab_store_tables.specs.Meaning.{names_of, entry_in, entries_of, signature_in, signatures_of, leaf_in}
use Rattle.lab_store_tables.specs.WellKept.{are_ids_unique, are_all_numbered}
use Rattle.lab_store_tables.specs.Changes.{IsFree, person_named, entry_row_of, put_entry, signature_row_of, put_signature, choice_row_of, put_choice}
use Rattle.lab_store_tables.specs.Held.{AreRising}
use Rattle.lab_store_tables.specs.Family.{Choices, Entries, Signatures}
use Rattle.lab_store_tables.proofs.ChainWords.{entered_leaf, signed_leaf}
use Rattle.lab_store_tables.proofs.ColumnsBack.{meaning_back}
use Rattle.lab_store_tables.proofs.NumberLaws.{numbered_last}
use Rattle.lab_store_tables.proofs.TrailLaws.{persons_own, code_named}

-- ---- an entry

module _ (t : Tables) (rising : AreRising t) (ids : are_ids_unique t ≡ true) (numbered : are_all_numbered t ≡ true) (lab version id : ℤ) (free : IsFree entry_id t.entries id)
    (entry : Entry) (person : ℤ) (named : person_named t lab entry.person ≡ Some person) where
  abbrev new_entry : EntryRow
  new_entry = entry_row_of t version id person entry

  entry_back : entry_in t new_entry ≡ entry
  entry_back = λ i. record entry { person = code_named t (persons_own t ids) lab entry.person person named i }

  pub entries_law : (of : ℤ) → entries_of (put_entry new_entry t) of ≡ cond (int_eq of version) (entries_of t of ++ entry ∷ []) (entries_of t of)
  entries_law of =
      numbered_last entry_id (λ (one : EntryRow). one.version) (λ (one : EntryRow). one.place) (entry_in t) t.entries (rising.at Entries)
      (and_parts _ _ (and_parts _ _ (and_parts _ _ numbered).0).0).1 new_entry free refl of
      ∙ ap (λ one. cond (int_eq of version) (entries_of t of ++ one ∷ []) (entries_of t of)) entry_back

  pub entered_law : (row : VersionRow) → leaf_in (put_entry new_entry t) row ≡ cond (int_eq row.id version) (entered_leaf entry (leaf_in t row)) (leaf_in t row)
  entered_law row = go (int_eq row.id version) (entries_law row.id)
    where
      go : (b : Bool) → entries_of (put_entry new_entry t) row.id ≡ cond b (entries_of t row.id ++ entry ∷ []) (entries_of t row.id)
          → leaf_in (put_entry new_entry t) row ≡ cond b (entered_leaf entry (leaf_in t row)) (leaf_in t row)
      go true law = λ i. record (leaf_in t row) { rows = law i }
      go false law = λ i. record (leaf_in t row) { rows = law i }

-- ---- a signature

module _ (t : Tables) (rising : AreRising t) (ids : are_ids_unique t ≡ true) (numbered : are_all_numbered t ≡ true) (lab version id : ℤ) (free : IsFree signature_id t.signatures id)
    (signature : Signature) (person : ℤ) (named : person_named t lab signature.person ≡ Some person) where
  abbrev new_signature : SignatureRow
  new_signature = signature_row_of t version id person signature

  signature_back : signature_in t new_signature ≡ signature
  signature_back = λ i. record signature {
    person = code_named t (persons_own t ids) lab signature.person person named i;
    meaning = meaning_back signature.meaning i;
  }

  pub signatures_law : (of : ℤ) → signatures_of (put_signature new_signature t) of ≡ cond (int_eq of version) (signatures_of t of ++ signature ∷ []) (signatures_of t of)
  signatures_law of =
      numbered_last signature_id (λ (one : SignatureRow). one.version) (λ (one : SignatureRow). one.place) (signature_in t) t.signatures (rising.at Signatures)
      (and_parts _ _ (and_parts _ _ numbered).0).1 new_signature free refl of
      ∙ ap (λ one. cond (int_eq of version) (signatures_of t of ++ one ∷ []) (signatures_of t of)) signature_back

  pub signed_law : (row : VersionRow) → leaf_in (put_signature new_signature t) row ≡ cond (int_eq row.id version) (signed_leaf signature (leaf_in t row)) (leaf_in t row)
  signed_law row = go (int_eq row.id version) (signatures_law row.id)
    where
      go : (b : Bool) → signatures_of (put_signature new_signature t) row.id ≡ cond b (signatures_of t row.id ++ signature ∷ []) (signatures_of t row.id)
          → leaf_in (put_signature new_signature t) row ≡ cond b (signed_leaf signature (leaf_in t row)) (leaf_in t row)
      go true law = λ i. record (leaf_in t row) { signatures = law i }
      go false law = λ i. record (leaf_in t row) { signatures = law i }

-- ---- a choice

module _ (t : Tables) (rising : AreRising t) (numbered : are_all_numbered t ≡ true) (field id : ℤ) (free : IsFree choice_id t.choices id) (name : List ℕ) where
  pub names_law : (of : ℤ) → names_of (put_choice (choice_row_of t field id name) t) of ≡ cond (int_eq of field) (names_of t of ++ name ∷ []) (names_of t of)
  names_law of =
      numbered_last choice_id (λ (one : ChoiceRow). one.field) (λ (one : ChoiceRow). one.place) (λ (one : ChoiceRow). one.name) t.choices (rising.at Choices)
      (and_parts _ _ (and_parts _ _ (and_parts _ _ (and_parts _ _ (and_parts _ _ (and_parts _ _ numbered).0).0).0).0).0).1 (choice_row_of t field id name) free refl of
