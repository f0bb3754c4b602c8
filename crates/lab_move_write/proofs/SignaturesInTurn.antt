-- Signatures that are added in turn to one version stand in it in turn, behind those that it has, and no other version sees one.
use Rattle.std.proofs.Common.{◌≡◌, ◌≤◌, ◌<◌, ℕ, ◌+◌, ℤ, true, cond, List, [], ◌∷◌, ◌++◌, filter, length, Some, refl, ap, subst, ◌∙◌, int_eq, arith}
use Rattle.sqlite_keyed.specs.Keyed.{IsKeyedBy}
use Rattle.sqlite_keyed.proofs.ListLemmas.{all_weaker}
use Rattle.sqlite_keyed.proofs.KeyedLemmas.{IsKeyedBy-insert_by}
use Rattle.lab_records_kept.specs.declared.records.Signature.{Signature}
use Rattle.lab_store_tables.specs.Rows.{SignatureRow, Tables, person_id, signature_id}
use Rattle.lab_store_tables.specs.Meaning.{signature_in, signatures_of}
use Rattle.lab_store_tables.specs.WellKept.{have_own_ids}
use Rattle.lab_store_tables.specs.Changes.{IsFree, InTurn, AddsSignature, person_named, signature_row_of, put_signature}
use Rattle.lab_store_tables.proofs.EntriesInTurn.{nothing_more, one_more}
use Rattle.lab_store_tables.proofs.ColumnsBack.{meaning_back}
use Rattle.lab_store_tables.proofs.LabLaws.{alike}
use Rattle.lab_store_tables.proofs.TrailLaws.{code_named}
use Rattle.lab_store_tables.proofs.NextLaws.{next_last, AreWithin, within_next}

abbrev pub version_of : SignatureRow → ℤ
version_of one = one.version

abbrev pub place_of : SignatureRow → ℕ
place_of one = one.place

-- ---- one signature

module _ (t : Tables) (rise : IsKeyedBy signature_id t.signatures) (own : have_own_ids person_id t.persons ≡ true)
    (lab version id : ℤ) (free : IsFree signature_id t.signatures id) (signature : Signature) (person : ℤ)
    (named : person_named t lab signature.person ≡ Some person)
    (within : AreWithin signature_id version_of place_of version t.signatures) where
  abbrev new : SignatureRow
  new = signature_row_of t version id person signature

  abbrev mine : List SignatureRow
  mine = filter (λ (one : SignatureRow). int_eq one.version version) t.signatures

  signature_back : signature_in t new ≡ signature
  signature_back = λ i. record signature {
    person = code_named t own lab signature.person person named i;
    meaning = meaning_back signature.meaning i;
  }

  signature_next : (of : ℤ) → signatures_of (put_signature new t) of ≡ cond (int_eq of version) (signatures_of t of ++ signature ∷ []) (signatures_of t of)
  signature_next of =
      next_last signature_id version_of place_of (signature_in t) t.signatures rise new free
      (all_weaker (λ (one : SignatureRow). one.place ≤ length mine) (λ (one : SignatureRow). one.place < length mine + 1) (λ one h. omega (arith, h)) mine within) of
      ∙ ap (λ one. cond (int_eq of version) (signatures_of t of ++ one ∷ []) (signatures_of t of)) signature_back

-- ---- and all of them

-- what stands in the version afterwards, and what of the tables has changed
pub record AreSigned (version : ℤ) (signatures : List Signature) (t new : Tables) : Type 0 where
  pub written : List SignatureRow
  pub made : new ≡ record t { signatures = written }
  pub has : (of : ℤ) → signatures_of (record t { signatures = written }) of ≡ cond (int_eq of version) (signatures_of t of ++ signatures) (signatures_of t of)

pub signed_in_turn : (lab version : ℤ) (signatures : List Signature) (t new : Tables) → IsKeyedBy signature_id t.signatures
    → have_own_ids person_id t.persons ≡ true → AreWithin signature_id version_of place_of version t.signatures
    → InTurn (AddsSignature lab version) signatures t new → AreSigned version signatures t new
signed_in_turn lab version [] t after rise own within it = record {
  written = t.signatures;
  made = it;
  has = λ of. nothing_more (int_eq of version) (signatures_of t of);
}
signed_in_turn lab version (one ∷ others) t after rise own within it =
    let row = signature_row_of t version it.1.id it.1.person one in
    let more = signed_in_turn lab version others (put_signature row t) after (IsKeyedBy-insert_by signature_id t.signatures row rise) own
    (within_next signature_id version_of place_of version t.signatures rise row it.1.free (alike version version refl) refl within)
    (subst (λ m. InTurn (AddsSignature lab version) others m after) it.1.made it.2) in
    record {
      written = more.written;
      made = more.made;
      has = λ of. more.has of
          ∙ one_more (int_eq of version) (signatures_of t of) (signatures_of (put_signature row t) of) one others
          (signature_next t rise own lab version it.1.id it.1.free one it.1.person it.1.named within of);
    }
