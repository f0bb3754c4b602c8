-- A row more in the last version of a record, and a signature more in one of its versions: the record has it there, no other
-- record or laboratory sees it, and no version's digest but the last one's depends on it.
use Rattle.std.proofs.Common.{◌≡◌, ℕ, ℤ, Bool, true, false, ◌==◌, cond, List, [], ◌∷◌, filter, find, length, Option, Some, None, option_map, unwrap_or, refl, sym, ap, subst, ◌∙◌, int_eq}
use Rattle.std.proofs.lemmas.Bool.{and_parts, eqb-true}
use Rattle.sqlite_rules.specs.Lists.{Has}
use Rattle.sqlite_rules.proofs.ListLemmas.{has_found}
use Rattle.sqlite_keyed.specs.Lists.{update_where}
use Rattle.sqlite_keyed.proofs.KeyedLemmas.{same_int}
use Rattle.lab_seal_versions.specs.declared.rows.EntryRow.{EntryRow as Entry}
use Rattle.lab_records_kept.specs.declared.records.Record.{Record}
use Rattle.lab_records_kept.specs.declared.records.Signature.{Signature}
use Rattle.lab_records_kept.specs.declared.records.Version.{Version}
use Rattle.lab_records_kept.specs.declared.changes.Change.TheVariants.{RowAdded, SignatureAdded}
use Rattle.lab_records_kept.specs.Changes.{change, in_record, in_last, in_version, with_row, with_signature, entered_in, signed_in}
use Rattle.lab_records_keeper.specs.Worlds.{Changes}
use Rattle.lab_store_tables.specs.Rows.{LabRow, RecordRow, VersionRow, Tables, version_id}
use Rattle.lab_store_tables.specs.Meaning.{Leaf, lab_in, has_code, meaning, leaf_in, by_version, leaves_of, chained, cover_in, record_in, by_record, records_of}
use Rattle.lab_store_tables.specs.WellKept.{AreWellKept}
use Rattle.lab_store_tables.specs.Changes.{is_record_row, record_named, is_version_row, version_named, entry_row_of, put_entry, signature_row_of, put_signature, AddsEntry, AddsSignature, Applies}
use Rattle.lab_store_tables.specs.Held.{AreRising}
use Rattle.lab_store_tables.proofs.ChainWords.{entered_leaf, signed_leaf, is_leaf}
use Rattle.lab_store_tables.proofs.LevelLaws.{had_by}
use Rattle.lab_store_tables.proofs.LabLaws.{alike, rows_changed}
use Rattle.lab_store_tables.proofs.PartLaws.{entered_law, signed_law}
use Rattle.lab_store_tables.proofs.ChainLaws.{chained_signed}
use Rattle.lab_store_tables.proofs.KeptParts.{KeptParts, parts_kept}
use Rattle.lab_store_tables.proofs.RecordSet.{other_records, own_records, other_leaves, own_leaves, leaves_apart, current_counted, IsLastLeaf, chained_at_end, at_end}

-- ---- a record's row and one of its versions, as they were found

module _ (t : Tables) (lab : ℤ) (number : ℕ) (kept : RecordRow) (kept_found : record_named t lab number ≡ Some kept) where
  pub record_there : Has t.records kept
  record_there = (has_found (is_record_row lab number) t.records kept kept_found).0

  parted : (int_eq kept.lab lab ≡ true) × ((kept.number == number) ≡ true)
  parted = and_parts (int_eq kept.lab lab) (kept.number == number) (has_found (is_record_row lab number) t.records kept kept_found).1

  pub lab_is : kept.lab ≡ lab
  lab_is = same_int kept.lab lab parted.0

  pub number_is : kept.number ≡ number
  number_is = eqb-true kept.number number parted.1

module _ (t : Tables) (kept : ℤ) (number : ℕ) (top : VersionRow) (top_found : find (is_version_row kept number) t.versions ≡ Some top) where
  version_there : Has t.versions top
  version_there = (has_found (is_version_row kept number) t.versions top top_found).0

  split : (int_eq top.kept kept ≡ true) × ((top.number == number) ≡ true)
  split = and_parts (int_eq top.kept kept) (top.number == number) (has_found (is_version_row kept number) t.versions top top_found).1

  kept_is : top.kept ≡ kept
  kept_is = same_int top.kept kept split.0

  wanted_is : top.number ≡ number
  wanted_is = eqb-true top.number number split.1

-- a version that is named is there
version_found : (t : Tables) (kept : ℤ) (number : ℕ) (id : ℤ) → version_named t kept number ≡ Some id
    → (top : VersionRow) × (find (is_version_row kept number) t.versions ≡ Some top) × (top.id ≡ id)
version_found t kept number id named = go (find (is_version_row kept number) t.versions) refl named
  where
    go : (o : Option VersionRow) → find (is_version_row kept number) t.versions ≡ o → option_map version_id o ≡ Some id
        → (top : VersionRow) × (find (is_version_row kept number) t.versions ≡ Some top) × (top.id ≡ id)
    go None e h = absurd cc
    go (Some top) e h = (top, e, ap (λ (o : Option ℤ). unwrap_or o top.id) h)

-- ---- what becomes of one of its versions becomes of the record

module _ (t : Tables) (parts : KeptParts t) (lab : ℤ) (number : ℕ) (kept : RecordRow) (kept_found : record_named t lab number ≡ Some kept)
    (wanted : ℕ) (top : VersionRow) (top_found : find (is_version_row kept.id wanted) t.versions ≡ Some top)
    (next : VersionRow → Leaf) (f : Leaf → Leaf) (law : (one : VersionRow) → next one ≡ cond (int_eq one.id top.id) (f (leaf_in t one)) (leaf_in t one))
    (g : List Version → List Version) (chains : (code : List ℕ) (cover : Record)
    → chained code cover None (update_where (is_leaf top.number) f (leaves_of t kept.id)) ≡ g (chained code cover None (leaves_of t kept.id))) where
  abbrev next_leaves : ℤ → List Leaf
  next_leaves of = had_by (λ (one : VersionRow). one.kept) by_version next t.versions of

  abbrev next_record : List ℕ → RecordRow → Record
  next_record code one = record (cover_in t one) { versions = chained code (cover_in t one) None (next_leaves one.id) }

  abbrev with_versions : Record → Record
  with_versions one = record one { versions = g one.versions }

  elsewhere : (one : VersionRow) → Has t.versions one → int_eq one.id top.id ≡ false → next one ≡ leaf_in t one
  elsewhere one has other = law one ∙ ap (λ b. cond b (f (leaf_in t one)) (leaf_in t one)) other

  here : next top ≡ f (leaf_in t top)
  here = law top ∙ ap (λ b. cond b (f (leaf_in t top)) (leaf_in t top)) (alike top.id top.id refl)

  leaves_here : next_leaves kept.id ≡ update_where (is_leaf top.number) f (leaves_of t kept.id)
  leaves_here =
      subst (λ l. next_leaves l ≡ update_where (is_leaf top.number) f (leaves_of t l)) (kept_is t kept.id wanted top top_found)
      (own_leaves t parts top (version_there t kept.id wanted top top_found) next elsewhere f here)

  record_here : (code : List ℕ) → next_record code kept ≡ with_versions (record_in t code kept)
  record_here code = λ i. record (cover_in t kept) { versions = (ap (chained code (cover_in t kept) None) leaves_here ∙ chains code (cover_in t kept)) i }

  record_elsewhere : (code : List ℕ) (one : RecordRow) → Has t.records one → int_eq one.id kept.id ≡ false → next_record code one ≡ record_in t code one
  record_elsewhere code one has other = λ i. record (cover_in t one) {
    versions = ap (chained code (cover_in t one) None)
        (other_leaves t parts top (version_there t kept.id wanted top top_found) next elsewhere one.id
        (ap (int_eq one.id) (kept_is t kept.id wanted top top_found) ∙ other)) i;
  }

  pub its_records : (code : List ℕ) (of : ℤ) → had_by (λ (one : RecordRow). one.lab) by_record (next_record code) t.records of
      ≡ cond (int_eq of lab) (in_record number with_versions (records_of t code of)) (records_of t code of)
  its_records code of = go (int_eq of lab) refl
    where
      go : (b : Bool) → int_eq of lab ≡ b → had_by (λ (one : RecordRow). one.lab) by_record (next_record code) t.records of
          ≡ cond b (in_record number with_versions (records_of t code of)) (records_of t code of)
      go true e =
          subst (λ l. had_by (λ (one : RecordRow). one.lab) by_record (next_record code) t.records l ≡ in_record number with_versions (records_of t code l))
          (lab_is t lab number kept kept_found ∙ sym (same_int of lab e))
          (own_records t parts kept (record_there t lab number kept kept_found) code (next_record code) (record_elsewhere code) with_versions (record_here code)
          ∙ ap (λ n. in_record n with_versions (records_of t code kept.lab)) (number_is t lab number kept kept_found))
      go false e =
          other_records t parts kept (record_there t lab number kept kept_found) code (next_record code) (record_elsewhere code) of
          (ap (int_eq of) (lab_is t lab number kept kept_found) ∙ e)

-- ---- a row more

module _ (t : Tables) (rising : AreRising t) (well : AreWellKept t) (code : List ℕ) (row : LabRow) (found : find (has_code code) t.labs ≡ Some row)
    (number : ℕ) (kept : RecordRow) (kept_found : record_named t row.id number ≡ Some kept)
    (top : VersionRow) (top_found : find (is_version_row kept.id kept.current) t.versions ≡ Some top)
    (entry : Entry) (new : Tables) (added : AddsEntry row.id top.id entry t new) where
  abbrev entered : Tables
  entered = put_entry (entry_row_of t top.id added.id added.person entry) t

  -- the version that `current` names is the last
  is_last : IsLastLeaf top.number (leaves_of t kept.id)
  is_last =
      subst (λ l. IsLastLeaf top.number (leaves_of t l)) (kept_is t kept.id kept.current top top_found)
      (at_end t (parts_kept t well) top (version_there t kept.id kept.current top top_found)
      (wanted_is t kept.id kept.current top top_found ∙ current_counted t (parts_kept t well) kept (record_there t row.id number kept kept_found)
      ∙ ap (λ k. length (filter (λ (one : VersionRow). int_eq one.kept k) t.versions)) (sym (kept_is t kept.id kept.current top top_found))))

  entered_records : (of : List ℕ) (lab : ℤ) → records_of entered of lab
      ≡ cond (int_eq lab row.id) (in_record number (entered_in entry) (records_of t of lab)) (records_of t of lab)
  entered_records =
      its_records t (parts_kept t well) row.id number kept kept_found kept.current top top_found (leaf_in entered) (entered_leaf entry)
      (entered_law t rising well.ids well.numbered row.id top.id added.id added.free entry added.person added.named) (in_last (with_row entry))
      (λ of cover. chained_at_end of cover top.number entry None (leaves_of t kept.id) is_last)

  entered_lab : (lab : LabRow) → lab_in entered lab ≡ cond (int_eq lab.id row.id) (change (lab_in t lab) (RowAdded number entry)) (lab_in t lab)
  entered_lab lab = go (int_eq lab.id row.id) (entered_records lab.code lab.id)
    where
      go : (b : Bool) → records_of entered lab.code lab.id
          ≡ cond b (in_record number (entered_in entry) (records_of t lab.code lab.id)) (records_of t lab.code lab.id)
          → lab_in entered lab ≡ cond b (change (lab_in t lab) (RowAdded number entry)) (lab_in t lab)
      go true law = λ i. record (lab_in t lab) { records = law i }
      go false law = λ i. record (lab_in t lab) { records = law i }

  entered_changes : Changes code (RowAdded number entry ∷ []) (meaning t) (meaning new)
  entered_changes =
      subst (λ tables. Changes code (RowAdded number entry ∷ []) (meaning t) (meaning tables)) (sym added.made)
      (rows_changed t entered refl (parts_kept t well).ids.labs code row found (RowAdded number entry) entered_lab)

-- a row in the last version of a record stands there behind the others, and nowhere else
pub row_is_added : {old new : Tables} {code : List ℕ} {number : ℕ} {entry : Entry} → AreRising old → AreWellKept old
    → Applies code (RowAdded number entry) old new → Changes code (RowAdded number entry ∷ []) (meaning old) (meaning new)
row_is_added {old} {new} {code} {number} {entry} rising well it =
    let step = it.made in
    let top = version_found old step.kept.id step.kept.current step.version step.last in
    entered_changes old rising well code it.lab it.found number step.kept step.found top.0 top.1 entry new
    (subst (λ v. AddsEntry it.lab.id v entry old new) (sym top.2) step.added)

-- ---- a signature more

module _ (t : Tables) (rising : AreRising t) (well : AreWellKept t) (code : List ℕ) (row : LabRow) (found : find (has_code code) t.labs ≡ Some row)
    (number : ℕ) (kept : RecordRow) (kept_found : record_named t row.id number ≡ Some kept)
    (version : ℕ) (top : VersionRow) (top_found : find (is_version_row kept.id version) t.versions ≡ Some top)
    (signature : Signature) (new : Tables) (added : AddsSignature row.id top.id signature t new) where
  abbrev signed : Tables
  signed = put_signature (signature_row_of t top.id added.id added.person signature) t

  signed_records : (of : List ℕ) (lab : ℤ) → records_of signed of lab
      ≡ cond (int_eq lab row.id) (in_record number (signed_in version signature) (records_of t of lab)) (records_of t of lab)
  signed_records of lab =
      its_records t (parts_kept t well) row.id number kept kept_found version top top_found (leaf_in signed) (signed_leaf signature)
      (signed_law t rising well.ids well.numbered row.id top.id added.id added.free signature added.person added.named)
      (in_version top.number (with_signature signature))
      (λ text cover. chained_signed text cover top.number signature None (leaves_of t kept.id) (leaves_apart t (parts_kept t well) kept.id)) of lab
      ∙ ap (λ v. cond (int_eq lab row.id) (in_record number (signed_in v signature) (records_of t of lab)) (records_of t of lab))
      (wanted_is t kept.id version top top_found)

  signed_lab : (lab : LabRow) → lab_in signed lab ≡ cond (int_eq lab.id row.id) (change (lab_in t lab) (SignatureAdded number version signature)) (lab_in t lab)
  signed_lab lab = go (int_eq lab.id row.id) (signed_records lab.code lab.id)
    where
      go : (b : Bool) → records_of signed lab.code lab.id
          ≡ cond b (in_record number (signed_in version signature) (records_of t lab.code lab.id)) (records_of t lab.code lab.id)
          → lab_in signed lab ≡ cond b (change (lab_in t lab) (SignatureAdded number version signature)) (lab_in t lab)
      go true law = λ i. record (lab_in t lab) { records = law i }
      go false law = λ i. record (lab_in t lab) { records = law i }

  signed_changes : Changes code (SignatureAdded number version signature ∷ []) (meaning t) (meaning new)
  signed_changes =
      subst (λ tables. Changes code (SignatureAdded number version signature ∷ []) (meaning t) (meaning tables)) (sym added.made)
      (rows_changed t signed refl (parts_kept t well).ids.labs code row found (SignatureAdded number version signature) signed_lab)

-- a signature of a version of a record stands there behind the others, and nowhere else
pub signature_is_added : {old new : Tables} {code : List ℕ} {number version : ℕ} {signature : Signature} → AreRising old → AreWellKept old
    → Applies code (SignatureAdded number version signature) old new → Changes code (SignatureAdded number version signature ∷ []) (meaning old) (meaning new)
signature_is_added {old} {new} {code} {number} {version} {signature} rising well it =
    let step = it.made in
    let top = version_found old step.kept.id version step.signed step.there in
    signed_changes old rising well code it.lab it.found number step.kept step.found version top.0 top.1 signature new
    (subst (λ v. AddsSignature it.lab.id v signature old new) (sym top.2) step.added)
