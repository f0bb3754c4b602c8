-- Versions of a record, chained by digests, as rows are added: a version more stands behind the others and amends
-- the last of them; a row more is in the last one; a signature more is in the one of its number, and no digest
-- depends on it.
use Rattle.std.proofs.Common.{◌≡◌, ℕ, Bool, true, false, cond, List, [], ◌∷◌, ◌++◌, Option, Some, refl, sym, ap, ◌∙◌, arith}
use Rattle.std.specs.List.{AllByRecursion}
use Rattle.sqlite_keyed.specs.Lists.{update_where}
use Rattle.sqlite_keyed.specs.Rules.{AreApart}
use Rattle.lab_seal_versions.specs.declared.rows.EntryRow.{EntryRow}
use Rattle.lab_records_kept.specs.declared.records.Record.{Record}
use Rattle.lab_records_kept.specs.declared.records.Version.{Version}
use Rattle.lab_records_kept.specs.declared.records.Signature.{Signature}
use Rattle.lab_records_kept.specs.Digests.{digest_of}
use Rattle.lab_records_kept.specs.Changes.{with_row, with_signature, in_last, in_version}
use Rattle.lab_store_tables.specs.Meaning.{Leaf, version_after, chained}
use Rattle.lab_store_tables.proofs.ChainWords.{digest_at_end, entered_leaf, signed_leaf, is_leaf, same_leaf}

-- ---- a version more

pub chained_more : (lab : List ℕ) (kept : Record) (before : Option (List ℕ)) (leaves : List Leaf) (leaf : Leaf)
    → chained lab kept before (leaves ++ leaf ∷ [])
    ≡ chained lab kept before leaves ++ version_after kept (digest_at_end lab kept before leaves) leaf ∷ []
chained_more lab kept before [] leaf = refl
chained_more lab kept before (one ∷ others) leaf =
    ap (λ list. version_after kept before one ∷ list)
    (chained_more lab kept (Some (digest_of lab kept (version_after kept before one))) others leaf)

-- ---- a row more in the last version

last_of_more : (next : Version → Version) (versions : List Version) (last : Version)
    → in_last next (versions ++ last ∷ []) ≡ versions ++ next last ∷ []
last_of_more next [] last = refl
last_of_more next (one ∷ []) last = refl
last_of_more next (one ∷ other ∷ others) last = ap (λ list. one ∷ list) (last_of_more next (other ∷ others) last)

pub chained_entered : (lab : List ℕ) (kept : Record) (before : Option (List ℕ)) (leaves : List Leaf) (last : Leaf)
    (row : EntryRow)
    → chained lab kept before (leaves ++ entered_leaf row last ∷ [])
    ≡ in_last (with_row row) (chained lab kept before (leaves ++ last ∷ []))
chained_entered lab kept before leaves last row =
    chained_more lab kept before leaves (entered_leaf row last)
    ∙ sym (last_of_more (with_row row) (chained lab kept before leaves)
    (version_after kept (digest_at_end lab kept before leaves) last))
    ∙ ap (in_last (with_row row)) (sym (chained_more lab kept before leaves last))

-- ---- a signature more in the version of a number

-- whether it has one signature more or not, a version has one digest
pub digest_signed : (lab : List ℕ) (kept : Record) (before : Option (List ℕ)) (leaf : Leaf) (signature : Signature)
    → digest_of lab kept (version_after kept before (signed_leaf signature leaf))
    ≡ digest_of lab kept (version_after kept before leaf)
digest_signed lab kept before leaf signature = refl

none_signed : (number : ℕ) (signature : Signature) (leaves : List Leaf)
    → AllByRecursion (λ leaf. is_leaf number leaf ≡ false) leaves
    → update_where (is_leaf number) (signed_leaf signature) leaves ≡ leaves
none_signed number signature [] none = refl
none_signed number signature (one ∷ others) none =
    ap (λ test. cond test (signed_leaf signature one) one ∷ update_where (is_leaf number) (signed_leaf signature) others) none.0
    ∙ ap (λ list. one ∷ list) (none_signed number signature others none.1)

others_differ : (number : ℕ) (one : Leaf) → is_leaf number one ≡ true → (others : List Leaf)
    → AllByRecursion (λ other. same_leaf one other ≡ false) others
    → AllByRecursion (λ other. is_leaf number other ≡ false) others
others_differ number one own [] all = tt
others_differ number one own (other ∷ others) all = (grind (arith, own, all.0), others_differ number one own others all.1)

module _ (lab : List ℕ) (kept : Record) (number : ℕ) (signature : Signature) where
  abbrev after : Option (List ℕ) → Leaf → Option (List ℕ)
  after before one = Some (digest_of lab kept (version_after kept before one))

  abbrev update : List Leaf → List Leaf
  update leaves = update_where (is_leaf number) (signed_leaf signature) leaves

  pub chained_signed : (before : Option (List ℕ)) (leaves : List Leaf) → AreApart same_leaf leaves
      → chained lab kept before (update_where (is_leaf number) (signed_leaf signature) leaves)
      ≡ in_version number (with_signature signature) (chained lab kept before leaves)
  chained_signed before [] apart = refl
  chained_signed before (one ∷ others) apart = go (is_leaf number one) refl (chained_signed (after before one) others apart.1)
    where
      go : (test : Bool) → is_leaf number one ≡ test
          → chained lab kept (after before one) (update others) ≡ in_version number (with_signature signature) (chained lab kept (after before one) others)
          → chained lab kept before (cond test (signed_leaf signature one) one ∷ update others)
          ≡ cond test (with_signature signature (version_after kept before one) ∷ chained lab kept (after before one) others)
          (version_after kept before one ∷ in_version number (with_signature signature) (chained lab kept (after before one) others))
      go true own more =
          ap (λ list. with_signature signature (version_after kept before one) ∷ chained lab kept (after before one) list)
          (none_signed number signature others (others_differ number one own others apart.0))
      go false other more =
          ap (λ list. version_after kept before one ∷ list) more
