-- A version that is shown otherwise is so in its record alone, and a record in its laboratory alone.
use Rattle.std.proofs.Common.{◌≡◌, ◌≤◌, ◌<◌, ℕ, ℤ, Bool, true, false, ◌&&◌, ◌==◌, cond, List, [], ◌∷◌, map, filter, length, Option, Some, inl, inr, refl, sym, ap, ap₂, subst, ◌∙◌, int_eq, arith}
use Rattle.std.specs.Prelude.{nat_le}
use Rattle.std.specs.List.{AllByRecursion}
use Rattle.std.proofs.lemmas.Bool.{and_parts, eq-eqb, eqb-true, leb-true}
use Rattle.sqlite_trees.specs.Tree.{IsAscending}
use Rattle.sqlite_rules.specs.Lists.{Has}
use Rattle.sqlite_rules.proofs.ListLemmas.{test_has, has_filtered, all_from, has_kept}
use Rattle.sqlite_keyed.specs.Lists.{sort_by, update_where}
use Rattle.sqlite_keyed.specs.Rules.{AreApart}
use Rattle.sqlite_keyed.proofs.ListLemmas.{all_weaker, ascending-map, ascending_weaker}
use Rattle.sqlite_keyed.proofs.KeyedLemmas.{same_int}
use Rattle.lab_seal_versions.specs.declared.rows.EntryRow.{EntryRow as Entry}
use Rattle.lab_records_kept.specs.declared.records.Record.{Record}
use Rattle.lab_records_kept.specs.Digests.{digest_of}
use Rattle.lab_records_kept.specs.Lookups.{has_number}
use Rattle.lab_records_kept.specs.Changes.{in_record, in_last, with_row}
use Rattle.lab_store_tables.specs.Rows.{RecordRow, VersionRow, Tables, record_id, version_id}
use Rattle.lab_store_tables.specs.Meaning.{Leaf, leaf_in, by_version, leaves_of, version_after, chained, record_in, by_record, records_of}
use Rattle.lab_store_tables.specs.WellKept.{is_current}
use Rattle.lab_store_tables.proofs.ChainWords.{entered_leaf, is_leaf, same_leaf}
use Rattle.lab_store_tables.proofs.SortLaws.{all_sorted}
use Rattle.lab_store_tables.proofs.LevelLaws.{had_by}
use Rattle.lab_store_tables.proofs.LabLaws.{alike}
use Rattle.lab_store_tables.proofs.KeptParts.{KeptParts}
use Rattle.lab_store_tables.proofs.OrderLaws.{unequal, has_sorted}
use Rattle.lab_store_tables.proofs.RowSet.{rising_sorted, other_parent, own_parent}
use Rattle.lab_store_tables.proofs.OneRow.{never}

-- ---- the record of a number

none_set : (number : ℕ) (f : Record → Record) (records : List Record) → AllByRecursion (λ one. has_number number one ≡ false) records
    → update_where (has_number number) f records ≡ records
none_set number f [] none = refl
none_set number f (one ∷ others) none = ap₂ (λ x l. x ∷ l) (ap (λ b. cond b (f one) one) none.0) (none_set number f others none.1)

one_set : (number : ℕ) (f : Record → Record) (records : List Record) → IsAscending (λ (one other : Record). (one.number == other.number) ≡ false) records
    → update_where (has_number number) f records ≡ in_record number f records
one_set number f [] apart = refl
one_set number f (one ∷ others) apart = go (has_number number one) refl (one_set number f others apart.1)
  where
    none_more : has_number number one ≡ true → AllByRecursion (λ (other : Record). has_number number other ≡ false) others
    none_more e =
        all_weaker (λ (other : Record). (one.number == other.number) ≡ false) (λ (other : Record). has_number number other ≡ false)
        (λ other differ. never (other.number == number) (λ k.
        let same : (one.number == other.number) ≡ true =
        eq-eqb one.number other.number (eqb-true one.number number e ∙ sym (eqb-true other.number number k)) in cc))
        others apart.0

    go : (b : Bool) → has_number number one ≡ b → update_where (has_number number) f others ≡ in_record number f others
        → cond b (f one) one ∷ update_where (has_number number) f others ≡ cond b (f one ∷ others) (one ∷ in_record number f others)
    go true e more = ap (λ l. f one ∷ l) (none_set number f others (none_more e))
    go false e more = ap (λ l. one ∷ l) more

-- ---- a record of a laboratory

module _ (t : Tables) (parts : KeptParts t) (kept : RecordRow) (there : Has t.records kept) (code : List ℕ) (next : RecordRow → Record)
    (elsewhere : (one : RecordRow) → Has t.records one → int_eq one.id kept.id ≡ false → next one ≡ record_in t code one) where
  -- other laboratories have their records as they were
  pub other_records : (of : ℤ) → int_eq of kept.lab ≡ false → had_by (λ (one : RecordRow). one.lab) by_record next t.records of ≡ records_of t code of
  other_records of other =
      other_parent record_id (λ (one : RecordRow). one.lab) t.records parts.ids.records kept there by_record (record_in t code) next elsewhere of other

  -- and its own has that one so
  pub own_records : (f : Record → Record) → next kept ≡ f (record_in t code kept)
      → had_by (λ (one : RecordRow). one.lab) by_record next t.records kept.lab ≡ in_record kept.number f (records_of t code kept.lab)
  own_records f mine =
      own_parent record_id (λ (one : RecordRow). one.lab) t.records parts.ids.records kept there by_record (record_in t code) next elsewhere
      (λ (one : RecordRow). one.number) parts.keys.records f mine (has_number kept.number) (λ one. refl)
      ∙ one_set kept.number f (records_of t code kept.lab) apart
    where
      apart : IsAscending (λ (one other : Record). (one.number == other.number) ≡ false) (records_of t code kept.lab)
      apart =
          ascending-map (λ (one other : Record). (one.number == other.number) ≡ false) (record_in t code)
          (sort_by by_record (filter (λ (one : RecordRow). int_eq one.lab kept.lab) t.records))
          (ascending_weaker (λ (one other : RecordRow). one.number < other.number) (λ (one other : RecordRow). (one.number == other.number) ≡ false)
          (λ one other h. unequal one.number other.number h) (sort_by by_record (filter (λ (one : RecordRow). int_eq one.lab kept.lab) t.records))
          (rising_sorted (λ (one : RecordRow). one.lab) (λ (one : RecordRow). one.number) t.records parts.keys.records kept.lab))

-- ---- versions of a record

module _ (t : Tables) (parts : KeptParts t) (kept : ℤ) where
  abbrev its_rows : List VersionRow
  its_rows = filter (λ (one : VersionRow). int_eq one.kept kept) t.versions

  -- as they are shown they rise
  pub rows_rise : IsAscending (λ (one other : VersionRow). one.number < other.number)
      (sort_by by_version (filter (λ (one : VersionRow). int_eq one.kept kept) t.versions))
  rows_rise = rising_sorted (λ (one : VersionRow). one.kept) (λ (one : VersionRow). one.number) t.versions parts.keys.versions kept

  pub leaves_rise : IsAscending (λ (one other : Leaf). one.number < other.number) (leaves_of t kept)
  leaves_rise = ascending-map (λ (one other : Leaf). one.number < other.number) (leaf_in t) (sort_by by_version its_rows) rows_rise

  -- so no two have one number
  pub leaves_apart : AreApart same_leaf (leaves_of t kept)
  leaves_apart =
      ascending_weaker (λ (one other : Leaf). one.number < other.number) (λ (one other : Leaf). same_leaf one other ≡ false)
      (λ one other h. unequal one.number other.number h) (leaves_of t kept) leaves_rise

  -- from 1 to as many as they are
  pub rows_counted : AllByRecursion
      (λ (one : VersionRow). (1 ≤ one.number) × (one.number ≤ length (filter (λ (x : VersionRow). int_eq x.kept kept) t.versions)))
      (sort_by by_version (filter (λ (one : VersionRow). int_eq one.kept kept) t.versions))
  rows_counted =
      all_sorted by_version (λ (one : VersionRow). (1 ≤ one.number) × (one.number ≤ length its_rows)) its_rows
      (all_from (λ (one : VersionRow). (1 ≤ one.number) × (one.number ≤ length its_rows)) its_rows
      (λ one has. counted one (has_filtered (λ (x : VersionRow). int_eq x.kept kept) t.versions one has)))
    where
      counted : (one : VersionRow) → Has t.versions one × (int_eq one.kept kept ≡ true) → (1 ≤ one.number) × (one.number ≤ length its_rows)
      counted one it =
          let within = and_parts (nat_le 1 one.number) (nat_le one.number (length (filter (λ (other : VersionRow). int_eq other.kept one.kept) t.versions)))
          (test_has (λ (x : VersionRow). nat_le 1 x.number && nat_le x.number (length (filter (λ (other : VersionRow). int_eq other.kept x.kept) t.versions)))
          t.versions one parts.numbers.versions it.0) in (
            leb-true 1 one.number within.0,
            subst (λ k. one.number ≤ length (filter (λ (other : VersionRow). int_eq other.kept k) t.versions)) (same_int one.kept kept it.1)
                (leb-true one.number (length (filter (λ (other : VersionRow). int_eq other.kept one.kept) t.versions)) within.1),
          )

-- `current` counts them
pub current_counted : (t : Tables) → KeptParts t → (kept : RecordRow) → Has t.records kept
    → kept.current ≡ length (filter (λ (one : VersionRow). int_eq one.kept kept.id) t.versions)
current_counted t parts kept there =
    eqb-true kept.current (length (filter (λ (one : VersionRow). int_eq one.kept kept.id) t.versions))
    (and_parts (nat_le 1 kept.current) (kept.current == length (filter (λ (one : VersionRow). int_eq one.kept kept.id) t.versions))
    (test_has (is_current t) t.records kept parts.numbers.current there)).1

-- ---- one of them

module _ (t : Tables) (parts : KeptParts t) (top : VersionRow) (has : Has t.versions top) where
  -- a version that is shown otherwise is so in its record alone
  module _ (next : VersionRow → Leaf) (elsewhere : (one : VersionRow) → Has t.versions one → int_eq one.id top.id ≡ false → next one ≡ leaf_in t one) where
    pub other_leaves : (of : ℤ) → int_eq of top.kept ≡ false → had_by (λ (one : VersionRow). one.kept) by_version next t.versions of ≡ leaves_of t of
    other_leaves of other =
        other_parent version_id (λ (one : VersionRow). one.kept) t.versions parts.ids.versions top has by_version (leaf_in t) next elsewhere of other

    pub own_leaves : (f : Leaf → Leaf) → next top ≡ f (leaf_in t top)
        → had_by (λ (one : VersionRow). one.kept) by_version next t.versions top.kept ≡ update_where (is_leaf top.number) f (leaves_of t top.kept)
    own_leaves f mine =
        own_parent version_id (λ (one : VersionRow). one.kept) t.versions parts.ids.versions top has by_version (leaf_in t) next elsewhere
        (λ (one : VersionRow). one.number) parts.keys.versions f mine (is_leaf top.number) (λ one. refl)

-- ---- the last of a record's versions

-- the leaf of the number is the last, and no other has it
abbrev pub IsLastLeaf : ℕ → List Leaf → Type 0
IsLastLeaf number [] = ⊥
IsLastLeaf number (one ∷ []) = is_leaf number one ≡ true
IsLastLeaf number (one ∷ other ∷ others) = (is_leaf number one ≡ false) × IsLastLeaf number (other ∷ others)

pub chained_at_end : (lab : List ℕ) (kept : Record) (number : ℕ) (row : Entry) (before : Option (List ℕ)) (leaves : List Leaf)
    → IsLastLeaf number leaves
    → chained lab kept before (update_where (is_leaf number) (entered_leaf row) leaves) ≡ in_last (with_row row) (chained lab kept before leaves)
chained_at_end lab kept number row before [] last = absurd last
chained_at_end lab kept number row before (one ∷ []) last = ap (λ b. chained lab kept before (cond b (entered_leaf row one) one ∷ [])) last
chained_at_end lab kept number row before (one ∷ other ∷ others) last =
    ap (λ b. chained lab kept before (cond b (entered_leaf row one) one ∷ update_where (is_leaf number) (entered_leaf row) (other ∷ others))) last.0
    ∙ ap (λ list. version_after kept before one ∷ list)
    (chained_at_end lab kept number row (Some (digest_of lab kept (version_after kept before one))) (other ∷ others) last.1)

last_leaf : (t : Tables) (number : ℕ) (rows : List VersionRow) → IsAscending (λ (one other : VersionRow). one.number < other.number) rows
    → AllByRecursion (λ (one : VersionRow). one.number ≤ number) rows → (top : VersionRow) → Has rows top → top.number ≡ number
    → IsLastLeaf number (map (leaf_in t) rows)
last_leaf t number [] up most top there is = absurd there
last_leaf t number (one ∷ []) up most top (inl same) is = eq-eqb one.number number (ap (λ (x : VersionRow). x.number) (sym same) ∙ is)
last_leaf t number (one ∷ []) up most top (inr later) is = absurd later
last_leaf t number (one ∷ other ∷ others) up most top there is =
    (unequal one.number number less, last_leaf t number (other ∷ others) up.1 most.1 top (go there) is)
  where
    less : one.number < number
    less = let first = up.0.0 in let limit = most.1.0 in omega (arith, first, limit)

    go : Has (one ∷ other ∷ others) top → Has (other ∷ others) top
    go (inl same) = absurd (let here = ap (λ (x : VersionRow). x.number) same in omega (arith, less, here, is))
    go (inr later) = later

-- the version that has the number of them all is the last
pub at_end : (t : Tables) → KeptParts t → (top : VersionRow) → Has t.versions top
    → top.number ≡ length (filter (λ (one : VersionRow). int_eq one.kept top.kept) t.versions) → IsLastLeaf top.number (leaves_of t top.kept)
at_end t parts top has is =
    let mine = filter (λ (one : VersionRow). int_eq one.kept top.kept) t.versions in
    last_leaf t top.number (sort_by by_version mine) (rows_rise t parts top.kept)
    (all_weaker (λ (one : VersionRow). (1 ≤ one.number) × (one.number ≤ length mine)) (λ (one : VersionRow). one.number ≤ top.number)
    (λ one h. let most = h.1 in omega (arith, most, is)) (sort_by by_version mine) (rows_counted t parts top.kept))
    top (has_sorted by_version mine top (has_kept (λ (one : VersionRow). int_eq one.kept top.kept) t.versions top has (alike top.kept top.kept refl))) refl
