-- A row that is put in behind those that its parent has, of which nothing else is known; and a parent that has none yet.
use Rattle.std.proofs.Common.{◌≡◌, ◌≤◌, ◌<◌, ℕ, ◌+◌, ℤ, Bool, true, false, cond, List, [], ◌∷◌, ◌++◌, filter, length, Some, refl, sym, ap, subst, int_eq, int_cmp, is_gt, is_eq, is_some, Ordering, Less, Equal, Greater, arith}
use Rattle.std.specs.Ordering.{nat_cmp, match_ordering}
use Rattle.std.specs.List.{AllByRecursion}
use Rattle.sqlite_keyed.specs.Keyed.{IsKeyedBy, get_by, has_key, insert_by}
use Rattle.sqlite_keyed.specs.Rules.{has_parent}
use Rattle.sqlite_keyed.proofs.ListLemmas.{all_from_test, all_weaker, filter_none}
use Rattle.sqlite_keyed.proofs.KeyedLemmas.{same_int, int_eq_apart, all-insert_by}
use Rattle.lab_store_tables.specs.WellKept.{have_parents}
use Rattle.lab_store_tables.proofs.SortLaws.{total_on, fresh_filtered, filter-insert_mine}
use Rattle.lab_store_tables.proofs.LevelLaws.{had_by, other_has, own_has_last}
use Rattle.lab_store_tables.proofs.LabLaws.{alike}
use Rattle.lab_store_tables.proofs.OneRow.{never}
use Rattle.lab_store_tables.proofs.PlacedLaws.{behind, untied}

-- ---- behind all that its parent has

module _ {X Y : Type 0} (id parent : X → ℤ) (number : X → ℕ) (shown : X → Y) (rows : List X) (rise : IsKeyedBy id rows)
    (new : X) (fresh : has_key id rows (id new) ≡ false)
    (below : AllByRecursion (λ one. number one < number new) (filter (λ one. int_eq (parent one) (parent new)) rows)) where
  abbrev by_number : X → X → Ordering
  by_number one other = nat_cmp (number one) (number other)

  abbrev beside : List X
  beside = filter (λ one. int_eq (parent one) (parent new)) rows

  apart : (at : ℤ) → int_eq at (parent new) ≡ false → int_eq (parent new) at ≡ false
  apart at e = never (int_eq (parent new) at) (λ k. let also : int_eq at (parent new) ≡ true = alike at (parent new) (sym (same_int (parent new) at k)) in cc)

  pub next_last : (at : ℤ) → had_by parent (λ one other. nat_cmp (number one) (number other)) shown (insert_by id rows new) at
      ≡ cond (int_eq at (parent new)) (had_by parent (λ one other. nat_cmp (number one) (number other)) shown rows at ++ shown new ∷ [])
      (had_by parent (λ one other. nat_cmp (number one) (number other)) shown rows at)
  next_last at = go (int_eq at (parent new)) refl
    where
      go : (b : Bool) → int_eq at (parent new) ≡ b → had_by parent by_number shown (insert_by id rows new) at
          ≡ cond b (had_by parent by_number shown rows at ++ shown new ∷ []) (had_by parent by_number shown rows at)
      go true e =
          subst (λ l. had_by parent by_number shown (insert_by id rows new) l ≡ had_by parent by_number shown rows l ++ shown new ∷ [])
          (sym (same_int at (parent new) e))
          (own_has_last id parent by_number (total_on number) shown rows rise new fresh (parent new) (alike (parent new) (parent new) refl)
          (all_weaker (λ one. number one < number new) (λ one. is_eq (by_number one new) ≡ false) (λ one h. untied (number one) (number new) h) beside below)
          (all_weaker (λ one. number one < number new) (λ one. is_gt (by_number new one) ≡ true) (λ one h. behind (number one) (number new) h) beside below))
      go false e = other_has id parent by_number (total_on number) shown rows rise new fresh at (apart at e)

-- ---- a parent whose rows are numbered up to as many as they are

length_put : {X : Type 0} (key : X → ℤ) (new : X) (xs : List X) → has_key key xs (key new) ≡ false → length (insert_by key xs new) ≡ length xs + 1
length_put key new [] fresh = omega arith
length_put key new (x ∷ xs) fresh = go (int_cmp (key x) (key new)) refl (length_put key new xs) fresh
  where
    go : (o : Ordering) → int_cmp (key x) (key new) ≡ o → (has_key key xs (key new) ≡ false → length (insert_by key xs new) ≡ length xs + 1)
        → is_some (cond (is_eq (int_cmp (key x) (key new))) (Some x) (get_by key xs (key new))) ≡ false
        → length (match_ordering o (x ∷ insert_by key xs new) (new ∷ xs) (new ∷ x ∷ xs)) ≡ length (x ∷ xs) + 1
    go Less e more h = let longer = more (rw e at h) in omega (arith, longer)
    go Equal e more h = absurd (let wrong = rw e at h in cc)
    go Greater e more h = omega arith

module _ {X : Type 0} (id parent : X → ℤ) (number : X → ℕ) (at : ℤ) where
  abbrev pub AreWithin : List X → Type 0
  AreWithin rows = AllByRecursion (λ one. number one ≤ length (filter (λ x. int_eq (parent x) at) rows)) (filter (λ x. int_eq (parent x) at) rows)

  -- so they are still, with the next one
  pub within_next : (rows : List X) → IsKeyedBy id rows → (new : X) → has_key id rows (id new) ≡ false → int_eq (parent new) at ≡ true
      → number new ≡ length (filter (λ x. int_eq (parent x) at) rows) + 1 → AreWithin rows → AreWithin (insert_by id rows new)
  within_next rows rise new fresh own next within =
      let mine = λ (x : X). int_eq (parent x) at in
      let long : length (insert_by id (filter mine rows) new) ≡ length (filter mine rows) + 1 =
      length_put id new (filter mine rows) (fresh_filtered id mine (id new) rows fresh) in
      subst (λ l. AllByRecursion (λ one. number one ≤ length l) l) (sym (filter-insert_mine id mine new own rows rise fresh))
      (all-insert_by id (λ one. number one ≤ length (insert_by id (filter mine rows) new)) (filter mine rows) new (omega (arith, next, long))
      (all_weaker (λ one. number one ≤ length (filter mine rows)) (λ one. number one ≤ length (insert_by id (filter mine rows) new))
      (λ one h. omega (arith, h, long)) (filter mine rows) within))

-- ---- a parent that isn't there has no rows

pub no_rows : {X P : Type 0} (arrow : X → ℤ) (key : P → ℤ) (parents : List P) (id : ℤ) → has_key key parents id ≡ false
    → (rows : List X) → have_parents (λ one. Some (arrow one)) key parents rows ≡ true → filter (λ one. int_eq (arrow one) id) rows ≡ []
no_rows arrow key parents id free rows have =
    filter_none (λ one. int_eq (arrow one) id) rows
    (all_weaker (λ one. has_parent key parents (Some (arrow one)) ≡ true) (λ one. int_eq (arrow one) id ≡ false)
    (λ one h. int_eq_apart (arrow one) id (λ same. let there : has_key key parents id ≡ true = subst (λ i. has_key key parents i ≡ true) same h in cc))
    rows (all_from_test (λ one. has_parent key parents (Some (arrow one))) rows have))
