-- Rows that are put in one after the other under one parent, each under the place behind the others: the parent has each behind those
-- that it had. Which rows the table has beside these, and how they are numbered, is nothing to it.
use Rattle.std.proofs.Common.{◌≡◌, ◌≤◌, ◌<◌, ℕ, ◌+◌, ℤ, Bool, true, false, cond, List, [], ◌∷◌, ◌++◌, filter, length, Some, is_some, refl, sym, ap, subst, arith, Ordering, Less, Equal, Greater, int_cmp, int_eq, is_eq, is_gt}
use Rattle.std.specs.Ordering.{nat_cmp, match_ordering}
use Rattle.std.specs.List.{AllByRecursion}
use Rattle.std.specs.Cmp.{nat_cmp_is}
use Rattle.sqlite_keyed.specs.Keyed.{IsKeyedBy, get_by, has_key, insert_by}
use Rattle.sqlite_keyed.proofs.ListLemmas.{all_weaker}
use Rattle.sqlite_keyed.proofs.KeyedLemmas.{all-insert_by}
use Rattle.lab_store_tables.proofs.SortLaws.{total_on, fresh_filtered, filter-insert_mine}
use Rattle.lab_store_tables.proofs.LevelLaws.{had_by, own_has_last}
use Rattle.lab_store_tables.proofs.LabLaws.{alike}

pub behind : (a b : ℕ) → a < b → is_gt (nat_cmp b a) ≡ true
behind a b h = ap is_gt (sym (nat_cmp_is b a Greater h))

pub untied : (a b : ℕ) → a < b → is_eq (nat_cmp a b) ≡ false
untied a b h = ap is_eq (sym (nat_cmp_is a b Less h))

-- the places of a parent's rows go no further than it has rows
abbrev pub ArePlaced : {X : Type 0} → (X → ℤ) → (X → ℕ) → ℤ → List X → Type 0
ArePlaced parent place at rows =
    AllByRecursion (λ one. place one ≤ length (filter (λ x. int_eq (parent x) at) rows)) (filter (λ x. int_eq (parent x) at) rows)

-- so they do where it has none
pub none_placed : {X : Type 0} (parent : X → ℤ) (place : X → ℕ) (at : ℤ) (rows : List X) → filter (λ one. int_eq (parent one) at) rows ≡ []
    → ArePlaced parent place at rows
none_placed parent place at rows none = subst (λ list. AllByRecursion (λ one. place one ≤ length list) list) (sym none) tt

-- a row that is put in is there
pub has_put : {X : Type 0} (id : X → ℤ) (rows : List X) (new : X) → has_key id (insert_by id rows new) (id new) ≡ true
has_put id [] new = ap (λ b. is_some (cond b (Some new) (get_by id [] (id new)))) (alike (id new) (id new) refl)
has_put id (x ∷ xs) new = go (int_cmp (id x) (id new)) (has_put id xs new)
  where
    own : int_eq (id new) (id new) ≡ true
    own = alike (id new) (id new) refl

    go : (o : Ordering) → has_key id (insert_by id xs new) (id new) ≡ true
        → has_key id (match_ordering o (x ∷ insert_by id xs new) (new ∷ xs) (new ∷ x ∷ xs)) (id new) ≡ true
    go Less more =
        elim (int_eq (id x) (id new)) as (λ b. is_some (cond b (Some x) (get_by id (insert_by id xs new) (id new))) ≡ true) [ true ↦ refl | false ↦ more ]
    go Equal more = ap (λ b. is_some (cond b (Some new) (get_by id xs (id new)))) own
    go Greater more = ap (λ b. is_some (cond b (Some new) (get_by id (x ∷ xs) (id new)))) own

length_put : {X : Type 0} (id : X → ℤ) (new : X) (rows : List X) → has_key id rows (id new) ≡ false → length (insert_by id rows new) ≡ length rows + 1
length_put id new [] free = omega arith
length_put id new (x ∷ xs) free = go (int_cmp (id x) (id new)) refl (length_put id new xs) free
  where
    go : (o : Ordering) → int_cmp (id x) (id new) ≡ o → (has_key id xs (id new) ≡ false → length (insert_by id xs new) ≡ length xs + 1)
        → is_some (cond (is_eq (int_cmp (id x) (id new))) (Some x) (get_by id xs (id new))) ≡ false
        → length (match_ordering o (x ∷ insert_by id xs new) (new ∷ xs) (new ∷ x ∷ xs)) ≡ length (x ∷ xs) + 1
    go Less e more h = let it : length (insert_by id xs new) ≡ length xs + 1 = more (rw e at h) in omega (arith, it)
    go Equal e more h = absurd (let wrong = rw e at h in cc)
    go Greater e more h = omega arith

module _ {X : Type 0} (id parent : X → ℤ) (place : X → ℕ) (at : ℤ) (rows : List X) (rise : IsKeyedBy id rows) (new : X)
    (free : has_key id rows (id new) ≡ false) (own : parent new ≡ at) (next : place new ≡ length (filter (λ x. int_eq (parent x) at) rows) + 1)
    (placed : ArePlaced parent place at rows) where
  abbrev mine : X → Bool
  mine one = int_eq (parent one) at

  abbrev by_place : X → X → Ordering
  by_place one other = nat_cmp (place one) (place other)

  rows_more : filter mine (insert_by id rows new) ≡ insert_by id (filter mine rows) new
  rows_more = filter-insert_mine id mine new (alike (parent new) at own) rows rise free

  many : length (insert_by id (filter mine rows) new) ≡ length (filter mine rows) + 1
  many = length_put id new (filter mine rows) (fresh_filtered id mine (id new) rows free)

  pub placed_more : ArePlaced parent place at (insert_by id rows new)
  placed_more =
      subst (λ list. AllByRecursion (λ one. place one ≤ length list) list) (sym rows_more)
      (all-insert_by id (λ one. place one ≤ length (insert_by id (filter mine rows) new)) (filter mine rows) new (omega (arith, next, many))
      (all_weaker (λ one. place one ≤ length (filter mine rows)) (λ one. place one ≤ length (insert_by id (filter mine rows) new))
      (λ one least. omega (arith, least, many)) (filter mine rows) placed))

  below : AllByRecursion (λ one. place one < place new) (filter mine rows)
  below =
      all_weaker (λ one. place one ≤ length (filter mine rows)) (λ one. place one < place new) (λ one least. omega (arith, least, next))
      (filter mine rows) placed

  pub had_last : {Y : Type 0} (shown : X → Y) → had_by parent by_place shown (insert_by id rows new) at ≡ had_by parent by_place shown rows at ++ shown new ∷ []
  had_last shown =
      own_has_last id parent by_place (total_on place) shown rows rise new free at (alike (parent new) at own)
      (all_weaker (λ one. place one < place new) (λ one. is_eq (by_place one new) ≡ false) (λ one less. untied (place one) (place new) less)
      (filter mine rows) below)
      (all_weaker (λ one. place one < place new) (λ one. is_gt (by_place new one) ≡ true) (λ one less. behind (place one) (place new) less)
      (filter mine rows) below)
