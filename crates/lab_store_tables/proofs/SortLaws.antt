-- Rows of one parent, sorted, as a row is put into their table under any free id: where the row stands among them.
use Rattle.std.proofs.Common.{◌≡◌, ℕ, ℤ, ◌<ℤ◌, Bool, true, false, not, cond, List, [], ◌∷◌, ◌++◌, filter, Some, refl, sym, ap, ◌∙◌, arith, Ordering, Less, Equal, Greater, int_cmp, is_gt, is_eq, is_some}
use Rattle.std.proofs.lemmas.Int.{ints}
use Rattle.std.specs.Cmp.{IsTotalOrder}
use Rattle.std.specs.List.{AllByRecursion}
use Rattle.std.specs.Ordering.{match_ordering, ordering_reverse, nat_cmp}
use Rattle.std.proofs.lemmas.Cmp.{nat_cmp_total}
use Rattle.sqlite_keyed.specs.Keyed.{IsKeyedBy, has_key, get_by, insert_by}
use Rattle.sqlite_keyed.proofs.ListLemmas.{all-filter, all_weaker}
use Rattle.sqlite_keyed.specs.Lists.{insert_sorted, sort_by}

-- ---- a total order

turned_less : (o : Ordering) → is_gt o ≡ true → ordering_reverse o ≡ Less
turned_less Less h = absurd cc
turned_less Equal h = absurd cc
turned_less Greater h = refl

turned_greater : (o : Ordering) → o ≡ Less → is_gt (ordering_reverse o) ≡ true
turned_greater Less h = refl
turned_greater Equal h = absurd cc
turned_greater Greater h = absurd cc

turned_not : (o : Ordering) → is_eq o ≡ false → is_gt (ordering_reverse o) ≡ not (is_gt o)
turned_not Less h = refl
turned_not Equal h = absurd cc
turned_not Greater h = refl

module _ {X : Type 0} (cmp : X → X → Ordering) (total : IsTotalOrder cmp) where
  over : (a b y : X) → is_gt (cmp b y) ≡ true → is_gt (cmp a y) ≡ false → is_gt (cmp b a) ≡ true
  over a b y above below = go (cmp a y) refl below
    where
      behind : cmp y b ≡ Less
      behind = total.antisymm y b ∙ turned_less (cmp b y) above

      turn : cmp a b ≡ Less → is_gt (cmp b a) ≡ true
      turn h = ap is_gt (total.antisymm b a) ∙ turned_greater (cmp a b) h

      go : (o : Ordering) → cmp a y ≡ o → is_gt o ≡ false → is_gt (cmp b a) ≡ true
      go Less e h = turn (total.trans a y b e behind)
      go Equal e h = turn (total.congr a y b e ∙ behind)
      go Greater e h = absurd cc

  one_way : (a b : X) → is_eq (cmp a b) ≡ false → is_gt (cmp b a) ≡ not (is_gt (cmp a b))
  one_way a b h = ap is_gt (total.antisymm b a) ∙ turned_not (cmp a b) h

  -- two rows that don't tie can be put in in either order
  swap : (a b : X) → is_eq (cmp a b) ≡ false → (xs : List X) → insert_sorted cmp a (insert_sorted cmp b xs) ≡ insert_sorted cmp b (insert_sorted cmp a xs)
  swap a b apart [] = empty (is_gt (cmp a b)) (is_gt (cmp b a)) (one_way a b apart)
    where
      empty : (o p : Bool) → p ≡ not o → cond o (b ∷ a ∷ []) (a ∷ b ∷ []) ≡ cond p (a ∷ b ∷ []) (b ∷ a ∷ [])
      empty true p e = rw e refl
      empty false p e = rw e refl
  swap a b apart (y ∷ ys) = go (is_gt (cmp a y)) (is_gt (cmp b y)) refl refl (swap a b apart ys)
    where
      last : (o p : Bool) → p ≡ not o → cond o (b ∷ a ∷ y ∷ ys) (a ∷ b ∷ y ∷ ys) ≡ cond p (a ∷ b ∷ y ∷ ys) (b ∷ a ∷ y ∷ ys)
      last true p e = rw e refl
      last false p e = rw e refl

      go : (p q : Bool) → is_gt (cmp a y) ≡ p → is_gt (cmp b y) ≡ q → insert_sorted cmp a (insert_sorted cmp b ys) ≡ insert_sorted cmp b (insert_sorted cmp a ys)
          → insert_sorted cmp a (cond (is_gt (cmp b y)) (y ∷ insert_sorted cmp b ys) (b ∷ y ∷ ys)) ≡ insert_sorted cmp b (cond (is_gt (cmp a y)) (y ∷ insert_sorted cmp a ys) (a ∷ y ∷ ys))
      go true true e f more = simp (e, f) (ap (λ l. y ∷ l) more)
      go true false e f more = simp (e, f, over b a y e f) refl
      go false true e f more = simp (e, f, over a b y f e) refl
      go false false e f more = simp (e, f) (last (is_gt (cmp a b)) (is_gt (cmp b a)) (one_way a b apart))

  module _ (key : X → ℤ) where
    -- under whichever free id a row is put in, it is sorted to its place
    pub sort-insert_by : (new : X) (xs : List X) → has_key key xs (key new) ≡ false → AllByRecursion (λ x. is_eq (cmp x new) ≡ false) xs
        → sort_by cmp (insert_by key xs new) ≡ insert_sorted cmp new (sort_by cmp xs)
    sort-insert_by new [] fresh apart = refl
    sort-insert_by new (x ∷ xs) fresh apart = go (int_cmp (key x) (key new)) refl (sort-insert_by new xs) fresh
      where
        go : (o : Ordering) → int_cmp (key x) (key new) ≡ o → (has_key key xs (key new) ≡ false → AllByRecursion (λ y. is_eq (cmp y new) ≡ false) xs → sort_by cmp (insert_by key xs new) ≡ insert_sorted cmp new (sort_by cmp xs))
            → is_some (cond (is_eq (int_cmp (key x) (key new))) (Some x) (get_by key xs (key new))) ≡ false
            → sort_by cmp (match_ordering o (x ∷ insert_by key xs new) (new ∷ xs) (new ∷ x ∷ xs)) ≡ insert_sorted cmp new (insert_sorted cmp x (sort_by cmp xs))
        go Less e more h = ap (insert_sorted cmp x) (more (rw e at h) apart.1) ∙ swap x new apart.0 (sort_by cmp xs)
        go Equal e more h = absurd (let wrong = rw e at h in cc)
        go Greater e more h = refl

-- ---- which rows are filtered

pub fresh_filtered : {X : Type 0} (key : X → ℤ) (mine : X → Bool) (id : ℤ) (xs : List X) → has_key key xs id ≡ false → has_key key (filter mine xs) id ≡ false
fresh_filtered key mine id [] fresh = refl
fresh_filtered key mine id (x ∷ xs) fresh = go (is_eq (int_cmp (key x) id)) (mine x) refl fresh (fresh_filtered key mine id xs)
  where
    go : (same passes : Bool) → is_eq (int_cmp (key x) id) ≡ same → is_some (cond same (Some x) (get_by key xs id)) ≡ false
        → (has_key key xs id ≡ false → has_key key (filter mine xs) id ≡ false)
        → has_key key (cond passes (x ∷ filter mine xs) (filter mine xs)) id ≡ false
    go true passes e h more = absurd cc
    go false true e h more = ap (λ b. is_some (cond b (Some x) (get_by key (filter mine xs) id))) e ∙ more h
    go false false e h more = more h

module _ {X : Type 0} (key : X → ℤ) (mine : X → Bool) (new : X) where
  low_first : (xs : List X) → AllByRecursion (λ x. key new <ℤ key x) xs → insert_by key xs new ≡ new ∷ xs
  low_first [] above = refl
  low_first (x ∷ xs) above =
      let k = above.0 in
      let o : int_cmp (key x) (key new) ≡ Greater = grind (arith, ints) in
      ap (λ o. match_ordering o (x ∷ insert_by key xs new) (new ∷ xs) (new ∷ x ∷ xs)) o

  below_it : (x : X) → int_cmp (key x) (key new) ≡ Greater → key new <ℤ key x
  below_it x e = grind (arith, ints)

  chain_lt : (a b c : ℤ) → a <ℤ b → b <ℤ c → a <ℤ c
  chain_lt a b c p q = omega (arith, ints)

  -- a row of another parent is not seen
  pub filter-insert_other : mine new ≡ false → (xs : List X) → has_key key xs (key new) ≡ false → filter mine (insert_by key xs new) ≡ filter mine xs
  filter-insert_other other [] fresh = rw other refl
  filter-insert_other other (x ∷ xs) fresh = go (int_cmp (key x) (key new)) refl (filter-insert_other other xs) fresh
    where
      go : (o : Ordering) → int_cmp (key x) (key new) ≡ o → (has_key key xs (key new) ≡ false → filter mine (insert_by key xs new) ≡ filter mine xs)
          → is_some (cond (is_eq (int_cmp (key x) (key new))) (Some x) (get_by key xs (key new))) ≡ false
          → filter mine (match_ordering o (x ∷ insert_by key xs new) (new ∷ xs) (new ∷ x ∷ xs)) ≡ cond (mine x) (x ∷ filter mine xs) (filter mine xs)
      go Less e more h = ap (λ l. cond (mine x) (x ∷ l) l) (more (rw e at h))
      go Equal e more h = absurd (let wrong = rw e at h in cc)
      go Greater e more h = ap (λ b. cond b (new ∷ cond (mine x) (x ∷ filter mine xs) (filter mine xs)) (cond (mine x) (x ∷ filter mine xs) (filter mine xs))) other

  -- one of this parent is put in among its rows, under that id too
  pub filter-insert_mine : mine new ≡ true → (xs : List X) → IsKeyedBy key xs → has_key key xs (key new) ≡ false → filter mine (insert_by key xs new) ≡ insert_by key (filter mine xs) new
  filter-insert_mine own [] up fresh = rw own refl
  filter-insert_mine own (x ∷ xs) up fresh = go (int_cmp (key x) (key new)) refl (filter-insert_mine own xs up.1) fresh
    where
      less : int_cmp (key x) (key new) ≡ Less → (b : Bool) → filter mine (insert_by key xs new) ≡ insert_by key (filter mine xs) new
          → cond b (x ∷ filter mine (insert_by key xs new)) (filter mine (insert_by key xs new)) ≡ insert_by key (cond b (x ∷ filter mine xs) (filter mine xs)) new
      less e true more = ap (λ l. x ∷ l) more ∙ sym (ap (λ o. match_ordering o (x ∷ insert_by key (filter mine xs) new) (new ∷ filter mine xs) (new ∷ x ∷ filter mine xs)) e)
      less e false more = more

      greater : int_cmp (key x) (key new) ≡ Greater → (b : Bool) → new ∷ cond b (x ∷ filter mine xs) (filter mine xs) ≡ insert_by key (cond b (x ∷ filter mine xs) (filter mine xs)) new
      greater e true = sym (ap (λ o. match_ordering o (x ∷ insert_by key (filter mine xs) new) (new ∷ filter mine xs) (new ∷ x ∷ filter mine xs)) e)
      greater e false =
          let low : key new <ℤ key x = below_it x e in
          sym (low_first (filter mine xs) (all-filter _ mine xs (all_weaker _ (λ y. key new <ℤ key y) (λ y h. chain_lt (key new) (key x) (key y) low h) xs up.0)))

      go : (o : Ordering) → int_cmp (key x) (key new) ≡ o → (has_key key xs (key new) ≡ false → filter mine (insert_by key xs new) ≡ insert_by key (filter mine xs) new)
          → is_some (cond (is_eq (int_cmp (key x) (key new))) (Some x) (get_by key xs (key new))) ≡ false
          → filter mine (match_ordering o (x ∷ insert_by key xs new) (new ∷ xs) (new ∷ x ∷ xs)) ≡ insert_by key (cond (mine x) (x ∷ filter mine xs) (filter mine xs)) new
      go Less e more h = less e (mine x) (more (rw e at h))
      go Equal e more h = absurd (let wrong = rw e at h in cc)
      go Greater e more h = ap (λ b. cond b (new ∷ cond (mine x) (x ∷ filter mine xs) (filter mine xs)) (cond (mine x) (x ∷ filter mine xs) (filter mine xs))) own ∙ greater e (mine x)

-- ---- where it stands

module _ {X : Type 0} (cmp : X → X → Ordering) where
  -- behind all others, where it comes after each of them
  pub sorted_last : (new : X) (xs : List X) → AllByRecursion (λ x. is_gt (cmp new x) ≡ true) xs → insert_sorted cmp new xs ≡ xs ++ new ∷ []
  sorted_last new [] after = refl
  sorted_last new (x ∷ xs) after =
      ap (λ b. cond b (x ∷ insert_sorted cmp new xs) (new ∷ x ∷ xs)) after.0 ∙ ap (λ l. x ∷ l) (sorted_last new xs after.1)

  all_inserted : (P : X → Type 0) (new : X) (xs : List X) → P new → AllByRecursion P xs → AllByRecursion P (insert_sorted cmp new xs)
  all_inserted P new [] h all = (h, tt)
  all_inserted P new (x ∷ xs) h all =
      elim (is_gt (cmp new x)) as (λ b. AllByRecursion P (cond b (x ∷ insert_sorted cmp new xs) (new ∷ x ∷ xs))) [ true ↦ (all.0, all_inserted P new xs h all.1) | false ↦ (h, all) ]

  -- what holds of the rows holds of them sorted
  pub all_sorted : (P : X → Type 0) (xs : List X) → AllByRecursion P xs → AllByRecursion P (sort_by cmp xs)
  all_sorted P [] all = tt
  all_sorted P (x ∷ xs) all = all_inserted P x (sort_by cmp xs) all.0 (all_sorted P xs all.1)

-- rows in the order of a number
pub total_on : {X : Type 0} (number : X → ℕ) → IsTotalOrder (λ one other. nat_cmp (number one) (number other))
total_on number = record {
  antisymm = λ one other. nat_cmp_total.antisymm (number one) (number other);
  trans = λ one other third. nat_cmp_total.trans (number one) (number other) (number third);
  congr = λ one other third. nat_cmp_total.congr (number one) (number other) (number third);
}
