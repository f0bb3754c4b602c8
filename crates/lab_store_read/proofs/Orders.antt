-- Rows put in order: which of them pass a test is the same before and after.
use Rattle.std.proofs.Common.{◌≡◌, Bool, true, false, cond, List, [], ◌∷◌, filter, refl, sym, ap, ◌∙◌, Ordering, Less, Equal, Greater, is_gt}
use Rattle.std.specs.List.{AllByRecursion}
use Rattle.std.specs.Cmp.{IsTotalOrder}
use Rattle.std.specs.Ordering.{ordering_reverse}
use Rattle.std.proofs.lemmas.Cmp.{upto}
use Rattle.sqlite_trees.specs.Tree.{IsAscending}
use Rattle.sqlite_keyed.specs.Lists.{insert_sorted, sort_by}
use Rattle.sqlite_keyed.proofs.ListLemmas.{all_weaker, all-filter}

turned_below : (o : Ordering) → is_gt o ≡ true → is_gt (ordering_reverse o) ≡ false
turned_below Less h = absurd cc
turned_below Equal h = absurd cc
turned_below Greater h = refl

module _ {X : Type 0} (cmp : X → X → Ordering) (total : IsTotalOrder cmp) where
  abbrev AtMost : X → X → Type 0
  AtMost a b = is_gt (cmp a b) ≡ false

  all_inserted : (P : X → Type 0) (new : X) (xs : List X) → P new → AllByRecursion P xs → AllByRecursion P (insert_sorted cmp new xs)
  all_inserted P new [] h all = (h, tt)
  all_inserted P new (x ∷ xs) h all =
      elim (is_gt (cmp new x)) as (λ b. AllByRecursion P (cond b (x ∷ insert_sorted cmp new xs) (new ∷ x ∷ xs))) [ true ↦ (all.0, all_inserted P new xs h all.1) | false ↦ (h, all) ]

  -- what comes before the first comes before all
  before_all : (new x : X) (xs : List X) → AtMost new x → AllByRecursion (AtMost x) xs → AllByRecursion (AtMost new) (x ∷ xs)
  before_all new x xs h all = (h, all_weaker (AtMost x) (AtMost new) (λ y k. upto total new x y h k) xs all)

  up_inserted : (new : X) (xs : List X) → IsAscending AtMost xs → IsAscending AtMost (insert_sorted cmp new xs)
  up_inserted new [] up = (tt, tt)
  up_inserted new (x ∷ xs) up = go (is_gt (cmp new x)) refl (up_inserted new xs up.1)
    where
      go : (b : Bool) → is_gt (cmp new x) ≡ b → IsAscending AtMost (insert_sorted cmp new xs) → IsAscending AtMost (cond b (x ∷ insert_sorted cmp new xs) (new ∷ x ∷ xs))
      go true e more = (all_inserted (AtMost x) new xs (ap is_gt (total.antisymm x new) ∙ turned_below (cmp new x) e) up.0, more)
      go false e more = (before_all new x xs e up.0, up)

  up_sorted : (xs : List X) → IsAscending AtMost (sort_by cmp xs)
  up_sorted [] = tt
  up_sorted (x ∷ xs) = up_inserted x (sort_by cmp xs) (up_sorted xs)

  first_inserted : (new : X) (xs : List X) → AllByRecursion (AtMost new) xs → insert_sorted cmp new xs ≡ new ∷ xs
  first_inserted new [] all = refl
  first_inserted new (x ∷ xs) all = ap (λ b. cond b (x ∷ insert_sorted cmp new xs) (new ∷ x ∷ xs)) all.0

  module _ (p : X → Bool) where
    filter_inserted : (new : X) (xs : List X) → IsAscending AtMost xs
        → filter p (insert_sorted cmp new xs) ≡ cond (p new) (insert_sorted cmp new (filter p xs)) (filter p xs)
    filter_inserted new [] up = refl
    filter_inserted new (x ∷ xs) up = go (is_gt (cmp new x)) refl (filter_inserted new xs up.1)
      where
        behind : (a b : Bool) → is_gt (cmp new x) ≡ true
            → cond a (x ∷ cond b (insert_sorted cmp new (filter p xs)) (filter p xs)) (cond b (insert_sorted cmp new (filter p xs)) (filter p xs))
            ≡ cond b (insert_sorted cmp new (cond a (x ∷ filter p xs) (filter p xs))) (cond a (x ∷ filter p xs) (filter p xs))
        behind true true e = sym (ap (λ c. cond c (x ∷ insert_sorted cmp new (filter p xs)) (new ∷ x ∷ filter p xs)) e)
        behind true false e = refl
        behind false true e = refl
        behind false false e = refl

        here : (b : Bool) → AllByRecursion (AtMost new) (filter p (x ∷ xs)) → cond b (new ∷ filter p (x ∷ xs)) (filter p (x ∷ xs)) ≡ cond b (insert_sorted cmp new (filter p (x ∷ xs))) (filter p (x ∷ xs))
        here true all = sym (first_inserted new (filter p (x ∷ xs)) all)
        here false all = refl

        go : (b : Bool) → is_gt (cmp new x) ≡ b → filter p (insert_sorted cmp new xs) ≡ cond (p new) (insert_sorted cmp new (filter p xs)) (filter p xs)
            → filter p (cond b (x ∷ insert_sorted cmp new xs) (new ∷ x ∷ xs)) ≡ cond (p new) (insert_sorted cmp new (filter p (x ∷ xs))) (filter p (x ∷ xs))
        go true e more = ap (λ l. cond (p x) (x ∷ l) l) more ∙ behind (p x) (p new) e
        go false e more = here (p new) (all-filter (AtMost new) p (x ∷ xs) (before_all new x xs e up.0))

    pub filter_sorted : (xs : List X) → filter p (sort_by cmp xs) ≡ sort_by cmp (filter p xs)
    filter_sorted [] = refl
    filter_sorted (x ∷ xs) = filter_inserted x (sort_by cmp xs) (up_sorted xs) ∙ go (p x) (filter_sorted xs)
      where
        go : (b : Bool) → filter p (sort_by cmp xs) ≡ sort_by cmp (filter p xs)
            → cond b (insert_sorted cmp x (filter p (sort_by cmp xs))) (filter p (sort_by cmp xs)) ≡ sort_by cmp (cond b (x ∷ filter p xs) (filter p xs))
        go true more = ap (insert_sorted cmp x) more
        go false more = more
