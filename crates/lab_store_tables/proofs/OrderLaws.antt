-- Rows of one parent in the order of their numbers: they rise, none of them is lost, and whoever is found by what no other
-- has is the one.
use Rattle.std.proofs.Common.{◌≡◌, ◌<◌, ℕ, ℤ, Bool, true, false, ◌==◌, cond, List, [], ◌∷◌, map, filter, find, Some, option_map, inl, inr, refl, sym, ap, subst, ◌∙◌, int_eq, is_gt, is_some, Ordering, Less, Equal, Greater, arith}
use Rattle.std.specs.Ordering.{nat_cmp}
use Rattle.std.specs.List.{AllByRecursion}
use Rattle.std.proofs.lemmas.Bool.{eq-eqb, eqb-true}
use Rattle.std.proofs.lemmas.Cmp.{ranked}
use Rattle.sqlite_trees.specs.Tree.{IsAscending}
use Rattle.sqlite_rules.specs.Lists.{Has}
use Rattle.sqlite_rules.proofs.ListLemmas.{all_has, all_from}
use Rattle.sqlite_keyed.specs.Keyed.{get_by, has_key}
use Rattle.sqlite_keyed.specs.Lists.{insert_sorted, sort_by}
use Rattle.sqlite_keyed.proofs.ListLemmas.{all_weaker}
use Rattle.lab_store_tables.proofs.SortLaws.{all_sorted}
use Rattle.lab_store_tables.proofs.NumberLaws.{each_admitted}
use Rattle.lab_store_tables.proofs.OneRow.{never}

-- ---- numbers

low_from : (a b : ℕ) (o : Ordering) → o ≡ nat_cmp a b → is_gt o ≡ false → (a == b) ≡ false → a < b
low_from a b Less e h apart = ranked a b Less e
low_from a b Equal e h apart = absurd (let yes : (a == b) ≡ true = eq-eqb a b (ranked a b Equal e) in cc)
low_from a b Greater e h apart = absurd cc

high_from : (a b : ℕ) (o : Ordering) → o ≡ nat_cmp a b → is_gt o ≡ true → b < a
high_from a b Less e h = absurd cc
high_from a b Equal e h = absurd cc
high_from a b Greater e h = ranked a b Greater e

pub unequal : (a b : ℕ) → a < b → (a == b) ≡ false
unequal a b h = never (a == b) (λ k. let same = eqb-true a b k in omega (arith, h, same))

-- ---- pairs of rows that a test admits

pub pairs_admitted : {X : Type 0} (S R : X → X → Type 0) (mine : X → Bool) → ((a b : X) → mine a ≡ true → mine b ≡ true → S a b → R a b)
    → (xs : List X) → IsAscending S xs → IsAscending R (filter mine xs)
pairs_admitted S R mine turn [] up = tt
pairs_admitted S R mine turn (x ∷ xs) up = go (mine x) refl (pairs_admitted S R mine turn xs up.1)
  where
    go : (b : Bool) → mine x ≡ b → IsAscending R (filter mine xs) → IsAscending R (cond b (x ∷ filter mine xs) (filter mine xs))
    go true e more = (each_admitted (S x) (R x) mine (λ y own s. turn x y e own s) xs up.0, more)
    go false e more = more

-- ---- rows in order

module _ {X : Type 0} (number : X → ℕ) where
  abbrev by_number : X → X → Ordering
  by_number one other = nat_cmp (number one) (number other)

  abbrev Below : X → X → Type 0
  Below one other = number one < number other

  abbrev Differ : X → X → Type 0
  Differ one other = (number one == number other) ≡ false

  all_inserted : (P : X → Type 0) (new : X) (xs : List X) → P new → AllByRecursion P xs → AllByRecursion P (insert_sorted by_number new xs)
  all_inserted P new [] h all = (h, tt)
  all_inserted P new (x ∷ xs) h all =
      elim (is_gt (by_number new x)) as (λ b. AllByRecursion P (cond b (x ∷ insert_sorted by_number new xs) (new ∷ x ∷ xs)))
      [ true ↦ (all.0, all_inserted P new xs h all.1) | false ↦ (h, all) ]

  up_inserted : (new : X) (xs : List X) → IsAscending Below xs → AllByRecursion (Differ new) xs → IsAscending Below (insert_sorted by_number new xs)
  up_inserted new [] up apart = (tt, tt)
  up_inserted new (x ∷ xs) up apart = go (is_gt (by_number new x)) refl (up_inserted new xs up.1 apart.1)
    where
      go : (b : Bool) → is_gt (by_number new x) ≡ b → IsAscending Below (insert_sorted by_number new xs)
          → IsAscending Below (cond b (x ∷ insert_sorted by_number new xs) (new ∷ x ∷ xs))
      go true e more = (all_inserted (Below x) new xs (high_from (number new) (number x) (by_number new x) refl e) up.0, more)
      go false e more =
          let low : number new < number x = low_from (number new) (number x) (by_number new x) refl e apart.0 in
          ((low, all_weaker (Below x) (Below new) (λ y h. omega (arith, low, h)) xs up.0), up)

  -- where no two have one number, they rise
  pub up_sorted : (xs : List X) → IsAscending (λ one other. (number one == number other) ≡ false) xs
      → IsAscending (λ one other. number one < number other) (sort_by (λ one other. nat_cmp (number one) (number other)) xs)
  up_sorted [] apart = tt
  up_sorted (x ∷ xs) apart = up_inserted x (sort_by by_number xs) (up_sorted xs apart.1) (all_sorted by_number (Differ x) xs apart.0)

-- ---- none is lost

module _ {X : Type 0} (cmp : X → X → Ordering) where
  put_there : (new : X) (xs : List X) → Has (insert_sorted cmp new xs) new
  put_there new [] = inl refl
  put_there new (x ∷ xs) =
      elim (is_gt (cmp new x)) as (λ b. Has (cond b (x ∷ insert_sorted cmp new xs) (new ∷ x ∷ xs)) new) [ true ↦ inr (put_there new xs) | false ↦ inl refl ]

  still_there : (new : X) (xs : List X) (x : X) → Has xs x → Has (insert_sorted cmp new xs) x
  still_there new [] x h = absurd h
  still_there new (y ∷ ys) x h = go (is_gt (cmp new y)) h (still_there new ys x)
    where
      go : (b : Bool) → Has (y ∷ ys) x → (Has ys x → Has (insert_sorted cmp new ys) x) → Has (cond b (y ∷ insert_sorted cmp new ys) (new ∷ y ∷ ys)) x
      go true (inl same) more = inl same
      go true (inr later) more = inr (more later)
      go false k more = inr k

  pub has_sorted : (xs : List X) (x : X) → Has xs x → Has (sort_by cmp xs) x
  has_sorted [] x h = absurd h
  has_sorted (y ∷ ys) x (inl same) = subst (λ z. Has (insert_sorted cmp y (sort_by cmp ys)) z) (sym same) (put_there y (sort_by cmp ys))
  has_sorted (y ∷ ys) x (inr later) = still_there y (sort_by cmp ys) x (has_sorted ys x later)

  pub sorted_has : (xs : List X) (x : X) → Has (sort_by cmp xs) x → Has xs x
  sorted_has xs x h = all_has (Has xs) (sort_by cmp xs) x (all_sorted cmp (Has xs) xs (all_from (Has xs) xs (λ y k. k))) h

pub shown_has : {X Y : Type 0} (f : X → Y) (xs : List X) (y : Y) → Has (map f xs) y → (x : X) × Has xs x × (y ≡ f x)
shown_has f [] y h = absurd h
shown_has f (x ∷ xs) y (inl same) = (x, inl refl, same)
shown_has f (x ∷ xs) y (inr later) = let more = shown_has f xs y later in (more.0, inr more.1, more.2)

-- ---- what is found

pub found_shown : {X Y : Type 0} (p : Y → Bool) (f : X → Y) (xs : List X) → find p (map f xs) ≡ option_map f (find (λ x. p (f x)) xs)
found_shown p f [] = refl
found_shown p f (x ∷ xs) = go (p (f x)) (found_shown p f xs)
  where
    go : (b : Bool) → find p (map f xs) ≡ option_map f (find (λ y. p (f y)) xs)
        → cond b (Some (f x)) (find p (map f xs)) ≡ option_map f (cond b (Some x) (find (λ y. p (f y)) xs))
    go true more = refl
    go false more = more

-- a row that alone passes is found
pub found_alone : {X : Type 0} (p : X → Bool) (xs : List X) (x : X) → Has xs x → p x ≡ true → ((y : X) → Has xs y → p y ≡ true → y ≡ x)
    → find p xs ≡ Some x
found_alone p [] x h passes alone = absurd h
found_alone p (y ∷ ys) x h passes alone = go (p y) refl h (λ later. found_alone p ys x later passes (λ z k. alone z (inr k)))
  where
    go : (b : Bool) → p y ≡ b → Has (y ∷ ys) x → (Has ys x → find p ys ≡ Some x) → cond b (Some y) (find p ys) ≡ Some x
    go true e k more = ap Some (alone y (inl refl) e)
    go false e (inl same) more = absurd (let yes : p y ≡ true = ap p (sym same) ∙ passes in cc)
    go false e (inr later) more = more later

-- no row has an id that is free
pub not_there : {X : Type 0} (key : X → ℤ) (xs : List X) (id : ℤ) (x : X) → has_key key xs id ≡ false → Has xs x → int_eq (key x) id ≡ false
not_there key [] id x free h = absurd h
not_there key (y ∷ ys) id x free h = go (int_eq (key y) id) refl free h (not_there key ys id x)
  where
    go : (b : Bool) → int_eq (key y) id ≡ b → is_some (cond b (Some y) (get_by key ys id)) ≡ false → Has (y ∷ ys) x
        → (has_key key ys id ≡ false → Has ys x → int_eq (key x) id ≡ false) → int_eq (key x) id ≡ false
    go true e k there more = absurd cc
    go false e k (inl same) more = ap (λ z. int_eq (key z) id) same ∙ e
    go false e k (inr later) more = more k later
