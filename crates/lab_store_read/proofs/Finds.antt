-- What is found among the rows of one parent, put in order and read.
use Rattle.std.proofs.Common.{◌≡◌, ◌≤◌, Bool, ◌&&◌, List, [], ◌∷◌, map, filter, find, length, slice_get, option_map, refl, sym, ap, ◌∙◌, arith, Ordering}
use Rattle.std.specs.Cmp.{IsTotalOrder}
use Rattle.std.proofs.lemmas.List.Sorted.{length_permutation}
use Rattle.sqlite_keyed.specs.Lists.{sort_by}
use Rattle.sqlite_keyed.proofs.ListLemmas.{filter-map, slice_get-filter, IsPermutation-filter}
use Rattle.sqlite_keyed.proofs.SortLemmas.{IsPermutation-sort_by}
use Rattle.lab_store_read.proofs.Sorted.{short_permutation}
use Rattle.lab_store_read.proofs.Lists.{both_filtered}

first_mapped : {X Y : Type 0} (f : X → Y) (xs : List X) → slice_get (map f xs) 0 ≡ option_map f (slice_get xs 0)
first_mapped f [] = refl
first_mapped f (x ∷ xs) = refl

-- where one row at most passes, the order of the rows is nothing to it
module _ {X Y : Type 0} (cmp : X → X → Ordering) (total : IsTotalOrder cmp) (mine : X → Bool) (shown : X → Y) (p : Y → Bool) where
  one_sorted : (xs : List X) → length (filter (λ x. mine x && p (shown x)) xs) ≤ 1
      → filter (λ x. p (shown x)) (sort_by cmp (filter mine xs)) ≡ filter (λ x. mine x && p (shown x)) xs
  one_sorted xs short =
      let q = λ (x : X). p (shown x) in
      let perm = IsPermutation-filter q _ _ (IsPermutation-sort_by cmp total (filter mine xs)) in
      let alone : length (filter q (filter mine xs)) ≤ 1 = rw (both_filtered mine q xs) short in
      let few : length (filter q (sort_by cmp (filter mine xs))) ≤ 1 = omega (arith, length_permutation _ _ perm, alone) in
      sym (short_permutation (filter q (sort_by cmp (filter mine xs))) (filter q (filter mine xs)) few perm) ∙ both_filtered mine q xs

  pub found_alone : (xs : List X) → length (filter (λ x. mine x && p (shown x)) xs) ≤ 1
      → find p (map shown (sort_by cmp (filter mine xs))) ≡ option_map shown (find (λ x. mine x && p (shown x)) xs)
  found_alone xs short =
      sym (slice_get-filter p _) ∙ ap (λ l. slice_get l 0) (filter-map p shown (sort_by cmp (filter mine xs)))
      ∙ first_mapped shown _ ∙ ap (λ l. option_map shown (slice_get l 0)) (one_sorted xs short)
      ∙ ap (option_map shown) (slice_get-filter (λ x. mine x && p (shown x)) xs)
