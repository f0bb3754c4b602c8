-- Rows of one parent that share a text and a number, or stand in their order.
use Rattle.std.proofs.Common.{arith, ◌≡◌, ◌≤◌, ℕ, ℤ, true, false, ◌&&◌, List, filter, length, refl, sym, ap₂, ◌==◌, pos, ◌∙◌, int_eq, bytes_eq, Ordering, Less, Equal, Greater}
use Rattle.std.specs.Ordering.{is_eq, nat_cmp, ordering_then}
use Rattle.std.specs.Cmp.Lexicographic.{slice_cmp}
use Rattle.std.proofs.lemmas.Bool.{and_parts, and_from, eqb-true, eq-eqb}
use Rattle.std.proofs.lemmas.Bool.Decides.{nat_tests}
use Rattle.sqlite_value.specs.declared.value.Value.TheVariants.{Int, Text}
use Rattle.sqlite_value.specs.Order.{value_cmp}
use Rattle.sqlite_value.proofs.OrderLemmas.{value_cmp-Text}
use Rattle.sqlite_trees.specs.Tree.{IsAscending}
use Rattle.sqlite_keyed.specs.Rules.{AreApart}
use Rattle.sqlite_keyed.proofs.ListLemmas.{ascending-filter}
use Rattle.sqlite_keyed.proofs.KeyedLemmas.{same_int}
use Rattle.lab_store_read.proofs.Lists.{passes_filter, alone_if, int_alike, untied_found}
use Rattle.lab_store_read.proofs.Sorted.{by_one}
use Rattle.lab_store_tables.proofs.Comparing.{text_is, text_alike}

-- a form's code and then its version in ORDER BY
pub by_text_number : (s t : List ℕ) (m n : ℕ)
    → ordering_then (value_cmp (Text s) (Text t)) (ordering_then (value_cmp (Int (pos m)) (Int (pos n))) Equal) ≡ ordering_then (slice_cmp nat_cmp s t) (nat_cmp m n)
by_text_number s t m n = ap₂ ordering_then (value_cmp-Text s t) (by_one m n)

apart_numbers : (c d : ℕ) → (c == d) ≡ false → is_eq (nat_cmp c d) ≡ false
apart_numbers c d h = grind (arith, nat_tests)

-- where the second column tells rows apart, it doesn't matter what the first says
then_untied : (first second : Ordering) → is_eq second ≡ false → is_eq (ordering_then first second) ≡ false
then_untied Less second h = refl
then_untied Equal second h = h
then_untied Greater second h = refl

-- of the versions of a form no two have one number
module _ {X : Type 0} (parent : X → ℤ) (text : X → List ℕ) (num : X → ℕ) (v : ℤ) (s : List ℕ) where
  untie_numbers : (a b : X) → (int_eq (parent a) v && bytes_eq (text a) s) ≡ true → (int_eq (parent b) v && bytes_eq (text b) s) ≡ true
      → ((int_eq (parent a) (parent b) && bytes_eq (text a) (text b)) && (num a == num b)) ≡ false
      → is_eq (ordering_then (slice_cmp nat_cmp (text a) (text b)) (nat_cmp (num a) (num b))) ≡ false
  untie_numbers a b p q h =
      let one = and_parts _ _ p in
      let two = and_parts _ _ q in
      let parents : int_eq (parent a) (parent b) ≡ true = int_alike _ _ (same_int (parent a) v one.0 ∙ sym (same_int (parent b) v two.0)) in
      let texts : bytes_eq (text a) (text b) ≡ true = text_alike _ _ (text_is (text a) s one.1 ∙ sym (text_is (text b) s two.1)) in
      let numbers : (num a == num b) ≡ false = rw (parents, texts) at h in
      then_untied (slice_cmp nat_cmp (text a) (text b)) (nat_cmp (num a) (num b)) (apart_numbers (num a) (num b) numbers)

  pub untied_versions : (xs : List X) → AreApart (λ a b. (int_eq (parent a) (parent b) && bytes_eq (text a) (text b)) && (num a == num b)) xs
      → IsAscending (λ a b. is_eq (ordering_then (slice_cmp nat_cmp (text a) (text b)) (nat_cmp (num a) (num b))) ≡ false) (filter (λ x. int_eq (parent x) v && bytes_eq (text x) s) xs)
  untied_versions xs apart =
      untied_found (λ a b. (int_eq (parent a) (parent b) && bytes_eq (text a) (text b)) && (num a == num b))
      (λ a b. is_eq (ordering_then (slice_cmp nat_cmp (text a) (text b)) (nat_cmp (num a) (num b)))) (λ x. int_eq (parent x) v && bytes_eq (text x) s) untie_numbers
      (filter (λ x. int_eq (parent x) v && bytes_eq (text x) s) xs) (ascending-filter _ (λ x. int_eq (parent x) v && bytes_eq (text x) s) xs apart)
      (passes_filter (λ x. int_eq (parent x) v && bytes_eq (text x) s) xs)

  pub alone_version : (n : ℕ) (xs : List X) → AreApart (λ a b. (int_eq (parent a) (parent b) && bytes_eq (text a) (text b)) && (num a == num b)) xs
      → length (filter (λ x. int_eq (parent x) v && (bytes_eq (text x) s && (num x == n))) xs) ≤ 1
  alone_version n = alone_if _ _ (λ a b p q.
      let one = and_parts _ _ p in
      let two = and_parts _ _ q in
      let ones = and_parts _ _ one.1 in
      let twos = and_parts _ _ two.1 in
      and_from _ _ (and_from _ _ (int_alike _ _ (same_int _ v one.0 ∙ sym (same_int _ v two.0))) (text_alike _ _ (text_is _ s ones.0 ∙ sym (text_is _ s twos.0))))
      (eq-eqb _ _ (eqb-true _ n ones.1 ∙ sym (eqb-true _ n twos.1))))
