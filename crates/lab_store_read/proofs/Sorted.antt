-- What a query over typed tables answers, in the order that it asks for, and which values are equal or not below another.
use Rattle.std.proofs.Common.{◌≡◌, ◌≤◌, ℤ, Bool, true, false, ◌&&◌, List, [], ◌∷◌, map, filter, length, None, refl, ap, ◌∙◌, subst, arith, Ordering, Less, Equal, Greater, int_cmp, ℕ, pos, ◌==◌, ◌<◌, sym, lt-ltb, le-ltb, nat_le}
use Rattle.std.specs.List.{list_all}
use Rattle.std.specs.List.Sorted.{IsPermutation}
use Rattle.std.specs.Ordering.{is_eq, ordering_then, nat_cmp, is_ge, is_le}
use Rattle.std.proofs.lemmas.Int.{ints}
use Rattle.std.specs.Cmp.{int_cmp_is}
use Rattle.std.proofs.lemmas.Bool.Decides.{nat_tests}
use Rattle.std.proofs.lemmas.List.{length-map}
use Rattle.std.proofs.lemmas.List.Sorted.{length_permutation}
use Rattle.sqlite_value.specs.declared.value.Value.TheVariants.{Int}
use Rattle.sqlite_value.specs.declared.keys.Collation.TheVariants.{Binary}
use Rattle.sqlite_value.specs.Order.{Row, value_cmp, column}
use Rattle.sqlite_value.proofs.OrderLemmas.{value_cmp-Int}
use Rattle.sqlite_trees.specs.Tree.{Trees, IsAscending}
use Rattle.sqlite_sql.specs.Ops.{binary, is_true}
use Rattle.sqlite_sql.specs.Term.{eval_all, holds, Term}
use Rattle.sqlite_sql.specs.Group.{IsGrouped}
use Rattle.sqlite_sql.specs.Query.{Query, matches, Output, output, output_cmp, page, IsKept as IsDistinct, IsAnswer}
use Rattle.sqlite_sql.specs.declared.ops.BinaryOp.TheVariants.{Compare}
use Rattle.sqlite_sql.specs.declared.ops.CompareOp.TheVariants.{Eq, Ge, Le}
use Rattle.sqlite_sql.proofs.QueryLemmas.{output_cmp_total}
use Rattle.sqlite.proofs.Callers.{one_permutation}
use Rattle.sqlite_keyed.specs.Lists.{sort_by}
use Rattle.sqlite_keyed.proofs.ListLemmas.{map-map, ascending-map, ascending_weaker}
use Rattle.sqlite_keyed.proofs.SortLemmas.{sorted_is-sort_by, sort_by-map}
use Rattle.sqlite_typed.proofs.AnswerLemmas.{Source, matches_are, last_table, at_end}
use Rattle.sqlite_value.specs.declared.value.Value.{Value}
use Rattle.sqlite_value.specs.Keys.{ascending, by_key}
use Rattle.sqlite_keyed.specs.Keyed.{IsKeyedBy}
use Rattle.lab_store_read.proofs.Texts.{own_query}
use Rattle.lab_store_tables.proofs.Comparing.{truth_is}

same_test : (a b : ℕ) (x : Bool) → (a == b) ≡ x → is_eq (int_cmp (pos a) (pos b)) ≡ x
same_test a b true e = grind (arith, nat_tests)
same_test a b false e = grind (arith, nat_tests)

pub equal_numbers : (a b : ℕ) → is_true (binary (Compare Eq Binary) (Int (pos a)) (Int (pos b))) ≡ (a == b)
unfolding binary
equal_numbers a b = truth_is _ ∙ ap is_eq (value_cmp-Int (pos a) (pos b)) ∙ same_test a b (a == b) refl

pub and_true : (b : Bool) → (b && true) ≡ b
and_true true = refl
and_true false = refl

then_equal : (o : Ordering) → ordering_then o Equal ≡ o
then_equal Less = refl
then_equal Equal = refl
then_equal Greater = refl

same_order : (a b : ℕ) (o : Ordering) → nat_cmp a b ≡ o → int_cmp (pos a) (pos b) ≡ o
same_order a b Less h = grind (arith, ints, nat_tests)
same_order a b Equal h = grind (arith, ints, nat_tests)
same_order a b Greater h = grind (arith, ints, nat_tests)

order_b : (a b : ℕ) → int_cmp (pos a) (pos b) ≡ nat_cmp a b
order_b a b = grind (arith, ints, nat_tests)

less_b : (a b : ℕ) → a < b → int_cmp (pos a) (pos b) ≡ Less
less_b a b h = rw (lt-ltb a b h)

even_b : (a b : ℕ) → a ≡ b → int_cmp (pos a) (pos b) ≡ Equal
even_b a b h = sym (int_cmp_is (pos a) (pos b) Equal (ap pos h))

more_b : (a b : ℕ) → b < a → int_cmp (pos a) (pos b) ≡ Greater
more_b a b h = rw (le-ltb a b (omega arith), lt-ltb b a h)

same_order_b : (a b : ℕ) (o : Ordering) → nat_cmp a b ≡ o → int_cmp (pos a) (pos b) ≡ o
same_order_b a b Less h = less_b a b (grind (arith, nat_tests))
same_order_b a b Equal h = even_b a b (grind (arith, nat_tests))
same_order_b a b Greater h = more_b a b (grind (arith, nat_tests))

-- one column of numbers in ORDER BY
pub by_one : (a b : ℕ) → ordering_then (value_cmp (Int (pos a)) (Int (pos b))) Equal ≡ nat_cmp a b
by_one a b = then_equal _ ∙ value_cmp-Int (pos a) (pos b) ∙ same_order a b (nat_cmp a b) refl

nothing : {X : Type 0} (zs : List X) → length zs ≡ 0 → zs ≡ []
nothing [] len = refl
nothing (z ∷ zs) len = absurd (omega arith)

-- a permutation of a list that has one element at most
pub short_permutation : {X : Type 0} (xs ys : List X) → length xs ≤ 1 → IsPermutation xs ys → ys ≡ xs
short_permutation [] ys short h = nothing ys (length_permutation [] ys h)
short_permutation (x ∷ []) ys short h = one_permutation x ys h
short_permutation (x ∷ y ∷ more) ys short h = absurd (omega arith)

module _ {A : Type 0} (q : Query) (db : Trees) (params : Row) (source : Source db q.from A) (p : A → Bool)
    (tests : (a : A) → list_all (holds (params ∷ source.env (params ∷ []) a)) q.filter ≡ p a) (no_group : q.group ≡ None) (no_distinct : q.distinct ≡ false) where
  abbrev out : A → Output
  out a = output q (params ∷ source.env (params ∷ []) a)

  arranged : (rows : List Row) (answer : IsAnswer q db params rows) → IsPermutation (map out (filter p source.rows)) answer.ordered
  arranged rows answer =
      let staged = subst (λ g. IsGrouped g params (matches db q.filter q.from (params ∷ [])) answer.staged) no_group answer.grouped in
      let kept = subst (λ d. IsDistinct d q.collations (map (output q) answer.staged) answer.kept) no_distinct answer.distinct in
      subst (λ l. IsPermutation l answer.ordered) (kept ∙ ap (map (output q)) (staged ∙ matches_are q db params source p tests) ∙ map-map (output q) _ _) answer.same

  shown : (rows : List Row) (answer : IsAnswer q db params rows) (all : List A) → answer.ordered ≡ map out all
      → rows ≡ page q params (map (λ a. eval_all q.project (params ∷ source.env (params ∷ []) a)) all)
  shown rows answer all is = answer.shown ∙ ap (λ l. page q params (map (λ (o : Output). o.1) l)) is ∙ ap (page q params) (map-map (λ (o : Output). o.1) out all)

  -- ORDER BY leaves no tie among the rows that pass
  pub sorted_answer : (order : A → A → Ordering) → ((a b : A) → output_cmp q (output q (params ∷ source.env (params ∷ []) a)) (output q (params ∷ source.env (params ∷ []) b)) ≡ order a b)
      → IsAscending (λ a b. is_eq (order a b) ≡ false) (filter p source.rows)
      → (rows : List Row) → IsAnswer q db params rows → rows ≡ page q params (map (λ a. eval_all q.project (params ∷ source.env (params ∷ []) a)) (sort_by order (filter p source.rows)))
  sorted_answer order is untied rows answer =
      let apart = ascending-map (λ x y. is_eq (output_cmp q x y) ≡ false) out _
      (ascending_weaker _ (λ a b. is_eq (output_cmp q (out a) (out b)) ≡ false) (λ a b h. ap is_eq (is a b) ∙ h) _ untied) in
      shown rows answer _ (sorted_is-sort_by (output_cmp q) (output_cmp_total q) _ answer.ordered apart (arranged rows answer) answer.sorted
      ∙ sort_by-map (output_cmp q) out (filter p source.rows) ∙ (λ i. map out (sort_by (λ a b. is a b i) (filter p source.rows))))

  -- one row at most passes
  pub only_answer : length (filter p source.rows) ≤ 1
      → (rows : List Row) → IsAnswer q db params rows → rows ≡ page q params (map (λ a. eval_all q.project (params ∷ source.env (params ∷ []) a)) (filter p source.rows))
  only_answer short rows answer =
      shown rows answer _ (short_permutation (map out (filter p source.rows)) answer.ordered (rw (length-map (filter p source.rows) out) short) (arranged rows answer))

not_below : (a b : ℕ) (x : Bool) → nat_le b a ≡ x → is_ge (int_cmp (pos a) (pos b)) ≡ x
not_below a b true e = grind (arith, ints, nat_tests)
not_below a b false e = grind (arith, ints, nat_tests)

not_above : (a b : ℕ) (x : Bool) → nat_le a b ≡ x → is_le (int_cmp (pos a) (pos b)) ≡ x
not_above a b true e = grind (arith, ints, nat_tests)
not_above a b false e = grind (arith, ints, nat_tests)

pub from_number : (a b : ℕ) → is_true (binary (Compare Ge Binary) (Int (pos a)) (Int (pos b))) ≡ nat_le b a
unfolding binary
from_number a b = truth_is _ ∙ ap is_ge (value_cmp-Int (pos a) (pos b)) ∙ not_below a b (nat_le b a) refl

pub to_number : (a b : ℕ) → is_true (binary (Compare Le Binary) (Int (pos a)) (Int (pos b))) ≡ nat_le a b
unfolding binary
to_number a b = truth_is _ ∙ ap is_le (value_cmp-Int (pos a) (pos b)) ∙ not_above a b (nat_le a b) refl

-- those rows that pass a test, of which no two tie
module _ {X : Type 0} (db : Trees) (tree : ℕ) (encode : X → Row) (key : X → ℤ) (xs : List X) (stored : db tree ≡ map encode xs) (rise : IsKeyedBy key xs)
    (p : X → Bool) (order : X → X → Ordering) (untied : IsAscending (λ a b. is_eq (order a b) ≡ false) (filter p xs)) where
  pub own_rows : (tests shown : List Term) (at : ℕ) (params : Row) (show : X → Row) (value : X → Value)
      → ((x : X) → list_all (holds (params ∷ encode x ∷ [])) tests ≡ p x)
      → ((x : X) → eval_all shown (params ∷ encode x ∷ []) ≡ show x)
      → ((x : X) → column (encode x) at ≡ value x)
      → ((a b : X) → ordering_then (by_key (ascending Binary) (value a) (value b)) Equal ≡ order a b)
      → (rows : List Row) → IsAnswer (own_query tree tests shown at) db params rows
      → rows ≡ map show (sort_by order (filter p xs))
  own_rows tests shown at params show value passes shows valued ordered rows answer =
      let q = own_query tree tests shown at in
      let source = last_table db tree encode key xs stored rise (at_end db) in
      let by : (a b : X) → output_cmp q (output q (params ∷ encode a ∷ [])) (output q (params ∷ encode b ∷ [])) ≡ order a b =
      λ a b. rw (valued a, valued b) (ordered a b) in
      sorted_answer q db params source p passes refl refl order by untied rows answer ∙ (λ i. map (λ x. shows x i) (sort_by order (filter p xs)))
