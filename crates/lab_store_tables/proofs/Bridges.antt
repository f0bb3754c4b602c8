-- Tests of lists, and what the kit's relations say of the same lists.
use Rattle.std.proofs.Common.{◌≡◌, ℤ, Bool, true, false, not, List, [], ◌∷◌, Option, IsTrue, refl}
use Rattle.std.specs.List.{list_all}
use Rattle.std.proofs.lemmas.Bool.{and_parts, and_from}
use Rattle.std.proofs.lemmas.List.Elements.{All-from_recursion}
use Rattle.sqlite_keyed.specs.Rules.{AreApart, HaveParents, has_parent}
use Rattle.sqlite_keyed.proofs.ListLemmas.{all_from_test, test_from_all, all_weaker}
use Rattle.sqlite_keyed.proofs.RuleLemmas.{each_passes}
use Rattle.lab_store_tables.specs.WellKept.{are_apart, have_parents}

not_true : (b : Bool) → not b ≡ true → b ≡ false
not_true true h = absurd cc
not_true false h = refl

not_false : (b : Bool) → b ≡ false → not b ≡ true
not_false true h = absurd cc
not_false false h = refl

-- no two rows clash
module _ {X : Type 0} (clash : X → X → Bool) where
  pub apart_from_test : (rows : List X) → are_apart clash rows ≡ true → AreApart clash rows
  apart_from_test [] holds = tt
  apart_from_test (one ∷ others) holds =
      let both = and_parts (list_all (λ other. not (clash one other)) others) (are_apart clash others) holds in (
        all_weaker (λ other. not (clash one other) ≡ true) (λ other. clash one other ≡ false)
            (λ other h. not_true (clash one other) h) others (all_from_test (λ other. not (clash one other)) others both.0),
        apart_from_test others both.1,
      )

  pub test_from_apart : (rows : List X) → AreApart clash rows → are_apart clash rows ≡ true
  test_from_apart [] apart = refl
  test_from_apart (one ∷ others) apart =
      and_from (list_all (λ other. not (clash one other)) others) (are_apart clash others)
      (test_from_all (λ other. not (clash one other)) others
      (all_weaker (λ other. clash one other ≡ false) (λ other. not (clash one other) ≡ true)
      (λ other h. not_false (clash one other) h) others apart.0))
      (test_from_apart others apart.1)

-- each arrow leads to a row of the parents
module _ {X P : Type 0} (arrow : X → Option ℤ) (id : P → ℤ) (parents : List P) where
  pub parents_from_test : (rows : List X) → have_parents arrow id parents rows ≡ true → HaveParents arrow id parents rows
  parents_from_test rows holds =
      All-from_recursion (λ one. IsTrue (has_parent id parents (arrow one))) rows
      (all_from_test (λ one. has_parent id parents (arrow one)) rows holds)

  pub test_from_parents : (rows : List X) → HaveParents arrow id parents rows → have_parents arrow id parents rows ≡ true
  test_from_parents rows have =
      test_from_all (λ one. has_parent id parents (arrow one)) rows (each_passes (λ one. has_parent id parents (arrow one)) rows have)
