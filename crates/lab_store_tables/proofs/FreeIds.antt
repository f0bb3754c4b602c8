-- A free id: no row has it and no arrow leads to it, and a row that is put in under it has an id of its own.
use Rattle.std.proofs.Common.{◌≡◌, ℤ, true, false, cond, List, [], ◌∷◌, filter, Some, is_some, refl, ap, ap₂, ◌∙◌, Ordering, Less, Equal, Greater, int_cmp, int_eq, is_eq, map}
use Rattle.std.specs.List.{AllByRecursion}
use Rattle.std.specs.Ordering.{match_ordering}
use Rattle.sqlite_keyed.specs.Keyed.{get_by, has_key, insert_by}
use Rattle.sqlite_keyed.specs.Rules.{AreApart, has_parent}
use Rattle.sqlite_keyed.proofs.ListLemmas.{all_weaker, all_from_test, filter_none, none_from_any, ascending-map, ascending_weaker}
use Rattle.sqlite_keyed.proofs.KeyedLemmas.{all-insert_by, int_eq_apart}
use Rattle.sqlite_keyed.proofs.SliceLemmas.{any_is_found}
use Rattle.lab_store_tables.specs.WellKept.{have_own_ids, have_parents}
use Rattle.lab_store_tables.proofs.Bridges.{apart_from_test, test_from_apart}
use Rattle.lab_store_tables.proofs.OneRow.{turned}

-- no row has it
pub none_has : {X : Type 0} (key : X → ℤ) (rows : List X) (id : ℤ) → has_key key rows id ≡ false → AllByRecursion (λ one. int_eq (key one) id ≡ false) rows
none_has key rows id free = none_from_any (λ one. int_eq (key one) id) rows (any_is_found (λ one. int_eq (key one) id) rows ∙ free)

-- nor does an arrow lead there
pub none_leads : {X P : Type 0} (key : P → ℤ) (parents : List P) (parent : X → ℤ) (rows : List X) (id : ℤ) → has_key key parents id ≡ false
    → have_parents (λ one. Some (parent one)) key parents rows ≡ true → filter (λ one. int_eq (parent one) id) rows ≡ []
none_leads key parents parent rows id free lead =
    filter_none (λ one. int_eq (parent one) id) rows
    (all_weaker (λ one. has_parent key parents (Some (parent one)) ≡ true) (λ one. int_eq (parent one) id ≡ false)
    (λ one there.
    int_eq_apart (parent one) id (λ same. let here : has_key key parents (parent one) ≡ false = ap (λ k. has_key key parents k) same ∙ free in cc)) rows
    (all_from_test (λ one. has_parent key parents (Some (parent one))) rows lead))

-- ---- ids of their own

module _ {X : Type 0} (key : X → ℤ) where
  abbrev Differ : X → X → Type 0
  Differ one other = int_eq (key one) (key other) ≡ false

  apart_put : (new : X) (rows : List X) → has_key key rows (key new) ≡ false → AreApart (λ one other. int_eq (key one) (key other)) rows
      → AreApart (λ one other. int_eq (key one) (key other)) (insert_by key rows new)
  apart_put new [] free apart = (tt, tt)
  apart_put new (x ∷ rows) free apart = go (int_cmp (key x) (key new)) refl free (apart_put new rows)
    where
      go : (o : Ordering) → int_cmp (key x) (key new) ≡ o → is_some (cond (is_eq (int_cmp (key x) (key new))) (Some x) (get_by key rows (key new))) ≡ false
          → (has_key key rows (key new) ≡ false → AreApart (λ one other. int_eq (key one) (key other)) rows
          → AreApart (λ one other. int_eq (key one) (key other)) (insert_by key rows new))
          → AreApart (λ one other. int_eq (key one) (key other)) (match_ordering o (x ∷ insert_by key rows new) (new ∷ rows) (new ∷ x ∷ rows))
      go Less e h more = (all-insert_by key (λ other. Differ x other) rows new (ap is_eq e) apart.0, more (rw e at h) apart.1)
      go Equal e h more = absurd (let wrong = rw e at h in cc)
      go Greater e h more = (
        all_weaker (λ other. int_eq (key other) (key new) ≡ false) (λ other. Differ new other) (λ other h. turned (key other) (key new) h) (x ∷ rows)
            (none_has key (x ∷ rows) (key new) free),
        apart,
      )

  pub own_put : (new : X) (rows : List X) → has_key key rows (key new) ≡ false → have_own_ids key rows ≡ true → have_own_ids key (insert_by key rows new) ≡ true
  own_put new rows free own =
      test_from_apart (λ one other. int_eq (key one) (key other)) (insert_by key rows new)
      (apart_put new rows free (apart_from_test (λ one other. int_eq (key one) (key other)) rows own))

  pub own_set : (set : X → X) → ((one : X) → key (set one) ≡ key one) → (rows : List X) → have_own_ids key rows ≡ true → have_own_ids key (map set rows) ≡ true
  own_set set stay rows own =
      test_from_apart (λ one other. int_eq (key one) (key other)) (map set rows)
      (ascending-map Differ set rows
      (ascending_weaker Differ (λ one other. Differ (set one) (set other)) (λ one other h. ap₂ int_eq (stay one) (stay other) ∙ h) rows
      (apart_from_test (λ one other. int_eq (key one) (key other)) rows own)))
