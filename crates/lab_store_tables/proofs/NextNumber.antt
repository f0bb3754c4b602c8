-- Rows beside one another that have numbers of their own, from 1 to how many they are: a row more with a number of its own
-- that isn't beyond the next one has the next one.
use Rattle.std.proofs.Common.{◌≡◌, ◌≤◌, inl, inr, ℕ, zero, suc, ◌+◌, ℤ, Bool, true, false, not, ◌==◌, cond, List, [], ◌∷◌, filter, length, refl, sym, ap, ◌∙◌, arith}
use Rattle.std.specs.List.{AllByRecursion}
use Rattle.std.proofs.lemmas.Bool.{eqb-true, eqb-false, eq-eqb, not-true, not_from_false, false_from_ne_true, cases_lt, cases_order}
use Rattle.sqlite_trees.specs.Tree.{IsAscending}
use Rattle.sqlite_keyed.specs.Keyed.{has_key, insert_by}
use Rattle.sqlite_keyed.specs.Rules.{AreApart}
use Rattle.sqlite_keyed.proofs.ListLemmas.{all_weaker, ascending-filter, filter_all}
use Rattle.sqlite_keyed.proofs.KeyedLemmas.{all-insert_by}
use Rattle.lab_store_tables.proofs.NumberLaws.{each_admitted}
use Rattle.lab_store_tables.proofs.Kept.{is_numbered, AreNumbered}
use Rattle.lab_store_tables.proofs.PutRows.{within_to, count_mine}

-- ---- no more rows than numbers

another : (a b k : ℕ) → (a == k) ≡ true → (a == b) ≡ false → not (b == k) ≡ true
another a b k own apart =
    not_from_false (b == k) (false_from_ne_true (b == k) (λ h. let same : (a == b) ≡ true = eq-eqb a b (eqb-true a k own ∙ sym (eqb-true b k h)) in cc))

lower : (a n : ℕ) → not (a == suc n) ≡ true → a ≤ suc n → a ≤ n
lower a n other most =
    let apart = eqb-false a (suc n) (not-true (a == suc n) other) in
    elim (cases_order a (suc n)) [
      | inl same ↦ absurd (apart same)
      | inr (inl below) ↦ omega (arith, below)
      | inr (inr above) ↦ absurd
          (omega (arith, above, most))
    ]

module _ {X : Type 0} (number : X → ℕ) where
  abbrev Differ : X → X → Type 0
  Differ one other = (number one == number other) ≡ false

  abbrev is_other : ℕ → X → Bool
  is_other k one = not (number one == k)

  one_at_most : (k : ℕ) (rows : List X) → IsAscending Differ rows → length rows ≤ length (filter (is_other k) rows) + 1
  one_at_most k [] apart = omega arith
  one_at_most k (one ∷ others) apart = go (number one == k) refl (one_at_most k others apart.1)
    where
      go : (b : Bool) → (number one == k) ≡ b → length others ≤ length (filter (is_other k) others) + 1
          → length (one ∷ others) ≤ length (cond (not b) (one ∷ filter (is_other k) others) (filter (is_other k) others)) + 1
      go true own more =
          let rest = ap length (filter_all (is_other k) others
          (all_weaker (λ other. Differ one other) (λ other. is_other k other ≡ true)
          (λ other h. another (number one) (number other) k own h) others apart.0)) in
          omega (arith, rest)
      go false other more = omega (arith, more)

  pub no_more : (n : ℕ) (rows : List X) → IsAscending Differ rows → AllByRecursion (λ one. (1 ≤ number one) × (number one ≤ n)) rows → length rows ≤ n
  no_more zero [] apart all = omega arith
  no_more zero (one ∷ others) apart all = let least = all.0.0 in let most = all.0.1 in absurd (omega (arith, least, most))
  no_more (suc n) rows apart all =
      let first = one_at_most (suc n) rows apart in
      let rest = no_more n (filter (is_other (suc n)) rows) (ascending-filter Differ (is_other (suc n)) rows apart)
      (each_admitted (λ one. (1 ≤ number one) × (number one ≤ suc n)) (λ one. (1 ≤ number one) × (number one ≤ n)) (is_other (suc n))
      (λ one other h. (h.0, lower (number one) n other h.1)) rows all) in
      omega (arith, first, rest)

-- ---- pairs of rows that a test admits

pub pairs_admitted : {X : Type 0} (S R : X → X → Type 0) (mine : X → Bool) → ((one other : X) → mine one ≡ true → mine other ≡ true → S one other → R one other)
    → (rows : List X) → IsAscending S rows → IsAscending R (filter mine rows)
pairs_admitted S R mine turn [] up = tt
pairs_admitted S R mine turn (one ∷ others) up = go (mine one) refl (pairs_admitted S R mine turn others up.1)
  where
    go : (b : Bool) → mine one ≡ b → IsAscending R (filter mine others) → IsAscending R (cond b (one ∷ filter mine others) (filter mine others))
    go true e more = (each_admitted (S one) (R one) mine (λ other own s. turn one other e own s) others up.0, more)
    go false e more = more

-- ---- the next number

module _ {X : Type 0} (key : X → ℤ) (beside clash : X → X → Bool) (number : X → ℕ) (rows : List X) (new : X) (fresh : has_key key rows (key new) ≡ false)
    (self : beside new new ≡ true) (numbered : AreNumbered beside number rows)
    (alike : (one : X) → beside new one ≡ true → length (filter (beside one) rows) ≡ length (filter (beside new) rows))
    (apart : AreApart clash (insert_by key rows new))
    (tells : (one other : X) → beside new one ≡ true → beside new other ≡ true → (number one == number other) ≡ true → clash one other ≡ true)
    (least : 1 ≤ number new) (most : number new ≤ length (filter (beside new) rows) + 1) where
  abbrev all_rows : List X
  all_rows = insert_by key rows new

  differing : IsAscending (λ one other. (number one == number other) ≡ false) (filter (beside new) all_rows)
  differing =
      pairs_admitted (λ one other. clash one other ≡ false) (λ one other. (number one == number other) ≡ false) (beside new)
      (λ one other mine own h. false_from_ne_true (number one == number other) (λ same. let both = tells one other mine own same in cc)) all_rows apart

  bounded : number new ≤ length (filter (beside new) rows)
      → AllByRecursion (λ one. (1 ≤ number one) × (number one ≤ length (filter (beside new) rows))) (filter (beside new) all_rows)
  bounded low =
      each_admitted (λ one. beside new one ≡ true → (1 ≤ number one) × (number one ≤ length (filter (beside new) rows)))
      (λ one. (1 ≤ number one) × (number one ≤ length (filter (beside new) rows))) (beside new) (λ one own h. h own) all_rows
      (all-insert_by key (λ one. beside new one ≡ true → (1 ≤ number one) × (number one ≤ length (filter (beside new) rows))) rows new (λ own. (least, low))
      (all_weaker (λ one. is_numbered beside number rows one ≡ true)
      (λ one. beside new one ≡ true → (1 ≤ number one) × (number one ≤ length (filter (beside new) rows)))
      (λ one within own.
      let both = within_to (number one) (length (filter (beside one) rows)) within in
      let top = both.1 in let same = alike one own in (both.0, omega (arith, top, same))) rows numbered))

  pub next_number : number new ≡ length (filter (beside new) rows) + 1
  next_number =
      elim (cases_lt (length (filter (beside new) rows)) (number new)) [
        | inl above ↦ omega (arith, above, most)
        | inr low ↦ absurd (
            let few = no_more number (length (filter (beside new) rows)) (filter (beside new) all_rows) differing (bounded low) in
            let more = count_mine key new (beside new) rows fresh self in omega (arith, few, more))
      ]
