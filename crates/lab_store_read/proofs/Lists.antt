-- Lists of typed rows: those of one parent, those that share a key or that a key leads to, and their order.
use Rattle.std.proofs.Common.{◌≡◌, ◌≤◌, ℕ, ℤ, Bool, true, false, ◌&&◌, cond, List, [], ◌∷◌, ◌++◌, map, filter, length, slice_get, Option, unwrap_or, is_some, refl, sym, ap, ◌∙◌, arith, int_eq, bytes_eq, ◌==◌, subst}
use Rattle.std.specs.List.{AllByRecursion}
use Rattle.std.proofs.lemmas.Bool.{and_parts, and_from, eqb-true, eq-eqb}
use Rattle.std.proofs.lemmas.Int.{ints}
use Rattle.std.specs.Ordering.{is_eq, nat_cmp}
use Rattle.std.proofs.lemmas.Bool.Decides.{nat_tests}
use Rattle.std.proofs.lemmas.List.Elements.{filter-append}
use Rattle.sqlite_trees.specs.Tree.{IsAscending}
use Rattle.sqlite_keyed.specs.Keyed.{IsKeyedBy, get_by, has_key}
use Rattle.sqlite_keyed.specs.Lists.{pairs}
use Rattle.sqlite_keyed.specs.Rules.{AreApart}
use Rattle.sqlite_keyed.proofs.ListLemmas.{all_both, all-filter, filter-map, filter_none, all_of, slice_get-filter, ascending-filter}
use Rattle.sqlite_keyed.proofs.KeyedLemmas.{same_int}
use Rattle.sqlite_keyed.proofs.RuleLemmas.{at_most_one}
use Rattle.std.specs.Cmp.Lexicographic.{slice_cmp}
use Rattle.std.proofs.lemmas.Map.Text.{is_eq-slice_cmp}
use Rattle.lab_store_tables.proofs.Comparing.{text_alike, text_is}

pub passes_filter : {X : Type 0} (p : X → Bool) (xs : List X) → AllByRecursion (λ x. p x ≡ true) (filter p xs)
passes_filter p [] = tt
passes_filter p (x ∷ xs) = go (p x) refl (passes_filter p xs)
  where
    go : (b : Bool) → p x ≡ b → AllByRecursion (λ y. p y ≡ true) (filter p xs) → AllByRecursion (λ y. p y ≡ true) (cond b (x ∷ filter p xs) (filter p xs))
    go true e more = (e, more)
    go false e more = more

apart_numbers : (c d : ℕ) → (c == d) ≡ false → is_eq (nat_cmp c d) ≡ false
apart_numbers c d h = grind (arith, nat_tests)

untie : (a b : ℤ) (c d : ℕ) (v : ℤ) → int_eq a v ≡ true → int_eq b v ≡ true → (int_eq a b && (c == d)) ≡ false → is_eq (nat_cmp c d) ≡ false
untie a b c d v p q h =
    let same : a ≡ b = same_int a v p ∙ sym (same_int b v q) in
    let here : int_eq a b ≡ true = grind (arith, ints) in
    apart_numbers c d (rw here at h)

-- of the rows of one parent no two have one number
module _ {X : Type 0} (parent : X → ℤ) (num : X → ℕ) where
  pub untied_in : (v : ℤ) (xs : List X) → AreApart (λ a b. int_eq (parent a) (parent b) && (num a == num b)) xs
      → IsAscending (λ a b. is_eq (nat_cmp (num a) (num b)) ≡ false) (filter (λ x. int_eq (parent x) v) xs)
  untied_in v [] apart = tt
  untied_in v (x ∷ xs) apart = go (int_eq (parent x) v) refl (untied_in v xs apart.1)
    where
      go : (b : Bool) → int_eq (parent x) v ≡ b → IsAscending (λ a b. is_eq (nat_cmp (num a) (num b)) ≡ false) (filter (λ y. int_eq (parent y) v) xs)
          → IsAscending (λ a b. is_eq (nat_cmp (num a) (num b)) ≡ false) (cond b (x ∷ filter (λ y. int_eq (parent y) v) xs) (filter (λ y. int_eq (parent y) v) xs))
      go true e more = (
        all_both _ _ (λ y. is_eq (nat_cmp (num x) (num y)) ≡ false) (λ y h k. untie (parent x) (parent y) (num x) (num y) v e k h) _
            (all-filter _ (λ y. int_eq (parent y) v) xs apart.0) (passes_filter (λ y. int_eq (parent y) v) xs),
        more,
      )
      go false e more = more

-- the rows that a reference leads to
module _ {P : Type 0} (key : P → ℤ) (none : P) where
  abbrev pub at_id : List P → ℤ → P
  at_id ps id = unwrap_or (get_by key ps id) none

  pub one_found : (ps : List P) (id : ℤ) → IsKeyedBy key ps → has_key key ps id ≡ true → filter (λ y. int_eq (key y) id) ps ≡ at_id ps id ∷ []
  one_found ps id up here =
      let short = at_most_one key id (λ y. int_eq (key y) id) (λ y h. h) ps up in
      let first = slice_get-filter (λ y. int_eq (key y) id) ps in
      go (filter (λ y. int_eq (key y) id) ps) (get_by key ps id) short first here
    where
      go : (found : List P) (o : Option P) → length found ≤ 1 → slice_get found 0 ≡ o → is_some o ≡ true → found ≡ unwrap_or o none ∷ []
      go [] o short e h = absurd (let n = rw (sym e) at h in cc)
      go (y ∷ []) o short e h = rw (sym e) refl
      go (y ∷ z ∷ more) o short e h = absurd (omega arith)

  module _ {X : Type 0} (mine : X → Bool) (ref : X → ℤ) where
    pub joined : (ps : List P) → IsKeyedBy key ps → (xs : List X) → AllByRecursion (λ x. has_key key ps (ref x) ≡ true) xs
        → filter (λ (a : X × P). mine a.0 && int_eq (key a.1) (ref a.0)) (pairs xs ps) ≡ map (λ x. (x, at_id ps (ref x))) (filter mine xs)
    joined ps up [] have = refl
    joined ps up (x ∷ xs) have =
        filter-append test (map pair ps) (pairs xs ps) ∙ ap (λ l. l ++ filter test (pairs xs ps)) (filter-map test pair ps) ∙ ap (λ l. map pair (filter (λ y. test (pair y)) ps) ++ l) (joined ps up xs have.1) ∙ go (mine x)
      where
        test : X × P → Bool
        test a = mine a.0 && int_eq (key a.1) (ref a.0)

        pair : P → X × P
        pair y = (x, y)

        lead : X → X × P
        lead z = (z, at_id ps (ref z))

        go : (b : Bool) → map pair (filter (λ y. b && int_eq (key y) (ref x)) ps) ++ map lead (filter mine xs) ≡ map lead (cond b (x ∷ filter mine xs) (filter mine xs))
        go true = ap (λ l. map pair l ++ map lead (filter mine xs)) (one_found ps (ref x) up have.0)
        go false = ap (λ l. map pair l ++ map lead (filter mine xs)) (filter_none (λ y. false) ps (all_of _ (λ y. refl) ps))

-- rows that share what no two rows share
pub alone_if : {X : Type 0} (clash : X → X → Bool) (p : X → Bool) → ((a b : X) → p a ≡ true → p b ≡ true → clash a b ≡ true) → (xs : List X) → AreApart clash xs → length (filter p xs) ≤ 1
alone_if {X} clash p both xs apart = go (filter p xs) (ascending-filter _ p xs apart) (passes_filter p xs)
  where
    go : (found : List X) → AreApart clash found → AllByRecursion (λ x. p x ≡ true) found → length found ≤ 1
    go [] above all = omega arith
    go (a ∷ []) above all = omega arith
    go (a ∷ b ∷ more) above all = absurd (let yes = both a b all.0 all.1.0 in let no = above.0.0 in cc)

pub alone_text : {X : Type 0} (code : X → List ℕ) (c : List ℕ) (xs : List X) → AreApart (λ a b. bytes_eq (code a) (code b)) xs → length (filter (λ x. bytes_eq (code x) c) xs) ≤ 1
alone_text code c = alone_if _ _ (λ a b p q. text_alike (code a) (code b) (text_is (code a) c p ∙ sym (text_is (code b) c q)))

pub int_alike : (a b : ℤ) → a ≡ b → int_eq a b ≡ true
int_alike a b e = grind (arith, ints)

pub alone_numbers : {X : Type 0} (parent : X → ℤ) (num : X → ℕ) (v : ℤ) (n : ℕ) (xs : List X) → AreApart (λ a b. int_eq (parent a) (parent b) && (num a == num b)) xs
    → length (filter (λ x. int_eq (parent x) v && (num x == n)) xs) ≤ 1
alone_numbers parent num v n = alone_if _ _ (λ a b p q.
    let one = and_parts _ _ p in
    let two = and_parts _ _ q in
    and_from _ _ (int_alike _ _ (same_int _ v one.0 ∙ sym (same_int _ v two.0))) (eq-eqb _ _ (eqb-true _ n one.1 ∙ sym (eqb-true _ n two.1))))

pub both_filtered : {X : Type 0} (p q : X → Bool) (xs : List X) → filter q (filter p xs) ≡ filter (λ x. p x && q x) xs
both_filtered p q [] = refl
both_filtered p q (x ∷ xs) = go (p x) (both_filtered p q xs)
  where
    go : (b : Bool) → filter q (filter p xs) ≡ filter (λ y. p y && q y) xs
        → filter q (cond b (x ∷ filter p xs) (filter p xs)) ≡ cond (b && q x) (x ∷ filter (λ y. p y && q y) xs) (filter (λ y. p y && q y) xs)
    go true more = ap (λ l. cond (q x) (x ∷ l) l) more
    go false more = more

-- of those rows of one parent that pass a test, no two have one number
pub untied_also : {X : Type 0} (parent : X → ℤ) (num : X → ℕ) (also : X → Bool) (v : ℤ) (xs : List X) → AreApart (λ a b. int_eq (parent a) (parent b) && (num a == num b)) xs
    → IsAscending (λ a b. is_eq (nat_cmp (num a) (num b)) ≡ false) (filter (λ x. int_eq (parent x) v && also x) xs)
untied_also parent num also v xs apart =
    subst (IsAscending (λ a b. is_eq (nat_cmp (num a) (num b)) ≡ false)) (both_filtered (λ x. int_eq (parent x) v) also xs)
    (ascending-filter _ also _ (untied_in parent num v xs apart))

pub untied_found : {X : Type 0} (clash tie : X → X → Bool) (p : X → Bool) → ((a b : X) → p a ≡ true → p b ≡ true → clash a b ≡ false → tie a b ≡ false)
    → (found : List X) → AreApart clash found → AllByRecursion (λ x. p x ≡ true) found → IsAscending (λ a b. tie a b ≡ false) found
untied_found clash tie p rule [] apart all = tt
untied_found clash tie p rule (x ∷ xs) apart all =
    (all_both _ _ (λ y. tie x y ≡ false) (λ y h k. rule x y all.0 k h) xs apart.0 all.1, untied_found clash tie p rule xs apart.1 all.1)

-- of the rows of one parent no two have one text
module _ {X : Type 0} (parent : X → ℤ) (text : X → List ℕ) (v : ℤ) where
  untie_texts : (a b : X) → int_eq (parent a) v ≡ true → int_eq (parent b) v ≡ true → (int_eq (parent a) (parent b) && bytes_eq (text a) (text b)) ≡ false
      → is_eq (slice_cmp nat_cmp (text a) (text b)) ≡ false
  untie_texts a b p q h =
      let here : int_eq (parent a) (parent b) ≡ true = int_alike _ _ (same_int (parent a) v p ∙ sym (same_int (parent b) v q)) in
      is_eq-slice_cmp (text a) (text b) ∙ (rw here at h)

  pub untied_texts : (xs : List X) → AreApart (λ a b. int_eq (parent a) (parent b) && bytes_eq (text a) (text b)) xs
      → IsAscending (λ a b. is_eq (slice_cmp nat_cmp (text a) (text b)) ≡ false) (filter (λ x. int_eq (parent x) v) xs)
  untied_texts xs apart =
      untied_found (λ a b. int_eq (parent a) (parent b) && bytes_eq (text a) (text b)) (λ a b. is_eq (slice_cmp nat_cmp (text a) (text b))) (λ x. int_eq (parent x) v) untie_texts
      (filter (λ x. int_eq (parent x) v) xs) (ascending-filter _ (λ x. int_eq (parent x) v) xs apart) (passes_filter (λ x. int_eq (parent x) v) xs)

  pub alone_texts : (s : List ℕ) (xs : List X) → AreApart (λ a b. int_eq (parent a) (parent b) && bytes_eq (text a) (text b)) xs
      → length (filter (λ x. int_eq (parent x) v && bytes_eq (text x) s) xs) ≤ 1
  alone_texts s = alone_if _ _ (λ a b p q.
      let one = and_parts _ _ p in
      let two = and_parts _ _ q in
      and_from _ _ (int_alike _ _ (same_int _ v one.0 ∙ sym (same_int _ v two.0))) (text_alike _ _ (text_is _ s one.1 ∙ sym (text_is _ s two.1))))
