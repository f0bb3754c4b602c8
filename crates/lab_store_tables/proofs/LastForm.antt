-- Versions of forms in their order: those of one form rise by their numbers, so that the next number of a form is above each that the
-- laboratory has.
use Rattle.std.proofs.Common.{◌≡◌, ◌≤◌, ◌<◌, ℕ, ◌+◌, Bool, true, false, ◌==◌, cond, List, [], ◌∷◌, ◌++◌, map, find, reverse, Option, Some, None, refl, sym, ap, subst, ◌∙◌, arith, Ordering, Less, Equal, Greater, bytes_eq, is_gt}
use Rattle.std.specs.Prelude.{nat_lt, MatchOption}
use Rattle.std.specs.Cmp.{IsTotalOrder, on_total, then_total}
use Rattle.std.specs.Cmp.Lexicographic.{slice_cmp, nat_list_cmp_total}
use Rattle.std.specs.List.{AllByRecursion}
use Rattle.std.specs.Ordering.{nat_cmp, ordering_then, ordering_reverse}
use Rattle.std.proofs.lemmas.Bool.{ltb-true, eqb-true}
use Rattle.std.proofs.lemmas.Cmp.{nat_cmp_total, tied_itself, upto}
use Rattle.std.proofs.lemmas.List.{reverse-append}
use Rattle.sqlite_trees.specs.Tree.{IsAscending}
use Rattle.sqlite_keyed.specs.Lists.{insert_sorted, sort_by}
use Rattle.sqlite_keyed.proofs.ListLemmas.{all_weaker, ascending_weaker}
use Rattle.lab_records_kept.specs.declared.records.FormVersion.{FormVersion}
use Rattle.lab_records_kept.specs.Lookups.{is_version_of, last_form, next_form_version}
use Rattle.lab_store_tables.specs.Rows.{FormRow, Tables}
use Rattle.lab_store_tables.specs.Meaning.{form_in, by_form}
use Rattle.lab_store_tables.proofs.Comparing.{text_is}

-- ---- rows that are sorted rise

turned_up : (o : Ordering) → is_gt o ≡ true → is_gt (ordering_reverse o) ≡ false
turned_up Less h = absurd cc
turned_up Equal h = absurd cc
turned_up Greater h = refl

module _ {X : Type 0} (cmp : X → X → Ordering) (total : IsTotalOrder cmp) where
  abbrev AtMost : X → X → Type 0
  AtMost a b = is_gt (cmp a b) ≡ false

  all_inserted : (P : X → Type 0) (new : X) (xs : List X) → P new → AllByRecursion P xs → AllByRecursion P (insert_sorted cmp new xs)
  all_inserted P new [] h all = (h, tt)
  all_inserted P new (x ∷ xs) h all =
      elim (is_gt (cmp new x)) as (λ b. AllByRecursion P (cond b (x ∷ insert_sorted cmp new xs) (new ∷ x ∷ xs)))
      [ true ↦ (all.0, all_inserted P new xs h all.1) | false ↦ (h, all) ]

  -- what comes before the first comes before all
  before_all : (new x : X) (xs : List X) → AtMost new x → AllByRecursion (AtMost x) xs → AllByRecursion (AtMost new) (x ∷ xs)
  before_all new x xs h all = (h, all_weaker (AtMost x) (AtMost new) (λ y k. upto total new x y h k) xs all)

  up_inserted : (new : X) (xs : List X) → IsAscending AtMost xs → IsAscending AtMost (insert_sorted cmp new xs)
  up_inserted new [] up = (tt, tt)
  up_inserted new (x ∷ xs) up = go (is_gt (cmp new x)) refl (up_inserted new xs up.1)
    where
      go : (b : Bool) → is_gt (cmp new x) ≡ b → IsAscending AtMost (insert_sorted cmp new xs)
          → IsAscending AtMost (cond b (x ∷ insert_sorted cmp new xs) (new ∷ x ∷ xs))
      go true e more = (all_inserted (AtMost x) new xs (ap is_gt (total.antisymm x new) ∙ turned_up (cmp new x) e) up.0, more)
      go false e more = (before_all new x xs e up.0, up)

  up_sorted : (xs : List X) → IsAscending AtMost (sort_by cmp xs)
  up_sorted [] = tt
  up_sorted (x ∷ xs) = up_inserted x (sort_by cmp xs) (up_sorted xs)

-- ---- and what holds of rows that are sorted holds of them as they lie

module _ {X : Type 0} (cmp : X → X → Ordering) (P : X → Type 0) where
  all_uninserted : (new : X) (xs : List X) → AllByRecursion P (insert_sorted cmp new xs) → P new × AllByRecursion P xs
  all_uninserted new [] all = (all.0, tt)
  all_uninserted new (x ∷ xs) all = go (is_gt (cmp new x)) all (all_uninserted new xs)
    where
      go : (b : Bool) → AllByRecursion P (cond b (x ∷ insert_sorted cmp new xs) (new ∷ x ∷ xs))
          → (AllByRecursion P (insert_sorted cmp new xs) → P new × AllByRecursion P xs) → P new × AllByRecursion P (x ∷ xs)
      go true held more = let later = more held.1 in (later.0, (held.0, later.1))
      go false held more = (held.0, held.1)

  pub all_unsorted : (xs : List X) → AllByRecursion P (sort_by cmp xs) → AllByRecursion P xs
  all_unsorted [] all = tt
  all_unsorted (x ∷ xs) all = let parts = all_uninserted x (sort_by cmp xs) all in (parts.0, all_unsorted xs parts.1)

-- ---- versions of one form

pub form_total : IsTotalOrder by_form
form_total = then_total (on_total (λ (one : FormRow). one.code) nat_list_cmp_total) (on_total (λ (one : FormRow). one.version) nat_cmp_total)

not_above : (a b : ℕ) → is_gt (nat_cmp a b) ≡ false → a ≤ b
not_above a b h = go (nat_lt a b) (a == b) refl refl h
  where
    go : (below same : Bool) → nat_lt a b ≡ below → (a == b) ≡ same → is_gt (cond below Less (cond same Equal Greater)) ≡ false → a ≤ b
    go true same e f k = let less : a < b = ltb-true a b e in omega (arith, less)
    go false true e f k = let even : a ≡ b = eqb-true a b f in omega (arith, even)
    go false false e f k = absurd cc

by_version : (code : List ℕ) (a b : FormRow) → is_gt (by_form a b) ≡ false → bytes_eq a.code code ≡ true → bytes_eq b.code code ≡ true → a.version ≤ b.version
by_version code a b up h k =
    not_above a.version b.version
    (ap is_gt (sym (ap (λ o. ordering_then o (nat_cmp a.version b.version))
    (ap (λ s. slice_cmp nat_cmp s b.code) (text_is a.code code h ∙ sym (text_is b.code code k)) ∙ tied_itself nat_list_cmp_total b.code)))
    ∙ up)

-- ---- the last of them

abbrev or_else : Option FormVersion → Option FormVersion → Option FormVersion
or_else None other = other
or_else (Some one) other = Some one

found_more : (p : FormVersion → Bool) (xs : List FormVersion) (x : FormVersion) → find p (xs ++ x ∷ []) ≡ or_else (find p xs) (cond (p x) (Some x) None)
found_more p [] x = refl
found_more p (y ∷ xs) x =
    elim (p y) as (λ b. cond b (Some y) (find p (xs ++ x ∷ [])) ≡ or_else (cond b (Some y) (find p xs)) (cond (p x) (Some x) None))
    [ true ↦ refl | false ↦ found_more p xs x ]

last_more : (code : List ℕ) (one : FormVersion) (others : List FormVersion)
    → last_form (one ∷ others) code ≡ or_else (last_form others code) (cond (bytes_eq one.code code) (Some one) None)
last_more code one others = ap (find (is_version_of code)) (reverse-append (one ∷ []) others) ∙ found_more (is_version_of code) (reverse others) one

abbrev IsAtLeast : ℕ → Option FormVersion → Type 0
IsAtLeast version one = MatchOption one (Unit {0}) (λ (it : FormVersion). version ≤ it.version)

last_at_least : (t : Tables) (code : List ℕ) (version : ℕ) (rows : List FormRow)
    → AllByRecursion (λ (one : FormRow). bytes_eq one.code code ≡ true → version ≤ one.version) rows → IsAtLeast version (last_form (map (form_in t) rows) code)
last_at_least t code version [] all = tt
last_at_least t code version (one ∷ others) all =
    subst (IsAtLeast version) (sym (last_more code (form_in t one) (map (form_in t) others)))
    (go (last_form (map (form_in t) others) code) (bytes_eq one.code code) refl (last_at_least t code version others all.1))
  where
    go : (o : Option FormVersion) (b : Bool) → bytes_eq one.code code ≡ b → IsAtLeast version o
        → IsAtLeast version (or_else o (cond b (Some (form_in t one)) None))
    go (Some it) b e h = h
    go None true e h = all.0 e
    go None false e h = tt

-- the next number of a form is above those of all its versions
below_next : (t : Tables) (code : List ℕ) (rows : List FormRow)
    → IsAscending (λ (a b : FormRow). bytes_eq a.code code ≡ true → bytes_eq b.code code ≡ true → a.version ≤ b.version) rows
    → AllByRecursion (λ (one : FormRow). bytes_eq one.code code ≡ true → one.version < next_form_version (last_form (map (form_in t) rows) code)) rows
below_next t code [] up = tt
below_next t code (one ∷ others) up = (
  λ own. subst (λ o. one.version < next_form_version o) (sym more)
      (head (last_form (map (form_in t) others) code)
      (last_at_least t code one.version others
      (all_weaker (λ (b : FormRow). bytes_eq one.code code ≡ true → bytes_eq b.code code ≡ true → one.version ≤ b.version)
      (λ (b : FormRow). bytes_eq b.code code ≡ true → one.version ≤ b.version) (λ b h. h own) others up.0)) own),
  all_weaker (λ (b : FormRow). bytes_eq b.code code ≡ true → b.version < next_form_version (last_form (map (form_in t) others) code))
      (λ (b : FormRow). bytes_eq b.code code ≡ true → b.version < next_form_version (last_form (map (form_in t) (one ∷ others)) code))
      (λ b h own. subst (λ o. b.version < next_form_version o) (sym more)
      (tail b.version (last_form (map (form_in t) others) code) (bytes_eq one.code code) (h own)))
      others (below_next t code others up.1),
)
  where
    more : last_form (map (form_in t) (one ∷ others)) code
        ≡ or_else (last_form (map (form_in t) others) code) (cond (bytes_eq one.code code) (Some (form_in t one)) None)
    more = last_more code (form_in t one) (map (form_in t) others)

    head : (o : Option FormVersion) → IsAtLeast one.version o → bytes_eq one.code code ≡ true
        → one.version < next_form_version (or_else o (cond (bytes_eq one.code code) (Some (form_in t one)) None))
    head None h own =
        let more_by_one : one.version < one.version + 1 = omega arith in
        subst (λ b. one.version < next_form_version (cond b (Some (form_in t one)) None)) (sym own) more_by_one
    head (Some it) h own =
        let least : one.version ≤ it.version = h in
        let less : one.version < it.version + 1 = omega (arith, least) in
        less

    tail : (version : ℕ) (o : Option FormVersion) (b : Bool) → version < next_form_version o
        → version < next_form_version (or_else o (cond b (Some (form_in t one)) None))
    tail version None true h =
        let low : version < 1 = h in
        let less : version < one.version + 1 = omega (arith, low) in
        less
    tail version None false h = h
    tail version (Some it) b h = h

pub all_below_next : (t : Tables) (code : List ℕ) (rows : List FormRow)
    → AllByRecursion
    (λ (one : FormRow). bytes_eq one.code code ≡ true → one.version < next_form_version (last_form (map (form_in t) (sort_by by_form rows)) code))
    (sort_by by_form rows)
all_below_next t code rows =
    below_next t code (sort_by by_form rows)
    (ascending_weaker (λ (a b : FormRow). is_gt (by_form a b) ≡ false)
    (λ (a b : FormRow). bytes_eq a.code code ≡ true → bytes_eq b.code code ≡ true → a.version ≤ b.version) (by_version code) (sort_by by_form rows)
    (up_sorted by_form form_total rows))
