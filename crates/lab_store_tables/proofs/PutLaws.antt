-- A row that is put into its table under a free id: what is found there, which rows pass a test, and what no two of them
-- share; and rows whose arrows lead to other rows.
use Rattle.std.proofs.Common.{◌≡◌, ℤ, Bool, true, false, ◌&&◌, cond, List, [], ◌∷◌, map, filter, find, slice_get, Option, Some, None, is_some, refl, sym, ap, ap₂, subst, ◌∙◌, true≢false, int_eq, int_cmp, is_eq, Ordering, Less, Equal, Greater}
use Rattle.std.specs.List.{list_all, AllByRecursion}
use Rattle.std.specs.Ordering.{match_ordering}
use Rattle.sqlite_keyed.specs.Keyed.{IsKeyedBy, get_by, has_key, insert_by}
use Rattle.sqlite_keyed.specs.Lists.{sort_by}
use Rattle.sqlite_keyed.specs.Rules.{AreApart, has_parent}
use Rattle.sqlite_keyed.proofs.ListLemmas.{slice_get-filter, all_weaker, all-filter, all_from_test}
use Rattle.sqlite_keyed.proofs.KeyedLemmas.{int_eq_apart}
use Rattle.lab_store_tables.specs.WellKept.{have_parents}
use Rattle.lab_store_tables.proofs.SortLaws.{filter-insert_other, filter-insert_mine, all_sorted}
use Rattle.lab_store_tables.proofs.LevelLaws.{had_by}
use Rattle.lab_store_tables.proofs.LabLaws.{alike}

-- ---- ids

pub turned_id : (a b : ℤ) → int_eq a b ≡ false → int_eq b a ≡ false
turned_id a b apart = int_eq_apart b a (λ same. true≢false (sym (alike a b (sym same)) ∙ apart))

-- an id that is there isn't one that is free
pub led_elsewhere : {P : Type 0} (key : P → ℤ) (parents : List P) (free to : ℤ) → has_key key parents free ≡ false
    → has_key key parents to ≡ true → int_eq to free ≡ false
led_elsewhere key parents free to none there =
    int_eq_apart to free (λ same. true≢false (sym there ∙ subst (λ at. has_key key parents at ≡ false) (sym same) none))

-- no row has a free id
pub none_has : {X : Type 0} (key : X → ℤ) (free : ℤ) (rows : List X) → has_key key rows free ≡ false
    → AllByRecursion (λ one. int_eq (key one) free ≡ false) rows
none_has key free [] none = tt
none_has key free (one ∷ others) none = go (int_eq (key one) free) refl none (none_has key free others)
  where
    go : (b : Bool) → int_eq (key one) free ≡ b → is_some (cond b (Some one) (get_by key others free)) ≡ false
        → (has_key key others free ≡ false → AllByRecursion (λ x. int_eq (key x) free ≡ false) others)
        → AllByRecursion (λ x. int_eq (key x) free ≡ false) (one ∷ others)
    go true e h more = absurd (true≢false h)
    go false e h more = (e, more h)

-- of rows whose arrows lead to rows, none leads to a free id
pub none_led : {X P : Type 0} (parent : X → ℤ) (key : P → ℤ) (parents : List P) (free : ℤ) (rows : List X) → has_key key parents free ≡ false
    → have_parents (λ one. Some (parent one)) key parents rows ≡ true → AllByRecursion (λ one. int_eq (parent one) free ≡ false) rows
none_led parent key parents free rows none whole =
    all_weaker (λ one. has_parent key parents (Some (parent one)) ≡ true) (λ one. int_eq (parent one) free ≡ false)
    (λ one there. led_elsewhere key parents free (parent one) none there) rows (all_from_test (λ one. has_parent key parents (Some (parent one))) rows whole)

-- ---- what is found, and what passes a test

none_passes : {X : Type 0} (p : X → Bool) (rows : List X) → find p rows ≡ None → filter p rows ≡ []
none_passes p [] none = refl
none_passes p (one ∷ others) none = go (p one) none (none_passes p others)
  where
    go : (b : Bool) → cond b (Some one) (find p others) ≡ None → (find p others ≡ None → filter p others ≡ [])
        → cond b (one ∷ filter p others) (filter p others) ≡ []
    go true h more = absurd cc
    go false h more = more h

module _ {X : Type 0} (key : X → ℤ) (rows : List X) (new : X) (fresh : has_key key rows (key new) ≡ false) where
  -- a row that fails the test isn't found
  pub find_other : (p : X → Bool) → p new ≡ false → find p (insert_by key rows new) ≡ find p rows
  find_other p other =
      sym (slice_get-filter p (insert_by key rows new)) ∙ ap (λ list. slice_get list 0) (filter-insert_other key p new other rows fresh)
      ∙ slice_get-filter p rows

  -- one that passes it alone is
  pub filter_alone : (p : X → Bool) → IsKeyedBy key rows → p new ≡ true → filter p rows ≡ [] → filter p (insert_by key rows new) ≡ new ∷ []
  filter_alone p rise own none = filter-insert_mine key p new own rows rise fresh ∙ ap (λ list. insert_by key list new) none

  pub find_alone : (p : X → Bool) → IsKeyedBy key rows → p new ≡ true → find p rows ≡ None → find p (insert_by key rows new) ≡ Some new
  find_alone p rise own none =
      sym (slice_get-filter p (insert_by key rows new)) ∙ ap (λ list. slice_get list 0) (filter_alone p rise own (none_passes p rows none))

  -- who had an id has it
  pub get_stays : (id : ℤ) → has_key key rows id ≡ true → get_by key (insert_by key rows new) id ≡ get_by key rows id
  get_stays id there = find_other (λ one. int_eq (key one) id) (turned_id id (key new) (led_elsewhere key rows (key new) id fresh there))

-- ---- what no two rows share

all_back : {X : Type 0} (key : X → ℤ) (P : X → Type 0) (new : X) (rows : List X) → has_key key rows (key new) ≡ false
    → AllByRecursion P (insert_by key rows new) → P new × AllByRecursion P rows
all_back key P new [] fresh all = (all.0, tt)
all_back key P new (one ∷ others) fresh all = go (int_cmp (key one) (key new)) fresh all (all_back key P new others)
  where
    go : (o : Ordering) → is_some (cond (is_eq o) (Some one) (get_by key others (key new))) ≡ false
        → AllByRecursion P (match_ordering o (one ∷ insert_by key others new) (new ∷ others) (new ∷ one ∷ others))
        → (has_key key others (key new) ≡ false → AllByRecursion P (insert_by key others new) → P new × AllByRecursion P others)
        → P new × AllByRecursion P (one ∷ others)
    go Less h held more = let rest = more h held.1 in (rest.0, (held.0, rest.1))
    go Equal h held more = absurd (true≢false h)
    go Greater h held more = (held.0, held.1)

-- where no two rows clash with the new one, none did before, and none of them clashes with it
pub apart_back : {X : Type 0} (key : X → ℤ) (clash : X → X → Bool) (new : X) → ((one : X) → clash new one ≡ false → clash one new ≡ false) → (rows : List X)
    → has_key key rows (key new) ≡ false → AreApart clash (insert_by key rows new) → AreApart clash rows × AllByRecursion (λ one. clash one new ≡ false) rows
apart_back key clash new turn [] fresh apart = (tt, tt)
apart_back key clash new turn (one ∷ others) fresh apart = go (int_cmp (key one) (key new)) fresh apart (apart_back key clash new turn others)
  where
    go : (o : Ordering) → is_some (cond (is_eq o) (Some one) (get_by key others (key new))) ≡ false
        → AreApart clash (match_ordering o (one ∷ insert_by key others new) (new ∷ others) (new ∷ one ∷ others))
        → (has_key key others (key new) ≡ false → AreApart clash (insert_by key others new)
        → AreApart clash others × AllByRecursion (λ x. clash x new ≡ false) others)
        → AreApart clash (one ∷ others) × AllByRecursion (λ x. clash x new ≡ false) (one ∷ others)
    go Less h held more =
        let rest = more h held.1 in
        let here = all_back key (λ x. clash one x ≡ false) new others h held.0 in
        ((here.1, rest.0), (here.0, rest.1))
    go Equal h held more = absurd (true≢false h)
    go Greater h held more = (held.1, all_weaker (λ x. clash new x ≡ false) (λ x. clash x new ≡ false) turn (one ∷ others) held.0)

-- ---- rows that are read alike

map_alike : {X Y : Type 0} (f g : X → Y) (rows : List X) → AllByRecursion (λ one. f one ≡ g one) rows → map f rows ≡ map g rows
map_alike f g [] all = refl
map_alike f g (one ∷ others) all = ap₂ ◌∷◌ all.0 (map_alike f g others all.1)

-- a parent has its rows as they were, where each of the table is read as it was
pub had_same : {X Y : Type 0} (parent : X → ℤ) (cmp : X → X → Ordering) (f g : X → Y) (rows : List X) → AllByRecursion (λ one. f one ≡ g one) rows
    → (id : ℤ) → had_by parent cmp f rows id ≡ had_by parent cmp g rows id
had_same parent cmp f g rows same id =
    map_alike f g (sort_by cmp (filter (λ one. int_eq (parent one) id) rows))
    (all_sorted cmp (λ one. f one ≡ g one) (filter (λ one. int_eq (parent one) id) rows)
    (all-filter (λ one. f one ≡ g one) (λ one. int_eq (parent one) id) rows same))

-- and a test says of all of them what it said
pub tests_alike : {X : Type 0} (p q : X → Bool) (rows : List X) → AllByRecursion (λ one. p one ≡ q one) rows → list_all p rows ≡ list_all q rows
tests_alike p q [] all = refl
tests_alike p q (one ∷ others) all = ap₂ ◌&&◌ all.0 (tests_alike p q others all.1)

-- what is read alike of each row whose arrow leads to a row is so of all, as all their arrows do
pub led_alike : {X Y P : Type 0} (key : P → ℤ) (parents : List P) (arrow : X → Option ℤ) (f g : X → Y) (rows : List X)
    → have_parents arrow key parents rows ≡ true → ((one : X) → has_parent key parents (arrow one) ≡ true → f one ≡ g one)
    → AllByRecursion (λ one. f one ≡ g one) rows
led_alike key parents arrow f g rows whole same =
    all_weaker (λ one. has_parent key parents (arrow one) ≡ true) (λ one. f one ≡ g one) same rows
    (all_from_test (λ one. has_parent key parents (arrow one)) rows whole)
