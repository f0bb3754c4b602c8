-- One row of a table: found by its key, set in its place, or put in beside the others; and what its parent and every other one has
-- of the rows then. The parent of a row is whatever `parent` says.
use Rattle.std.proofs.Common.{◌≡◌, ℕ, ℤ, Bool, true, false, ◌&&◌, cond, List, [], ◌∷◌, map, filter, slice_get, Some, option_map, is_some, inl, inr, refl, sym, ap, ap₂, subst, ◌∙◌, int_eq, bytes_eq, is_gt, Ordering}
use Rattle.std.specs.List.{AllByRecursion}
use Rattle.std.proofs.lemmas.Bool.{and_from}
use Rattle.sqlite_trees.specs.Tree.{IsAscending}
use Rattle.sqlite_rules.specs.Lists.{Has}
use Rattle.sqlite_rules.proofs.ListLemmas.{all_has, all_from, has_filtered}
use Rattle.sqlite_keyed.specs.Keyed.{get_by, has_key, insert_by}
use Rattle.sqlite_keyed.specs.Lists.{insert_sorted, sort_by, update_where}
use Rattle.sqlite_keyed.specs.Rules.{AreApart}
use Rattle.sqlite_keyed.proofs.ListLemmas.{all-filter, ascending-filter, ascending_weaker, filter-map, filter_none, all_weaker, map-map, slice_get-filter}
use Rattle.sqlite_keyed.proofs.KeyedLemmas.{filter-insert_by, same_int, int_eq_apart}
use Rattle.sqlite_keyed.proofs.SortLemmas.{sort_by-map}
use Rattle.lab_store_tables.proofs.SortLaws.{all_sorted}
use Rattle.lab_store_tables.proofs.LevelLaws.{had_by}
use Rattle.lab_store_tables.proofs.LabLaws.{alike, same_id}
use Rattle.lab_store_tables.proofs.Comparing.{text_is, text_alike}

-- ---- tests

pub never : (b : Bool) → (b ≡ true → ⊥) → b ≡ false
never true h = absurd (h refl)
never false h = refl

same_answer : (a b : Bool) → (a ≡ true → b ≡ true) → (b ≡ true → a ≡ true) → a ≡ b
same_answer true b f g = sym (f refl)
same_answer false true f g = g refl
same_answer false false f g = refl

pub turned : (a b : ℤ) → int_eq a b ≡ false → int_eq b a ≡ false
turned a b h = int_eq_apart b a (λ same. let yes : int_eq a b ≡ true = alike a b (sym same) in cc)

-- ---- a row by its key

-- a row that is there has its id among the ids
pub has_own_key : {X : Type 0} (id : X → ℤ) (rows : List X) (one : X) → Has rows one → has_key id rows (id one) ≡ true
has_own_key id [] one has = absurd has
has_own_key id (x ∷ xs) one (inl same) = ap (λ b. is_some (cond b (Some x) (get_by id xs (id one)))) (alike (id x) (id one) (ap id (sym same)))
has_own_key id (x ∷ xs) one (inr later) = go (int_eq (id x) (id one)) (has_own_key id xs one later)
  where
    go : (b : Bool) → has_key id xs (id one) ≡ true → is_some (cond b (Some x) (get_by id xs (id one))) ≡ true
    go true more = refl
    go false more = more

-- an id that is there isn't one that is free
pub not_free : {X : Type 0} (id : X → ℤ) (rows : List X) (free at : ℤ) → has_key id rows free ≡ false → has_key id rows at ≡ true → int_eq free at ≡ false
not_free id rows free at none has = int_eq_apart free at (λ same. let yes : has_key id rows free ≡ true = ap (has_key id rows) same ∙ has in cc)

-- two rows of one key are one
same_by_key : {X : Type 0} (clash : X → X → Bool) (xs : List X) (a b : X) → AreApart clash xs → Has xs a → Has xs b
    → clash a b ≡ true → clash b a ≡ true → a ≡ b
same_by_key clash [] a b apart h k there back = absurd h
same_by_key clash (x ∷ xs) a b apart (inl h) (inl k) there back = h ∙ sym k
same_by_key clash (x ∷ xs) a b apart (inl h) (inr k) there back =
    absurd (let none = all_has (λ y. clash x y ≡ false) xs b apart.0 k in let all : clash x b ≡ true = ap (λ y. clash y b) (sym h) ∙ there in cc)
same_by_key clash (x ∷ xs) a b apart (inr h) (inl k) there back =
    absurd (let none = all_has (λ y. clash x y ≡ false) xs a apart.0 h in let all : clash x a ≡ true = ap (λ y. clash y a) (sym k) ∙ back in cc)
same_by_key clash (x ∷ xs) a b apart (inr h) (inr k) there back = same_by_key clash xs a b apart.1 h k there back

module _ {X : Type 0} (id parent : X → ℤ) (text : X → List ℕ) (rows : List X) (own : AreApart (λ one other. int_eq (id one) (id other)) rows)
    (keyed : AreApart (λ one other. int_eq (parent one) (parent other) && bytes_eq (text one) (text other)) rows)
    (top : X) (there : Has rows top) (word : List ℕ) (has_word : text top ≡ word) where
  -- the one row of its parent that has the text
  pub is_top : (one : X) → Has rows one → int_eq (parent one) (parent top) ≡ true → bytes_eq (text one) word ≡ true → one ≡ top
  is_top one has beside told =
      let near : parent one ≡ parent top = same_int (parent one) (parent top) beside in
      let said : text one ≡ text top = text_is (text one) word told ∙ sym has_word in
      same_by_key (λ a b. int_eq (parent a) (parent b) && bytes_eq (text a) (text b)) rows one top keyed has there
      (and_from (int_eq (parent one) (parent top)) (bytes_eq (text one) (text top)) beside (text_alike (text one) (text top) said))
      (and_from (int_eq (parent top) (parent one)) (bytes_eq (text top) (text one)) (alike (parent top) (parent one) (sym near))
      (text_alike (text top) (text one) (sym said)))

  -- is told by it as by its id
  pub told_by_text : (one : X) → Has rows one → int_eq (parent one) (parent top) ≡ true → bytes_eq (text one) word ≡ int_eq (id one) (id top)
  told_by_text one has beside =
      same_answer (bytes_eq (text one) word) (int_eq (id one) (id top))
      (λ told. alike (id one) (id top) (ap id (is_top one has beside told)))
      (λ same. text_alike (text one) word (ap text (same_id id rows one top own has there (same_int (id one) (id top) same)) ∙ has_word))

-- ---- rows of one parent

filter_alike : {X : Type 0} (p q : X → Bool) (rows : List X) → AllByRecursion (λ one. p one ≡ q one) rows → filter p rows ≡ filter q rows
filter_alike p q [] all = refl
filter_alike p q (one ∷ others) all = ap₂ (λ b list. cond b (one ∷ list) list) all.0 (filter_alike p q others all.1)

map_alike : {X Y : Type 0} (f g : X → Y) (rows : List X) → AllByRecursion (λ one. f one ≡ g one) rows → map f rows ≡ map g rows
map_alike f g [] all = refl
map_alike f g (one ∷ others) all = ap (λ first. first ∷ map f others) all.0 ∙ ap (λ list. g one ∷ list) (map_alike f g others all.1)

-- two orders that agree on the rows sort them alike
sorted_alike : {X : Type 0} (cmp other : X → X → Ordering) (P : X → Type 0) → ((a b : X) → P a → P b → cmp a b ≡ other a b)
    → (xs : List X) → AllByRecursion P xs → sort_by cmp xs ≡ sort_by other xs
sorted_alike cmp other P agree [] all = refl
sorted_alike {X} cmp other P agree (x ∷ xs) all =
    inserted (sort_by cmp xs) (all_sorted cmp P xs all.1) ∙ ap (insert_sorted other x) (sorted_alike cmp other P agree xs all.1)
  where
    inserted : (ys : List X) → AllByRecursion P ys → insert_sorted cmp x ys ≡ insert_sorted other x ys
    inserted [] h = refl
    inserted (y ∷ ys) h = ap₂ (λ o list. cond (is_gt o) (y ∷ list) (x ∷ y ∷ ys)) (agree x y all.0 h.0) (inserted ys h.1)

-- what holds of each two rows, whichever comes first, holds of them sorted
pairs_sorted : {X : Type 0} (cmp : X → X → Ordering) (R : X → X → Type 0) → ((a b : X) → R a b → R b a) → (xs : List X)
    → IsAscending R xs → IsAscending R (sort_by cmp xs)
pairs_sorted cmp R turn [] up = tt
pairs_sorted {X} cmp R turn (x ∷ xs) up = inserted (sort_by cmp xs) (all_sorted cmp (R x) xs up.0) (pairs_sorted cmp R turn xs up.1)
  where
    beside : (y : X) → R y x → (ys : List X) → AllByRecursion (R y) ys → AllByRecursion (R y) (insert_sorted cmp x ys)
    beside y own [] all = (own, tt)
    beside y own (z ∷ zs) all =
        elim (is_gt (cmp x z)) as (λ b. AllByRecursion (R y) (cond b (z ∷ insert_sorted cmp x zs) (x ∷ z ∷ zs)))
        [ true ↦ (all.0, beside y own zs all.1) | false ↦ (own, all) ]

    inserted : (ys : List X) → AllByRecursion (R x) ys → IsAscending R ys → IsAscending R (insert_sorted cmp x ys)
    inserted [] all more = (tt, tt)
    inserted (y ∷ ys) all more =
        elim (is_gt (cmp x y)) as (λ b. IsAscending R (cond b (y ∷ insert_sorted cmp x ys) (x ∷ y ∷ ys)))
        [ true ↦ (beside y (turn x y all.0) ys more.0, inserted ys all.1 more.1) | false ↦ (all, more) ]

-- two ways of showing rows that agree on each that a parent has
pub had_same : {X Y : Type 0} (parent : X → ℤ) (cmp : X → X → Ordering) (f g : X → Y) (rows : List X) (at : ℤ)
    → ((one : X) → Has rows one → int_eq (parent one) at ≡ true → f one ≡ g one) → had_by parent cmp f rows at ≡ had_by parent cmp g rows at
had_same parent cmp f g rows at agree =
    map_alike f g (sort_by cmp (filter (λ one. int_eq (parent one) at) rows))
    (all_sorted cmp (λ one. f one ≡ g one) (filter (λ one. int_eq (parent one) at) rows)
    (all_from (λ one. f one ≡ g one) (filter (λ one. int_eq (parent one) at) rows)
    (λ one has. let it = has_filtered (λ x. int_eq (parent x) at) rows one has in agree one it.0 it.1)))

-- a parent that isn't there has no rows
pub no_rows : {X P : Type 0} (parent : X → ℤ) (id : P → ℤ) (parents : List P) (at : ℤ) → has_key id parents at ≡ false → (rows : List X)
    → AllByRecursion (λ one. has_key id parents (parent one) ≡ true) rows → filter (λ one. int_eq (parent one) at) rows ≡ []
no_rows parent id parents at none rows all =
    filter_none (λ one. int_eq (parent one) at) rows
    (all_weaker (λ one. has_key id parents (parent one) ≡ true) (λ one. int_eq (parent one) at ≡ false)
    (λ one has. turned at (parent one) (not_free id parents at (parent one) none has)) rows all)

-- ---- a row that is set

-- the first that a test admits is replaced
abbrev pub set_first : {Y : Type 0} → (Y → Bool) → Y → List Y → List Y
set_first test new [] = []
set_first test new (one ∷ others) = cond (test one) (new ∷ others) (one ∷ set_first test new others)

-- one row is shown otherwise, and what is shown tells which
module _ {X Y : Type 0} (shown next : X → Y) (tells : X → Bool) (test : Y → Bool) (new : Y) where
  none_is_set : (rows : List X) → AllByRecursion (λ one. (test (shown one) ≡ tells one) × (next one ≡ cond (tells one) new (shown one))) rows
      → AllByRecursion (λ one. tells one ≡ false) rows → map next rows ≡ map shown rows
  none_is_set [] all none = refl
  none_is_set (one ∷ others) all none = ap₂ ◌∷◌ (all.0.1 ∙ ap (λ b. cond b new (shown one)) none.0) (none_is_set others all.1 none.1)

  pub first_is_set : (rows : List X) → AllByRecursion (λ one. (test (shown one) ≡ tells one) × (next one ≡ cond (tells one) new (shown one))) rows
      → IsAscending (λ a b. tells a ≡ true → tells b ≡ false) rows → map next rows ≡ set_first test new (map shown rows)
  first_is_set [] all alone = refl
  first_is_set (one ∷ others) all alone = go (tells one) refl all.0.0 all.0.1 (first_is_set others all.1 alone.1)
    where
      go : (b : Bool) → tells one ≡ b → test (shown one) ≡ b → next one ≡ cond b new (shown one) → map next others ≡ set_first test new (map shown others)
          → next one ∷ map next others ≡ cond (test (shown one)) (new ∷ map shown others) (shown one ∷ set_first test new (map shown others))
      go true e told is more =
          ap₂ ◌∷◌ is
          (none_is_set others all.1 (all_weaker (λ b. tells one ≡ true → tells b ≡ false) (λ b. tells b ≡ false) (λ b h. h e) others alone.0))
          ∙ sym (ap (λ b. cond b (new ∷ map shown others) (shown one ∷ set_first test new (map shown others))) told)
      go false e told is more =
          ap₂ ◌∷◌ is more ∙ sym (ap (λ b. cond b (new ∷ map shown others) (shown one ∷ set_first test new (map shown others))) told)

-- what is read of the row of an id stays, where each row keeps its id and that
pub read_kept : {X A : Type 0} (id : X → ℤ) (f : X → A) (next : X → X) (rows : List X)
    → AllByRecursion (λ one. (id (next one) ≡ id one) × (f (next one) ≡ f one)) rows
    → (at : ℤ) → option_map f (get_by id (map next rows) at) ≡ option_map f (get_by id rows at)
read_kept id f next [] all at = refl
read_kept id f next (one ∷ others) all at =
    ap (λ n. option_map f (cond (int_eq n at) (Some (next one)) (get_by id (map next others) at))) all.0.0
    ∙ go (int_eq (id one) at) (read_kept id f next others all.1 at)
  where
    go : (b : Bool) → option_map f (get_by id (map next others) at) ≡ option_map f (get_by id others at)
        → option_map f (cond b (Some (next one)) (get_by id (map next others) at)) ≡ option_map f (cond b (Some one) (get_by id others at))
    go true more = ap Some all.0.1
    go false more = more

module _ {X : Type 0} (id : X → ℤ) (rows : List X) (own : AreApart (λ one other. int_eq (id one) (id other)) rows)
    (top : X) (there : Has rows top) (new : X) (same : id new ≡ id top) where
  abbrev set : X → X
  set one = cond (int_eq (id one) (id new)) new one

  -- what the new row has as the old one had it, every row keeps
  pub kept : {A : Type 0} (f : X → A) → f new ≡ f top → (one : X) → Has rows one → f (cond (int_eq (id one) (id new)) new one) ≡ f one
  kept f stays one has = go (int_eq (id one) (id new)) refl
    where
      go : (b : Bool) → int_eq (id one) (id new) ≡ b → f (cond b new one) ≡ f one
      go true e = stays ∙ ap f (sym (same_id id rows one top own has there (same_int (id one) (id new) e ∙ same)))
      go false e = refl

  apart_from_it : (a b : X) → int_eq (id a) (id b) ≡ false → int_eq (id a) (id new) ≡ true → int_eq (id b) (id new) ≡ false
  apart_from_it a b apart here =
      int_eq_apart (id b) (id new) (λ also. let both : int_eq (id a) (id b) ≡ true = alike (id a) (id b) (same_int (id a) (id new) here ∙ sym also) in cc)

  module _ {K : Type 0} (parent : X → ℤ) (key : X → K) (order : K → K → Ordering) (beside : parent new ≡ parent top) (level : key new ≡ key top) where
    abbrev by_key : X → X → Ordering
    by_key one other = order (key one) (key other)

    abbrev mine : ℤ → X → Bool
    mine at one = int_eq (parent one) at

    had_set : {Y : Type 0} (shown : X → Y) (at : ℤ) → had_by parent by_key shown (update_where (λ one. int_eq (id one) (id new)) (λ one. new) rows) at
        ≡ had_by parent by_key (λ one. shown (set one)) rows at
    had_set shown at =
        ap (λ list. map shown (sort_by by_key list))
        (filter-map (mine at) set rows
        ∙ ap (map set)
        (filter_alike (λ one. mine at (set one)) (mine at) rows
        (all_from (λ one. mine at (set one) ≡ mine at one) rows (λ one has. ap (λ n. int_eq n at) (kept parent beside one has)))))
        ∙ ap (map shown)
        (sort_by-map by_key set (filter (mine at) rows)
        ∙ ap (map set)
        (sorted_alike (λ a b. by_key (set a) (set b)) by_key (λ one. key (set one) ≡ key one) (λ a b h k. ap₂ order h k) (filter (mine at) rows)
        (all-filter (λ one. key (set one) ≡ key one) (mine at) rows (all_from (λ one. key (set one) ≡ key one) rows (λ one has. kept key level one has)))))
        ∙ map-map shown set (sort_by by_key (filter (mine at) rows))

    alone : (at : ℤ) → IsAscending (λ a b. int_eq (id a) (id new) ≡ true → int_eq (id b) (id new) ≡ false) (sort_by by_key (filter (mine at) rows))
    alone at =
        ascending_weaker (λ a b. int_eq (id a) (id b) ≡ false) (λ a b. int_eq (id a) (id new) ≡ true → int_eq (id b) (id new) ≡ false)
        (λ a b apart here. apart_from_it a b apart here) (sort_by by_key (filter (mine at) rows))
        (pairs_sorted by_key (λ a b. int_eq (id a) (id b) ≡ false) (λ a b apart. turned (id a) (id b) apart) (filter (mine at) rows)
        (ascending-filter (λ a b. int_eq (id a) (id b) ≡ false) (mine at) rows own))

    module _ {Y : Type 0} (shown : X → Y) (test : Y → Bool)
        (tells : (one : X) → Has rows one → int_eq (parent one) (parent top) ≡ true → test (shown one) ≡ int_eq (id one) (id new)) where
      shown_set : (one : X) → shown (set one) ≡ cond (int_eq (id one) (id new)) (shown new) (shown one)
      shown_set one = go (int_eq (id one) (id new))
        where
          go : (b : Bool) → shown (cond b new one) ≡ cond b (shown new) (shown one)
          go true = refl
          go false = refl

      own_row_set : had_by parent by_key (λ one. shown (set one)) rows (parent top) ≡ set_first test (shown new) (had_by parent by_key shown rows (parent top))
      own_row_set =
          first_is_set shown (λ one. shown (set one)) (λ one. int_eq (id one) (id new)) test (shown new) (sort_by by_key (filter (mine (parent top)) rows))
          (all_sorted by_key
          (λ one. (test (shown one) ≡ int_eq (id one) (id new)) × (shown (set one) ≡ cond (int_eq (id one) (id new)) (shown new) (shown one)))
          (filter (mine (parent top)) rows)
          (all_from (λ one. (test (shown one) ≡ int_eq (id one) (id new)) × (shown (set one) ≡ cond (int_eq (id one) (id new)) (shown new) (shown one)))
          (filter (mine (parent top)) rows)
          (λ one has. let it = has_filtered (mine (parent top)) rows one has in (tells one it.0 it.1, shown_set one))))
          (alone (parent top))

      not_elsewhere : (at : ℤ) → int_eq at (parent top) ≡ false → (one : X) → Has rows one → int_eq (parent one) at ≡ true → int_eq (id one) (id new) ≡ false
      not_elsewhere at other one has here =
          int_eq_apart (id one) (id new) (λ e.
          let is : one ≡ top = same_id id rows one top own has there (e ∙ same) in
          let yes : int_eq at (parent top) ≡ true = alike at (parent top) (sym (same_int (parent one) at here) ∙ ap parent is) in cc)

      -- its parent has it in the place of the one that the test tells, and every other parent has what it had
      pub row_is_set : (at : ℤ) → had_by parent by_key shown (update_where (λ one. int_eq (id one) (id new)) (λ one. new) rows) at
          ≡ cond (int_eq at (parent top)) (set_first test (shown new) (had_by parent by_key shown rows at)) (had_by parent by_key shown rows at)
      row_is_set at = had_set shown at ∙ go (int_eq at (parent top)) refl
        where
          go : (b : Bool) → int_eq at (parent top) ≡ b → had_by parent by_key (λ one. shown (set one)) rows at
              ≡ cond b (set_first test (shown new) (had_by parent by_key shown rows at)) (had_by parent by_key shown rows at)
          go true e =
              subst (λ l. had_by parent by_key (λ one. shown (set one)) rows l ≡ set_first test (shown new) (had_by parent by_key shown rows l))
              (sym (same_int at (parent top) e)) own_row_set
          go false e =
              had_same parent by_key (λ one. shown (set one)) shown rows at
              (λ one has here. shown_set one ∙ ap (λ b. cond b (shown new) (shown one)) (not_elsewhere at e one has here))

-- ---- a row more

-- it isn't seen by the others' ids
pub got_beside : {X : Type 0} (id : X → ℤ) (rows : List X) (new : X) → has_key id rows (id new) ≡ false
    → (at : ℤ) → has_key id rows at ≡ true → get_by id (insert_by id rows new) at ≡ get_by id rows at
got_beside id rows new free at has =
    sym (slice_get-filter (λ one. int_eq (id one) at) (insert_by id rows new))
    ∙ ap (λ list. slice_get list 0) (filter-insert_by id (λ one. int_eq (id one) at) rows new free (not_free id rows (id new) at free has))
    ∙ slice_get-filter (λ one. int_eq (id one) at) rows
