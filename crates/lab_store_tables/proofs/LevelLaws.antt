-- One level of arrows: what each parent has of a table into which a row is put, or in which rows are set. The parent of a
-- row is whatever `parent` says, and `shown` is what it has of the row.
use Rattle.std.proofs.Common.{◌≡◌, ℕ, suc, ◌+◌, ℤ, Bool, true, false, not, cond, List, [], ◌∷◌, ◌++◌, map, filter, refl, sym, ap, ◌∙◌, arith, Ordering, int_eq, is_gt, is_eq}
use Rattle.std.specs.Cmp.{IsTotalOrder}
use Rattle.std.specs.List.{AllByRecursion, insert, position_or_len}
use Rattle.std.proofs.lemmas.List.{map-append}
use Rattle.sqlite_keyed.specs.Keyed.{IsKeyedBy, has_key, insert_by}
use Rattle.sqlite_keyed.specs.Lists.{insert_sorted, sort_by, update_where}
use Rattle.sqlite_keyed.proofs.ListLemmas.{filter-map, filter_same, map-map, map_same}
use Rattle.sqlite_keyed.proofs.SortLemmas.{sort_by-map}
use Rattle.lab_store_tables.proofs.SortLaws.{sort-insert_by, fresh_filtered, filter-insert_other, filter-insert_mine, sorted_last, all_sorted}

-- what the parent of an id has
abbrev pub had_by : {X Y : Type 0} → (X → ℤ) → (X → X → Ordering) → (X → Y) → List X → ℤ → List Y
had_by parent cmp shown rows id = map shown (sort_by cmp (filter (λ one. int_eq (parent one) id) rows))

module _ {X Y : Type 0} (key parent : X → ℤ) (cmp : X → X → Ordering) (total : IsTotalOrder cmp) (shown : X → Y) (rows : List X) (rise : IsKeyedBy key rows)
    (new : X) (fresh : has_key key rows (key new) ≡ false) where
  abbrev mine : ℤ → X → Bool
  mine id one = int_eq (parent one) id

  -- no other parent sees a row that is put in
  pub other_has : (id : ℤ) → int_eq (parent new) id ≡ false → had_by parent cmp shown (insert_by key rows new) id ≡ had_by parent cmp shown rows id
  other_has id other = ap (λ list. map shown (sort_by cmp list)) (filter-insert_other key (mine id) new other rows fresh)

  -- its own has it sorted among the others
  pub own_has : (id : ℤ) → int_eq (parent new) id ≡ true
      → AllByRecursion (λ one. is_eq (cmp one new) ≡ false) (filter (mine id) rows)
      → had_by parent cmp shown (insert_by key rows new) id ≡ map shown (insert_sorted cmp new (sort_by cmp (filter (mine id) rows)))
  own_has id own apart =
      ap (λ list. map shown (sort_by cmp list)) (filter-insert_mine key (mine id) new own rows rise fresh)
      ∙ ap (map shown) (sort-insert_by cmp total key new (filter (mine id) rows) (fresh_filtered key (mine id) (key new) rows fresh) apart)

  -- and behind them, where it comes after each
  pub own_has_last : (id : ℤ) → int_eq (parent new) id ≡ true
      → AllByRecursion (λ one. is_eq (cmp one new) ≡ false) (filter (mine id) rows)
      → AllByRecursion (λ one. is_gt (cmp new one) ≡ true) (filter (mine id) rows)
      → had_by parent cmp shown (insert_by key rows new) id ≡ had_by parent cmp shown rows id ++ shown new ∷ []
  own_has_last id own apart after =
      own_has id own apart
      ∙ ap (map shown) (sorted_last cmp new (sort_by cmp (filter (mine id) rows)) (all_sorted cmp (λ one. is_gt (cmp new one) ≡ true) (filter (mine id) rows) after))
      ∙ map-append shown (sort_by cmp (filter (mine id) rows)) (new ∷ [])

-- ---- rows that are set

module _ {X Y : Type 0} (parent : X → ℤ) (cmp : X → X → Ordering) (shown : X → Y) (next : X → X)
    (stays : (one : X) → parent (next one) ≡ parent one) (orders : (one other : X) → cmp (next one) (next other) ≡ cmp one other) where
  -- each parent has its rows as they are set, where neither parent nor order changes
  pub set_has : (rows : List X) (id : ℤ) → had_by parent cmp shown (map next rows) id ≡ had_by parent cmp (λ one. shown (next one)) rows id
  set_has rows id =
      ap (λ list. map shown (sort_by cmp list))
      (filter-map (λ one. int_eq (parent one) id) next rows
      ∙ ap (map next) (filter_same (λ one. int_eq (parent (next one)) id) (λ one. int_eq (parent one) id) (λ one. ap (λ n. int_eq n id) (stays one)) rows))
      ∙ ap (map shown) (sort_by-map cmp next (filter (λ one. int_eq (parent one) id) rows) ∙ (λ i. map next (sort_by (λ a b. orders a b i) (filter (λ one. int_eq (parent one) id) rows))))
      ∙ map-map shown next (sort_by cmp (filter (λ one. int_eq (parent one) id) rows))

  -- and as they were, where nobody reads what is set
  pub unseen : ((one : X) → shown (next one) ≡ shown one) → (rows : List X) (id : ℤ) → had_by parent cmp shown (map next rows) id ≡ had_by parent cmp shown rows id
  unseen same rows id = set_has rows id ∙ map_same (λ one. shown (next one)) shown same (sort_by cmp (filter (λ one. int_eq (parent one) id) rows))

  -- where what is read tells which rows are set, the parent has those set: many of them, or one
  pub set_seen : (seen : Y → Bool) (change : Y → Y) → ((one : X) → shown (next one) ≡ cond (seen (shown one)) (change (shown one)) (shown one))
      → (rows : List X) (id : ℤ) → had_by parent cmp shown (map next rows) id ≡ update_where seen change (had_by parent cmp shown rows id)
  set_seen seen change each rows id =
      set_has rows id ∙ map_same (λ one. shown (next one)) (λ one. cond (seen (shown one)) (change (shown one)) (shown one)) each (sort_by cmp (filter (λ one. int_eq (parent one) id) rows))
      ∙ sym (map-map (λ (y : Y). cond (seen y) (change y) y) shown (sort_by cmp (filter (λ one. int_eq (parent one) id) rows)))

-- ---- a row between others

inserted_by : {A : Type 0} (passes : Bool) (n : ℕ) (item one : A) (others : List A)
    → insert (one ∷ others) (cond (not passes) (1 + n) 0) item ≡ cond passes (item ∷ one ∷ others) (one ∷ insert others n item)
inserted_by true n item one others = refl
inserted_by false n item one others =
    let next : 1 + n ≡ suc n = omega arith in
    ap (λ k. insert (one ∷ others) k item) next

-- sorted among the others, it stands before the first that a test admits, where the test tells before which rows it comes
pub placed_among : {X Y : Type 0} (cmp : X → X → Ordering) (shown : X → Y) (test : Y → Bool) (new : X) (rows : List X)
    → AllByRecursion (λ one. test (shown one) ≡ not (is_gt (cmp new one))) rows
    → map shown (insert_sorted cmp new rows) ≡ insert (map shown rows) (position_or_len test (map shown rows)) (shown new)
placed_among cmp shown test new [] all = refl
placed_among cmp shown test new (one ∷ others) all = go (is_gt (cmp new one)) refl (placed_among cmp shown test new others all.1)
  where
    go : (behind : Bool) → is_gt (cmp new one) ≡ behind
        → map shown (insert_sorted cmp new others) ≡ insert (map shown others) (position_or_len test (map shown others)) (shown new)
        → map shown (cond behind (one ∷ insert_sorted cmp new others) (new ∷ one ∷ others))
        ≡ insert (shown one ∷ map shown others) (position_or_len test (shown one ∷ map shown others)) (shown new)
    go true e more =
        ap (λ list. shown one ∷ list) more
        ∙ sym (inserted_by (test (shown one)) (position_or_len test (map shown others)) (shown new) (shown one) (map shown others)
        ∙ ap (λ b. cond b (shown new ∷ shown one ∷ map shown others) (shown one ∷ insert (map shown others) (position_or_len test (map shown others)) (shown new))) (all.0 ∙ ap not e))
    go false e more =
        sym (inserted_by (test (shown one)) (position_or_len test (map shown others)) (shown new) (shown one) (map shown others)
        ∙ ap (λ b. cond b (shown new ∷ shown one ∷ map shown others) (shown one ∷ insert (map shown others) (position_or_len test (map shown others)) (shown new))) (all.0 ∙ ap not e))

-- ---- what a parent has, row by row

all_admitted : {X : Type 0} (P : X → Type 0) (mine : X → Bool) → ((one : X) → mine one ≡ true → P one) → (rows : List X) → AllByRecursion P (filter mine rows)
all_admitted P mine holds [] = tt
all_admitted P mine holds (one ∷ others) = go (mine one) refl (all_admitted P mine holds others)
  where
    go : (b : Bool) → mine one ≡ b → AllByRecursion P (filter mine others) → AllByRecursion P (cond b (one ∷ filter mine others) (filter mine others))
    go true e more = (holds one e, more)
    go false e more = more

map_alike : {X Y : Type 0} (f g : X → Y) (rows : List X) → AllByRecursion (λ one. f one ≡ g one) rows → map f rows ≡ map g rows
map_alike f g [] all = refl
map_alike f g (one ∷ others) all = ap (λ first. first ∷ map f others) all.0 ∙ ap (λ list. g one ∷ list) (map_alike f g others all.1)

-- two ways of showing its rows that agree on each of them
pub had_alike : {X Y : Type 0} (parent : X → ℤ) (cmp : X → X → Ordering) (f g : X → Y) (rows : List X) (id : ℤ)
    → ((one : X) → int_eq (parent one) id ≡ true → f one ≡ g one) → had_by parent cmp f rows id ≡ had_by parent cmp g rows id
had_alike parent cmp f g rows id agree =
    map_alike f g (sort_by cmp (filter (λ one. int_eq (parent one) id) rows))
    (all_sorted cmp (λ one. f one ≡ g one) (filter (λ one. int_eq (parent one) id) rows) (all_admitted (λ one. f one ≡ g one) (λ one. int_eq (parent one) id) agree rows))
