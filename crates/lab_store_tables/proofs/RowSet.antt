-- One row of a table is shown otherwise: its parent has it so, and every other parent has its rows as they were. The row is
-- known by its id, and among its parent's rows by its number.
use Rattle.std.proofs.Common.{◌≡◌, ◌<◌, ℕ, ℤ, Bool, true, false, ◌&&◌, ◌==◌, cond, List, [], ◌∷◌, map, filter, inl, inr, refl, sym, ap, subst, ◌∙◌, int_eq, Ordering}
use Rattle.std.specs.Ordering.{nat_cmp}
use Rattle.std.specs.List.{AllByRecursion}
use Rattle.std.proofs.lemmas.Bool.{and_from, eq-eqb, eqb-true}
use Rattle.sqlite_trees.specs.Tree.{IsAscending}
use Rattle.sqlite_rules.specs.Lists.{Has}
use Rattle.sqlite_rules.proofs.ListLemmas.{all_has, all_from, has_filtered}
use Rattle.sqlite_keyed.specs.Lists.{sort_by, update_where}
use Rattle.sqlite_keyed.specs.Rules.{AreApart}
use Rattle.sqlite_keyed.proofs.ListLemmas.{map-map}
use Rattle.sqlite_keyed.proofs.KeyedLemmas.{same_int}
use Rattle.lab_store_tables.proofs.SortLaws.{all_sorted}
use Rattle.lab_store_tables.proofs.LevelLaws.{had_by}
use Rattle.lab_store_tables.proofs.LabLaws.{alike, same_id}
use Rattle.lab_store_tables.proofs.OrderLaws.{pairs_admitted, up_sorted}
use Rattle.lab_store_tables.proofs.OneRow.{never}

pub map_alike : {X Y : Type 0} (f g : X → Y) (rows : List X) → AllByRecursion (λ one. f one ≡ g one) rows → map f rows ≡ map g rows
map_alike f g [] all = refl
map_alike f g (one ∷ others) all = ap (λ first. first ∷ map f others) all.0 ∙ ap (λ list. g one ∷ list) (map_alike f g others all.1)

-- two ways of showing the rows of a parent that agree on each row of the table that is its own
pub had_alike : {X Y : Type 0} (parent : X → ℤ) (cmp : X → X → Ordering) (f g : X → Y) (rows : List X) (at : ℤ)
    → ((one : X) → Has rows one → int_eq (parent one) at ≡ true → f one ≡ g one) → had_by parent cmp f rows at ≡ had_by parent cmp g rows at
had_alike parent cmp f g rows at agree =
    map_alike f g (sort_by cmp (filter (λ one. int_eq (parent one) at) rows))
    (all_sorted cmp (λ one. f one ≡ g one) (filter (λ one. int_eq (parent one) at) rows)
    (all_from (λ one. f one ≡ g one) (filter (λ one. int_eq (parent one) at) rows)
    (λ one has. let it = has_filtered (λ x. int_eq (parent x) at) rows one has in agree one it.0 it.1)))

-- two rows of one key are one
pub same_key_row : {X : Type 0} (clash : X → X → Bool) (xs : List X) (a b : X) → AreApart clash xs → Has xs a → Has xs b
    → clash a b ≡ true → clash b a ≡ true → a ≡ b
same_key_row clash [] a b apart h k there back = absurd h
same_key_row clash (x ∷ xs) a b apart (inl h) (inl k) there back = h ∙ sym k
same_key_row clash (x ∷ xs) a b apart (inl h) (inr k) there back =
    absurd (let none = all_has (λ y. clash x y ≡ false) xs b apart.0 k in let all : clash x b ≡ true = ap (λ y. clash y b) (sym h) ∙ there in cc)
same_key_row clash (x ∷ xs) a b apart (inr h) (inl k) there back =
    absurd (let none = all_has (λ y. clash x y ≡ false) xs a apart.0 h in let all : clash x a ≡ true = ap (λ y. clash y a) (sym k) ∙ back in cc)
same_key_row clash (x ∷ xs) a b apart (inr h) (inr k) there back = same_key_row clash xs a b apart.1 h k there back

module _ {X : Type 0} (parent : X → ℤ) (number : X → ℕ) (rows : List X)
    (keys : AreApart (λ one other. int_eq (parent one) (parent other) && (number one == number other)) rows) (at : ℤ) where
  -- among the rows of a parent no two have one number
  differ_admitted : IsAscending (λ one other. (number one == number other) ≡ false) (filter (λ one. int_eq (parent one) at) rows)
  differ_admitted =
      pairs_admitted (λ a b. (int_eq (parent a) (parent b) && (number a == number b)) ≡ false) (λ a b. (number a == number b) ≡ false)
      (λ one. int_eq (parent one) at)
      (λ a b here also apart.
      let beside : int_eq (parent a) (parent b) ≡ true = alike (parent a) (parent b) (same_int (parent a) at here ∙ sym (same_int (parent b) at also)) in
      ap (λ c. c && (number a == number b)) (sym beside) ∙ apart)
      rows keys

  -- so they rise as they are shown
  pub rising_sorted : IsAscending (λ one other. number one < number other)
      (sort_by (λ one other. nat_cmp (number one) (number other)) (filter (λ one. int_eq (parent one) at) rows))
  rising_sorted = up_sorted number (filter (λ one. int_eq (parent one) at) rows) differ_admitted

-- ---- the row, and what is shown in its place

module _ {X Y : Type 0} (id parent : X → ℤ) (rows : List X) (own : AreApart (λ one other. int_eq (id one) (id other)) rows) (top : X) (there : Has rows top)
    (cmp : X → X → Ordering) (shown next : X → Y) (elsewhere : (one : X) → Has rows one → int_eq (id one) (id top) ≡ false → next one ≡ shown one) where
  top_by_id : (one : X) → Has rows one → int_eq (id one) (id top) ≡ true → one ≡ top
  top_by_id one has e = same_id id rows one top own has there (same_int (id one) (id top) e)

  -- another parent has its rows as they were
  pub other_parent : (at : ℤ) → int_eq at (parent top) ≡ false → had_by parent cmp next rows at ≡ had_by parent cmp shown rows at
  other_parent at other =
      had_alike parent cmp next shown rows at
      (λ one has beside.
      elsewhere one has (never (int_eq (id one) (id top)) (λ e.
      let also : int_eq at (parent top) ≡ true = alike at (parent top) (sym (same_int (parent one) at beside) ∙ ap parent (top_by_id one has e)) in cc)))

  module _ (number : X → ℕ) (keys : AreApart (λ one other. int_eq (parent one) (parent other) && (number one == number other)) rows)
      (f : Y → Y) (here : next top ≡ f (shown top)) (seen : Y → Bool) (tells : (one : X) → seen (shown one) ≡ (number one == number top)) where
    top_by_number : (one : X) → Has rows one → int_eq (parent one) (parent top) ≡ true → (number one == number top) ≡ true → one ≡ top
    top_by_number one has beside e =
        let same = eqb-true (number one) (number top) e in
        let turned : int_eq (parent top) (parent one) ≡ true = alike (parent top) (parent one) (sym (same_int (parent one) (parent top) beside)) in
        same_key_row (λ a b. int_eq (parent a) (parent b) && (number a == number b)) rows one top keys has there
        (and_from (int_eq (parent one) (parent top)) (number one == number top) beside e)
        (and_from (int_eq (parent top) (parent one)) (number top == number one) turned (eq-eqb (number top) (number one) (sym same)))

    each : (one : X) → Has rows one → int_eq (parent one) (parent top) ≡ true → next one ≡ cond (seen (shown one)) (f (shown one)) (shown one)
    each one has beside = go (number one == number top) refl ∙ ap (λ b. cond b (f (shown one)) (shown one)) (sym (tells one))
      where
        go : (b : Bool) → (number one == number top) ≡ b → next one ≡ cond b (f (shown one)) (shown one)
        go true e = subst (λ x. next x ≡ f (shown x)) (sym (top_by_number one has beside e)) here
        go false e =
            elsewhere one has (never (int_eq (id one) (id top)) (λ k.
            let same : (number one == number top) ≡ true = eq-eqb (number one) (number top) (ap number (top_by_id one has k)) in cc))

    -- its own has that one set
    pub own_parent : had_by parent cmp next rows (parent top) ≡ update_where seen f (had_by parent cmp shown rows (parent top))
    own_parent =
        had_alike parent cmp next (λ one. cond (seen (shown one)) (f (shown one)) (shown one)) rows (parent top) each
        ∙ sym (map-map (λ (y : Y). cond (seen y) (f y) y) shown (sort_by cmp (filter (λ one. int_eq (parent one) (parent top)) rows)))
