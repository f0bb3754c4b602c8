-- Rows of a table that are set under their ids: numbers stay where parents and numbers do.
use Rattle.std.proofs.Common.{◌≡◌, ℕ, suc, ℤ, Bool, true, false, ◌&&◌, cond, List, [], ◌∷◌, map, filter, length, Some, option_map, refl, ap, ap₂, ◌∙◌, int_eq}
use Rattle.std.specs.Prelude.{nat_le}
use Rattle.std.specs.List.{AllByRecursion}
use Rattle.std.proofs.lemmas.Bool.{cond_both}
use Rattle.sqlite_keyed.specs.Keyed.{get_by}
use Rattle.sqlite_keyed.specs.Lists.{update_where}
use Rattle.sqlite_keyed.proofs.ListLemmas.{all_weaker, all_both, all_map}
use Rattle.lab_store_tables.proofs.Kept.{is_numbered, AreNumbered}

-- ---- how many rows a parent has

module _ {X : Type 0} (parent : X → ℤ) (set : X → X) where
  abbrev mine : ℤ → X → Bool
  mine id one = int_eq (parent one) id

  pub count_set : (id : ℤ) (rows : List X) → AllByRecursion (λ one. parent (set one) ≡ parent one) rows
      → length (filter (mine id) (map set rows)) ≡ length (filter (mine id) rows)
  count_set id [] stay = refl
  count_set id (one ∷ others) stay =
      ap (λ at. length (cond (int_eq at id) (set one ∷ filter (mine id) (map set others)) (filter (mine id) (map set others)))) stay.0
      ∙ go (int_eq (parent one) id) (count_set id others stay.1)
    where
      go : (b : Bool) → length (filter (mine id) (map set others)) ≡ length (filter (mine id) others)
          → length (cond b (set one ∷ filter (mine id) (map set others)) (filter (mine id) (map set others))) ≡ length
          (cond b (one ∷ filter (mine id) others) (filter (mine id) others))
      go true more = ap suc more
      go false more = more

-- ---- numbers

module _ {X : Type 0} (parent : X → ℤ) (number : X → ℕ) (set : X → X) (rows : List X)
    (stay : AllByRecursion (λ one. (parent (set one) ≡ parent one) × (number (set one) ≡ number one)) rows) where
  abbrev beside : X → X → Bool
  beside one other = int_eq (parent other) (parent one)

  pub parents_stay : AllByRecursion (λ one. parent (set one) ≡ parent one) rows
  parents_stay =
      all_weaker (λ one. (parent (set one) ≡ parent one) × (number (set one) ≡ number one)) (λ one. parent (set one) ≡ parent one) (λ one h. h.0) rows stay

  still : (one : X) → (parent (set one) ≡ parent one) × (number (set one) ≡ number one) → is_numbered beside number rows one ≡ true
      → is_numbered beside number (map set rows) (set one) ≡ true
  still one same within =
      ap₂ (λ n m. nat_le 1 n && nat_le n m) same.1
      (count_set parent set (parent (set one)) rows parents_stay ∙ ap (λ id. length (filter (λ other. int_eq (parent other) id) rows)) same.0)
      ∙ within

  pub numbered_set : AreNumbered (λ one other. int_eq (parent other) (parent one)) number rows
      → AreNumbered (λ one other. int_eq (parent other) (parent one)) number (map set rows)
  numbered_set numbered =
      all_map (λ one. is_numbered beside number (map set rows) one ≡ true) set rows
      (all_both (λ one. (parent (set one) ≡ parent one) × (number (set one) ≡ number one)) (λ one. is_numbered beside number rows one ≡ true)
      (λ one. is_numbered beside number (map set rows) (set one) ≡ true) still rows stay numbered)

-- ---- a row that is found under its id is found set

pub found_set : {X : Type 0} (key : X → ℤ) (set : X → X) → ((one : X) → key (set one) ≡ key one) → (rows : List X) (id : ℤ)
    → get_by key (map set rows) id ≡ option_map set (get_by key rows id)
found_set key set stay [] id = refl
found_set key set stay (one ∷ others) id =
    ap (λ k. cond (int_eq k id) (Some (set one)) (get_by key (map set others) id)) (stay one) ∙ go (int_eq (key one) id) (found_set key set stay others id)
  where
    go : (b : Bool) → get_by key (map set others) id ≡ option_map set (get_by key others id)
        → cond b (Some (set one)) (get_by key (map set others) id) ≡ option_map set (cond b (Some one) (get_by key others id))
    go true more = refl
    go false more = more

-- ---- one row in place of those that a test tells

pub set_passes : {X : Type 0} (P : X → Type 0) (tells : X → Bool) (row : X) → P row → (rows : List X) → AllByRecursion P rows
    → AllByRecursion P (update_where tells (λ one. row) rows)
set_passes P tells row own rows all =
    all_map P (λ one. cond (tells one) row one) rows
    (all_weaker P (λ one. P (cond (tells one) row one)) (λ one h. cond_both (tells one) row one P (λ e. own) (λ e. h)) rows all)
