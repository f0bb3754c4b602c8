-- Rows that are shown, tested for their numbers and their laboratory, as the tables are.
use Rattle.std.proofs.Common.{◌≡◌, ℕ, ℤ, Bool, ◌&&◌, ◌+◌, ◌==◌, List, [], ◌∷◌, map, length, refl, ap, ap₂, int_eq}
use Rattle.std.specs.List.{list_all}
use Rattle.std.proofs.lemmas.List.{length-map}
use Rattle.sqlite_value.specs.Order.{Row, column}
use Rattle.sqlite_rules.specs.Edit.{id_in}
use Rattle.lab_store_tables.specs.Rows.{number_in}
use Rattle.lab_move_tables.specs.KeptLabs.{run_after, run}
use Rattle.lab_move_tables.specs.Checks.{are_numbered_after, are_rows_numbered, are_owned}
use Rattle.lab_move_read_people.specs.Kept.{are_counted}

module _ {X : Type 0} (show : X → Row) where
  numbered_from : (at : ℕ) (number : X → ℕ) → ((x : X) → number_in (column (show x) at) ≡ number x) → (before : ℕ) (xs : List X) → are_numbered_after at before (map show xs) ≡ run_after number before xs
  numbered_from at number is before [] = refl
  numbered_from at number is before (x ∷ xs) = ap₂ (λ n more. (n == before + 1) && more) (is x) (numbered_from at number is (before + 1) xs)

  pub numbered_is : (at : ℕ) (number : X → ℕ) → ((x : X) → number_in (column (show x) at) ≡ number x) → (xs : List X) → are_rows_numbered at (map show xs) ≡ run number xs
  numbered_is at number is xs = numbered_from at number is 0 xs

  pub counted_is : (at count : ℕ) (number : X → ℕ) → ((x : X) → number_in (column (show x) at) ≡ number x) → (xs : List X)
      → are_counted at count (map show xs) ≡ ((length xs == count) && run number xs)
  counted_is at count number is xs = ap₂ (λ n more. (n == count) && more) (length-map xs show) (numbered_is at number is xs)

  pub owned_is : (at : ℕ) (lab : ℤ) (owner : X → ℤ) → ((x : X) → id_in (column (show x) at) ≡ owner x) → (xs : List X) → are_owned at lab (map show xs) ≡ list_all (λ x. int_eq (owner x) lab) xs
  owned_is at lab owner is [] = refl
  owned_is at lab owner is (x ∷ xs) = ap₂ (λ o more. int_eq o lab && more) (is x) (owned_is at lab owner is xs)

-- a test of what was made of a list
pub list_all-map : {X Y : Type 0} (p : Y → Bool) (f : X → Y) (xs : List X) → list_all p (map f xs) ≡ list_all (λ x. p (f x)) xs
list_all-map p f [] = refl
list_all-map p f (x ∷ xs) = ap (λ more. p (f x) && more) (list_all-map p f xs)
