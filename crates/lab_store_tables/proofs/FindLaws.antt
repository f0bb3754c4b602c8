-- Whoever a laboratory has is found among the rows of its persons, by the code, and nobody else is.
use Rattle.std.proofs.Common.{◌≡◌, ℕ, ℤ, Bool, true, false, ◌&&◌, ◌||◌, cond, List, [], ◌∷◌, map, filter, find, Option, Some, None, option_map, is_some, refl, sym, ap, ◌∙◌, Ordering, int_eq, bytes_eq, is_gt}
use Rattle.std.specs.List.{list_any}
use Rattle.sqlite_keyed.specs.Lists.{insert_sorted, sort_by}
use Rattle.sqlite_keyed.proofs.SliceLemmas.{any_is_found}
use Rattle.lab_people_access.specs.declared.persons.Person.{Person}
use Rattle.lab_people_access.specs.Persons.{person_of}
use Rattle.lab_store_tables.specs.Rows.{PersonRow, Tables, person_id}
use Rattle.lab_store_tables.specs.Meaning.{person_in, by_code, persons_of}
use Rattle.lab_store_tables.specs.Changes.{is_person, person_named}

-- ---- some row passes a test, whether the rows are sorted, filtered or read

or_turned : (a b c : Bool) → (a || (b || c)) ≡ (b || (a || c))
or_turned true true c = refl
or_turned true false c = refl
or_turned false b c = refl

module _ {X : Type 0} (cmp : X → X → Ordering) (p : X → Bool) where
  any_inserted : (new : X) (xs : List X) → list_any p (insert_sorted cmp new xs) ≡ (p new || list_any p xs)
  any_inserted new [] = refl
  any_inserted new (x ∷ xs) = go (is_gt (cmp new x)) (any_inserted new xs)
    where
      go : (b : Bool) → list_any p (insert_sorted cmp new xs) ≡ (p new || list_any p xs)
          → list_any p (cond b (x ∷ insert_sorted cmp new xs) (new ∷ x ∷ xs)) ≡ (p new || (p x || list_any p xs))
      go true more = ap (λ b. p x || b) more ∙ or_turned (p x) (p new) (list_any p xs)
      go false more = refl

  pub any_sorted : (xs : List X) → list_any p (sort_by cmp xs) ≡ list_any p xs
  any_sorted [] = refl
  any_sorted (x ∷ xs) = any_inserted x (sort_by cmp xs) ∙ ap (λ b. p x || b) (any_sorted xs)

pub any_filtered : {X : Type 0} (p q : X → Bool) (xs : List X) → list_any p (filter q xs) ≡ list_any (λ x. q x && p x) xs
any_filtered p q [] = refl
any_filtered p q (x ∷ xs) = go (q x) (any_filtered p q xs)
  where
    go : (b : Bool) → list_any p (filter q xs) ≡ list_any (λ y. q y && p y) xs
        → list_any p (cond b (x ∷ filter q xs) (filter q xs)) ≡ ((b && p x) || list_any (λ y. q y && p y) xs)
    go true more = ap (λ b. p x || b) more
    go false more = more

pub any_read : {X Y : Type 0} (p : Y → Bool) (f : X → Y) (xs : List X) → list_any p (map f xs) ≡ list_any (λ x. p (f x)) xs
any_read p f [] = refl
any_read p f (x ∷ xs) = ap (λ b. p (f x) || b) (any_read p f xs)

-- ---- persons

has_code_any : (code : List ℕ) (persons : List Person) → is_some (person_of persons code) ≡ list_any (λ (one : Person). bytes_eq one.code code) persons
has_code_any code [] = refl
has_code_any code (one ∷ others) = go (bytes_eq one.code code) (has_code_any code others)
  where
    go : (b : Bool) → is_some (person_of others code) ≡ list_any (λ (x : Person). bytes_eq x.code code) others
        → is_some (cond b (Some one) (person_of others code)) ≡ (b || list_any (λ (x : Person). bytes_eq x.code code) others)
    go true more = refl
    go false more = more

some_named : {A B : Type 0} (f : A → B) (one : Option A) → is_some (option_map f one) ≡ is_some one
some_named f None = refl
some_named f (Some x) = refl

-- somebody of the laboratory has the code, just where the row is found by it
pub person_is_found : (t : Tables) (lab : ℤ) (code : List ℕ) → is_some (person_of (persons_of t lab) code) ≡ is_some (person_named t lab code)
person_is_found t lab code =
    has_code_any code (persons_of t lab)
    ∙ any_read (λ (one : Person). bytes_eq one.code code) (person_in t) (sort_by by_code (filter (λ (one : PersonRow). int_eq one.lab lab) t.persons))
    ∙ any_sorted by_code (λ (one : PersonRow). bytes_eq one.code code) (filter (λ (one : PersonRow). int_eq one.lab lab) t.persons)
    ∙ any_filtered (λ (one : PersonRow). bytes_eq one.code code) (λ (one : PersonRow). int_eq one.lab lab) t.persons
    ∙ any_is_found (is_person lab code) t.persons
    ∙ sym (some_named person_id (find (is_person lab code) t.persons))
