-- A row that is put in under the next number: its parent has it behind the others, and no other parent sees it. Of each
-- table whose rows are numbered beside those of one parent: sessions, records, versions, entries, signatures, fields,
-- choices and the trail.
use Rattle.std.proofs.Common.{◌≡◌, ◌≤◌, ◌<◌, ℕ, ◌+◌, ℤ, Bool, true, false, ◌&&◌, cond, List, [], ◌∷◌, ◌++◌, filter, length, refl, ap, subst, int_eq, is_gt, is_eq, Ordering, arith, sym}
use Rattle.std.specs.Prelude.{nat_le}
use Rattle.std.specs.Ordering.{nat_cmp}
use Rattle.std.specs.List.{AllByRecursion}
use Rattle.std.proofs.lemmas.Int.{ints}
use Rattle.std.proofs.lemmas.Bool.{and_parts, leb-true}
use Rattle.sqlite_keyed.specs.Keyed.{IsKeyedBy, has_key, insert_by}
use Rattle.sqlite_keyed.specs.Lists.{insert_sorted, sort_by}
use Rattle.sqlite_keyed.proofs.ListLemmas.{all_from_test, all_weaker}
use Rattle.sqlite_keyed.proofs.KeyedLemmas.{same_int}
use Rattle.lab_store_tables.specs.WellKept.{are_numbered_beside}
use Rattle.lab_store_tables.proofs.SortLaws.{total_on}
use Rattle.lab_store_tables.proofs.LevelLaws.{had_by, other_has, own_has_last}
use Rattle.lab_store_tables.proofs.PlacedLaws.{behind, untied}
use Rattle.lab_store_tables.proofs.OneRow.{turned}
use Rattle.lab_store_tables.proofs.LabLaws.{alike}

le_is : (a b : ℕ) → nat_le a b ≡ true → a ≤ b
le_is a b h = leb-true a b h

-- the rows that a test admits, with what holds of them all
pub each_admitted : {X : Type 0} (P Q : X → Type 0) (mine : X → Bool) → ((x : X) → mine x ≡ true → P x → Q x) → (xs : List X) → AllByRecursion P xs → AllByRecursion Q (filter mine xs)
each_admitted P Q mine turn [] all = tt
each_admitted P Q mine turn (x ∷ xs) all = go (mine x) refl (each_admitted P Q mine turn xs all.1)
  where
    go : (b : Bool) → mine x ≡ b → AllByRecursion Q (filter mine xs) → AllByRecursion Q (cond b (x ∷ filter mine xs) (filter mine xs))
    go true e more = (turn x e all.0, more)
    go false e more = more

-- ---- how many rows a parent has

length_inserted : {X : Type 0} (cmp : X → X → Ordering) (new : X) (xs : List X) → length (insert_sorted cmp new xs) ≡ length xs + 1
length_inserted cmp new [] = omega arith
length_inserted cmp new (x ∷ xs) = go (is_gt (cmp new x)) (length_inserted cmp new xs)
  where
    go : (b : Bool) → length (insert_sorted cmp new xs) ≡ length xs + 1 → length (cond b (x ∷ insert_sorted cmp new xs) (new ∷ x ∷ xs)) ≡ length (x ∷ xs) + 1
    go true h = omega arith
    go false h = omega arith

pub length_sorted : {X : Type 0} (cmp : X → X → Ordering) (xs : List X) → length (sort_by cmp xs) ≡ length xs
length_sorted cmp [] = refl
length_sorted cmp (x ∷ xs) = let more = length_sorted cmp xs in let one = length_inserted cmp x (sort_by cmp xs) in omega arith

-- ---- a row under the next number

module _ {X Y : Type 0} (id parent : X → ℤ) (number : X → ℕ) (shown : X → Y) (rows : List X) (rise : IsKeyedBy id rows)
    (numbered : are_numbered_beside (λ one other. int_eq (parent other) (parent one)) number rows ≡ true)
    (new : X) (fresh : has_key id rows (id new) ≡ false) (next : number new ≡ length (filter (λ one. int_eq (parent one) (parent new)) rows) + 1) where
  abbrev mine : ℤ → X → Bool
  mine at one = int_eq (parent one) at

  abbrev by_number : X → X → Ordering
  by_number one other = nat_cmp (number one) (number other)

  -- each row that the parent has comes before the new one
  below : AllByRecursion (λ one. number one < number new) (filter (mine (parent new)) rows)
  below =
      each_admitted (λ one. (nat_le 1 (number one) && nat_le (number one) (length (filter (mine (parent one)) rows))) ≡ true) (λ one. number one < number new) (mine (parent new))
      (λ one own within.
      let least : number one ≤ length (filter (mine (parent one)) rows) = le_is (number one) (length (filter (mine (parent one)) rows)) (and_parts (nat_le 1 (number one)) (nat_le (number one) (length (filter (mine (parent one)) rows))) within).1 in
      let here : length (filter (mine (parent one)) rows) ≡ length (filter (mine (parent new)) rows) = ap (λ at. length (filter (mine at) rows)) (same_int (parent one) (parent new) own) in
      omega (arith, least, here, next))
      rows (all_from_test (λ one. nat_le 1 (number one) && nat_le (number one) (length (filter (mine (parent one)) rows))) rows numbered)

  pub numbered_last : (at : ℤ) → had_by parent by_number shown (insert_by id rows new) at
      ≡ cond (int_eq at (parent new)) (had_by parent by_number shown rows at ++ shown new ∷ []) (had_by parent by_number shown rows at)
  numbered_last at = go (int_eq at (parent new)) refl
    where
      go : (b : Bool) → int_eq at (parent new) ≡ b → had_by parent by_number shown (insert_by id rows new) at
          ≡ cond b (had_by parent by_number shown rows at ++ shown new ∷ []) (had_by parent by_number shown rows at)
      go true e =
          subst (λ l. had_by parent by_number shown (insert_by id rows new) l ≡ had_by parent by_number shown rows l ++ shown new ∷ []) (sym (same_int at (parent new) e))
          (own_has_last id parent by_number (total_on number) shown rows rise new fresh (parent new) (alike (parent new) (parent new) refl)
          (all_weaker (λ one. number one < number new) (λ one. is_eq (by_number one new) ≡ false) (λ one h. untied (number one) (number new) h) (filter (mine (parent new)) rows) below)
          (all_weaker (λ one. number one < number new) (λ one. is_gt (by_number new one) ≡ true) (λ one h. behind (number one) (number new) h) (filter (mine (parent new)) rows) below))
      go false e = other_has id parent by_number (total_on number) shown rows rise new fresh at (turned at (parent new) e)
