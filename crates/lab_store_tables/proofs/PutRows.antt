-- A row that is put into its table under a free id: what a look-up finds, how many rows a test admits, and the numbers of
-- the rows, where it comes under the next one.
use Rattle.std.proofs.Common.{◌≡◌, ◌≤◌, ℕ, suc, ◌+◌, ℤ, Bool, true, false, ◌&&◌, cond, List, [], ◌∷◌, filter, length, Some, None, is_some, refl, ap, ◌∙◌, arith, Ordering, Less, Equal, Greater, int_cmp, int_eq, is_eq}
use Rattle.std.specs.Prelude.{nat_le}
use Rattle.std.specs.Ordering.{match_ordering}
use Rattle.std.proofs.lemmas.Bool.{and_parts, and_from, leb-true, le-leb}
use Rattle.sqlite_keyed.specs.Keyed.{get_by, has_key, insert_by}
use Rattle.sqlite_keyed.proofs.ListLemmas.{all_weaker}
use Rattle.sqlite_keyed.proofs.KeyedLemmas.{all-insert_by, filter-insert_by, int_eq_apart}
use Rattle.lab_store_tables.proofs.LabLaws.{alike}
use Rattle.lab_store_tables.proofs.Kept.{is_numbered, AreNumbered}

-- ---- numbers from 1 to one

pub within_from : (a n : ℕ) → 1 ≤ a → a ≤ n → (nat_le 1 a && nat_le a n) ≡ true
within_from a n least most = and_from (nat_le 1 a) (nat_le a n) (le-leb 1 a least) (le-leb a n most)

pub within_to : (a n : ℕ) → (nat_le 1 a && nat_le a n) ≡ true → (1 ≤ a) × (a ≤ n)
within_to a n within = let both = and_parts (nat_le 1 a) (nat_le a n) within in (leb-true 1 a both.0, leb-true a n both.1)

within_more : (a m n : ℕ) → m ≤ n → (nat_le 1 a && nat_le a m) ≡ true → (nat_le 1 a && nat_le a n) ≡ true
within_more a m n up within =
    let both = within_to a m within in
    let most = both.1 in
    within_from a n both.0 (omega (arith, most, up))

-- ---- how many rows a test admits

length_with : {X : Type 0} (b : Bool) (new : X) (xs : List X) → length (cond b (new ∷ xs) xs) ≡ length xs + cond b 1 0
length_with true new xs = omega arith
length_with false new xs = omega arith

more_by : (a b n : ℕ) → a ≡ b + n → suc a ≡ suc b + n
more_by a b n h = omega arith

module _ {X : Type 0} (key : X → ℤ) (new : X) where
  pub count_put : (p : X → Bool) (rows : List X) → has_key key rows (key new) ≡ false
      → length (filter p (insert_by key rows new)) ≡ length (filter p rows) + cond (p new) 1 0
  count_put p [] fresh = length_with (p new) new []
  count_put p (x ∷ rows) fresh = go (int_cmp (key x) (key new)) refl fresh (count_put p rows)
    where
      behind : (b : Bool) → length (filter p (insert_by key rows new)) ≡ length (filter p rows) + cond (p new) 1 0
          → length (cond b (x ∷ filter p (insert_by key rows new)) (filter p (insert_by key rows new))) ≡ length
          (cond b (x ∷ filter p rows) (filter p rows)) + cond (p new) 1 0
      behind true more = more_by (length (filter p (insert_by key rows new))) (length (filter p rows)) (cond (p new) 1 0) more
      behind false more = more

      go : (o : Ordering) → int_cmp (key x) (key new) ≡ o → is_some (cond (is_eq (int_cmp (key x) (key new))) (Some x) (get_by key rows (key new))) ≡ false
          → (has_key key rows (key new) ≡ false → length (filter p (insert_by key rows new)) ≡ length (filter p rows) + cond (p new) 1 0)
          → length (filter p (match_ordering o (x ∷ insert_by key rows new) (new ∷ rows) (new ∷ x ∷ rows))) ≡ length (filter p (x ∷ rows)) + cond (p new) 1 0
      go Less e h more = behind (p x) (more (rw e at h))
      go Equal e h more = absurd (let wrong = rw e at h in cc)
      go Greater e h more = length_with (p new) new (filter p (x ∷ rows))

  pub count_grows : (p : X → Bool) (rows : List X) → has_key key rows (key new) ≡ false → length (filter p rows) ≤ length (filter p (insert_by key rows new))
  count_grows p rows fresh = let more = count_put p rows fresh in omega (arith, more)

  -- one more where it is admitted
  pub count_mine : (p : X → Bool) (rows : List X) → has_key key rows (key new) ≡ false → p new ≡ true
      → length (filter p (insert_by key rows new)) ≡ length (filter p rows) + 1
  count_mine p rows fresh own = count_put p rows fresh ∙ ap (λ b. length (filter p rows) + cond b 1 0) own

  -- and as many as before where it isn't
  pub count_other : (p : X → Bool) (rows : List X) → has_key key rows (key new) ≡ false → p new ≡ false
      → length (filter p (insert_by key rows new)) ≡ length (filter p rows)
  count_other p rows fresh other = ap length (filter-insert_by key p rows new fresh other)

  -- ---- what is found

  other_key : (rows : List X) (id : ℤ) (one : X) → has_key key rows (key new) ≡ false → get_by key rows id ≡ Some one → int_eq (key new) id ≡ false
  other_key rows id one fresh found =
      int_eq_apart (key new) id (λ same. let there : has_key key rows (key new) ≡ true = ap (λ k. has_key key rows k) same ∙ ap is_some found in cc)

  -- whoever was found still is
  pub found_put : (rows : List X) (id : ℤ) (one : X) → has_key key rows (key new) ≡ false → get_by key rows id ≡ Some one
      → get_by key (insert_by key rows new) id ≡ Some one
  found_put [] id one fresh found = absurd cc
  found_put (x ∷ rows) id one fresh found = go (int_cmp (key x) (key new)) refl fresh (found_put rows id one)
    where
      behind : (b : Bool) → (get_by key rows id ≡ Some one → get_by key (insert_by key rows new) id ≡ Some one)
          → cond b (Some x) (get_by key rows id) ≡ Some one
          → cond b (Some x) (get_by key (insert_by key rows new) id) ≡ Some one
      behind true more h = h
      behind false more h = more h

      go : (o : Ordering) → int_cmp (key x) (key new) ≡ o → is_some (cond (is_eq (int_cmp (key x) (key new))) (Some x) (get_by key rows (key new))) ≡ false
          → (has_key key rows (key new) ≡ false → get_by key rows id ≡ Some one → get_by key (insert_by key rows new) id ≡ Some one)
          → get_by key (match_ordering o (x ∷ insert_by key rows new) (new ∷ rows) (new ∷ x ∷ rows)) id ≡ Some one
      go Less e h more = behind (int_eq (key x) id) (more (rw e at h)) found
      go Equal e h more = absurd (let wrong = rw e at h in cc)
      go Greater e h more = ap (λ b. cond b (Some new) (get_by key (x ∷ rows) id)) (other_key (x ∷ rows) id one fresh found) ∙ found

  -- and the new row is, under its id
  pub new_found : (rows : List X) → has_key key rows (key new) ≡ false → get_by key (insert_by key rows new) (key new) ≡ Some new
  new_found [] fresh = ap (λ b. cond b (Some new) None) (alike (key new) (key new) refl)
  new_found (x ∷ rows) fresh = go (int_cmp (key x) (key new)) refl fresh (new_found rows)
    where
      first : (others : List X) → get_by key (new ∷ others) (key new) ≡ Some new
      first others = ap (λ b. cond b (Some new) (get_by key others (key new))) (alike (key new) (key new) refl)

      go : (o : Ordering) → int_cmp (key x) (key new) ≡ o → is_some (cond (is_eq (int_cmp (key x) (key new))) (Some x) (get_by key rows (key new))) ≡ false
          → (has_key key rows (key new) ≡ false → get_by key (insert_by key rows new) (key new) ≡ Some new)
          → get_by key (match_ordering o (x ∷ insert_by key rows new) (new ∷ rows) (new ∷ x ∷ rows)) (key new) ≡ Some new
      go Less e h more = ap (λ o. cond (is_eq o) (Some x) (get_by key (insert_by key rows new) (key new))) e ∙ more (rw e at h)
      go Equal e h more = absurd (let wrong = rw e at h in cc)
      go Greater e h more = first (x ∷ rows)

-- ---- a row under the next number

module _ {X : Type 0} (key : X → ℤ) (beside : X → X → Bool) (number : X → ℕ) (rows : List X) (new : X) (fresh : has_key key rows (key new) ≡ false)
    (self : beside new new ≡ true) (next : number new ≡ length (filter (beside new) rows) + 1) where
  grown : length (filter (beside new) (insert_by key rows new)) ≡ length (filter (beside new) rows) + 1
  grown = count_mine key new (beside new) rows fresh self

  own_number : is_numbered beside number (insert_by key rows new) new ≡ true
  own_number =
      within_from (number new) (length (filter (beside new) (insert_by key rows new))) (omega (arith, next)) (let more = grown in omega (arith, next, more))

  pub numbered_put : AreNumbered beside number rows → AreNumbered beside number (insert_by key rows new)
  numbered_put numbered =
      all-insert_by key (λ one. is_numbered beside number (insert_by key rows new) one ≡ true) rows new own_number
      (all_weaker (λ one. is_numbered beside number rows one ≡ true) (λ one. is_numbered beside number (insert_by key rows new) one ≡ true)
      (λ one within. within_more (number one) (length (filter (beside one) rows)) (length (filter (beside one) (insert_by key rows new)))
      (count_grows key new (beside one) rows fresh) within)
      rows numbered)
