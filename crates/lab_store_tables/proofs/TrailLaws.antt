-- A row more in the trail: its laboratory has it behind the others, under the next number, and no other laboratory sees it.
use Rattle.std.proofs.Common.{◌≡◌, inl, inr, ℕ, ◌+◌, ℤ, Bool, true, false, ◌&&◌, cond, List, [], ◌∷◌, ◌++◌, filter, find, length, Option, Some, None, option_map, unwrap_or, refl, sym, ap, subst, ◌∙◌, int_eq, bytes_eq}
use Rattle.std.proofs.lemmas.Bool.{and_parts}
use Rattle.std.proofs.lemmas.List.{length-map}
use Rattle.sqlite_rules.specs.Lists.{Has}
use Rattle.sqlite_rules.proofs.ListLemmas.{has_found}
use Rattle.sqlite_keyed.specs.Keyed.{get_by}
use Rattle.sqlite_keyed.specs.Lists.{sort_by}
use Rattle.sqlite_keyed.specs.Rules.{AreApart}
use Rattle.sqlite_keyed.proofs.KeyedLemmas.{same_int}
use Rattle.lab_records_kept.specs.declared.trails.TrailRow.{TrailRow as Told}
use Rattle.lab_records_kept.specs.declared.changes.Change.TheVariants.{TrailAdded}
use Rattle.lab_records_kept.specs.Changes.{change}
use Rattle.lab_records_keeper.specs.Worlds.{Changes}
use Rattle.lab_store_tables.specs.Rows.{LabRow, PersonRow, TrailRow, Tables, lab_id, person_id, trail_id}
use Rattle.lab_store_tables.specs.Meaning.{lab_in, has_code, meaning, code_of, told_in, by_trail, trail_of}
use Rattle.lab_store_tables.specs.WellKept.{have_own_ids, are_ids_unique, are_all_numbered}
use Rattle.lab_store_tables.specs.Changes.{IsFree, IsNamedIfAny, person_named, is_person, told_row_of, put_told, in_lab, Applies}
use Rattle.lab_store_tables.specs.Held.{AreRising}
use Rattle.lab_store_tables.specs.Family.{Trail}
use Rattle.lab_store_tables.proofs.Bridges.{apart_from_test}
use Rattle.lab_store_tables.proofs.ColumnsBack.{action_back}
use Rattle.lab_store_tables.proofs.NumberLaws.{length_sorted, numbered_last}
use Rattle.lab_store_tables.proofs.LabLaws.{alike, same_id, rows_counted}
use Rattle.lab_store_tables.proofs.Comparing.{text_is}

-- ---- ids of their own, table by table

module _ (t : Tables) (ids : are_ids_unique t ≡ true) where
  to_persons : (have_own_ids lab_id t.labs && have_own_ids person_id t.persons) ≡ true
  to_persons =
      (and_parts _ _ (and_parts _ _ (and_parts _ _ (and_parts _ _ (and_parts _ _ (and_parts _ _ (and_parts _ _ (and_parts _ _ (and_parts _ _ ids).0).0).0).0).0).0).0).0).0

  pub labs_own : have_own_ids lab_id t.labs ≡ true
  labs_own = (and_parts _ _ to_persons).0

  pub persons_own : have_own_ids person_id t.persons ≡ true
  persons_own = (and_parts _ _ to_persons).1

-- ---- a person who is named has the name

-- a row is found by its own id
own_found : {X : Type 0} (id : X → ℤ) (xs : List X) (a : X) → AreApart (λ one other. int_eq (id one) (id other)) xs → Has xs a → get_by id xs (id a) ≡ Some a
own_found id [] a apart h = absurd h
own_found id (x ∷ xs) a apart h = go (int_eq (id x) (id a)) refl h (own_found id xs a apart.1)
  where
    go : (b : Bool) → int_eq (id x) (id a) ≡ b → Has (x ∷ xs) a → (Has xs a → get_by id xs (id a) ≡ Some a) → cond b (Some x) (get_by id xs (id a)) ≡ Some a
    go true e k more = ap Some (same_id id (x ∷ xs) x a apart (inl refl) k (same_int (id x) (id a) e))
    go false e (inl k) more = absurd (let yes : int_eq (id x) (id a) ≡ true = alike (id x) (id a) (ap id (sym k)) in cc)
    go false e (inr k) more = more k

pub code_named : (t : Tables) → have_own_ids person_id t.persons ≡ true → (lab : ℤ) (code : List ℕ) (id : ℤ) → person_named t lab code ≡ Some id → code_of t id ≡ code
code_named t ids lab code id named = go (find (is_person lab code) t.persons) refl named
  where
    go : (o : Option PersonRow) → find (is_person lab code) t.persons ≡ o → option_map person_id o ≡ Some id → code_of t id ≡ code
    go None e h = absurd cc
    go (Some one) e h =
        let there = has_found (is_person lab code) t.persons one e in
        let is : one.id ≡ id = ap (λ o. unwrap_or o one.id) h in
        let found : get_by person_id t.persons id ≡ Some one = ap (get_by person_id t.persons) (sym is) ∙ own_found person_id t.persons one (apart_from_test (λ a b. int_eq (person_id a) (person_id b)) t.persons ids) there.0 in
        ap (λ o. unwrap_or (option_map (λ (x : PersonRow). x.code) o) []) found ∙ text_is one.code code (and_parts (int_eq one.lab lab) (bytes_eq one.code code) there.1).1

pub codes_named : (t : Tables) → have_own_ids person_id t.persons ≡ true → (lab : ℤ) (code : Option (List ℕ)) (person : Option ℤ) → IsNamedIfAny t lab code person
    → option_map (code_of t) person ≡ code
codes_named t ids lab None person named = ap (option_map (code_of t)) named
codes_named t ids lab (Some code) person named = ap (option_map (code_of t)) named.2 ∙ ap Some (code_named t ids lab code named.0 named.1)

-- ---- the trail

module _ (t : Tables) (rising : AreRising t) (ids : are_ids_unique t ≡ true) (numbered : are_all_numbered t ≡ true) (code : List ℕ) (row : LabRow)
    (found : find (has_code code) t.labs ≡ Some row) (told : Told) (id : ℤ) (free : IsFree trail_id t.trail id) (person : Option ℤ) (named : IsNamedIfAny t row.id told.person person)
    (next : told.number ≡ length (trail_of t row.id) + 1) where
  abbrev new : TrailRow
  new = told_row_of row.id id person told

  abbrev mine : ℤ → TrailRow → Bool
  mine lab one = int_eq one.lab lab

  -- the next number is one more than the rows that the laboratory has
  next_row : told.number ≡ length (filter (mine row.id) t.trail) + 1
  next_row =
      next ∙ ap (λ n. n + 1) (length-map (sort_by by_trail (filter (mine row.id) t.trail)) (told_in t) ∙ length_sorted by_trail (filter (mine row.id) t.trail))

  told_back : told_in t new ≡ told
  told_back = λ i. record told {
    person = codes_named t (persons_own t ids) row.id told.person person named i;
    action = action_back told.action i;
  }

  trail_law : (lab : ℤ) → trail_of (put_told new t) lab ≡ cond (int_eq lab row.id) (trail_of t lab ++ told ∷ []) (trail_of t lab)
  trail_law lab =
      numbered_last trail_id (λ (one : TrailRow). one.lab) (λ (one : TrailRow). one.number) (told_in t) t.trail (rising.at Trail) (and_parts _ _ numbered).1 new free next_row lab
      ∙ ap (λ one. cond (int_eq lab row.id) (trail_of t lab ++ one ∷ []) (trail_of t lab)) told_back

  -- ---- the laboratory, whose counter follows

  by_case : (lab : LabRow) → lab_in (put_told new t) lab ≡ cond (int_eq lab.id row.id) (change (lab_in t lab) (TrailAdded told)) (lab_in t lab)
  by_case lab = go (int_eq lab.id row.id) (trail_law lab.id)
    where
      go : (b : Bool) → trail_of (put_told new t) lab.id ≡ cond b (trail_of t lab.id ++ told ∷ []) (trail_of t lab.id)
          → lab_in (put_told new t) lab ≡ cond b (change (lab_in t lab) (TrailAdded told)) (lab_in t lab)
      go true law = λ i. record (lab_in t lab) { trail = law i }
      go false law = λ i. record (lab_in t lab) { trail = law i }

  told_set : Changes code (TrailAdded told ∷ []) (meaning t) (meaning (in_lab row.id (λ (lab : LabRow). record lab { trail = told.number }) (put_told new t)))
  told_set =
      rows_counted t (put_told new t) refl (labs_own t ids) code row found (TrailAdded told) by_case (λ (lab : LabRow). record lab { trail = told.number }) (λ lab. refl) (λ lab. refl)

-- a row of the trail, under the next number of its laboratory
pub told_is_added : (old new : Tables) (code : List ℕ) (told : Told) → AreRising old → are_ids_unique old ≡ true → are_all_numbered old ≡ true
    → (it : Applies code (TrailAdded told) old new) → told.number ≡ length (trail_of old it.lab.id) + 1
    → Changes code (TrailAdded told ∷ []) (meaning old) (meaning new)
told_is_added old new code told rising ids numbered it next =
    subst (λ t. Changes code (TrailAdded told ∷ []) (meaning old) (meaning t)) (sym it.made.made)
    (told_set old rising ids numbered code it.lab it.found told it.made.id it.made.free it.made.person it.made.named next)
