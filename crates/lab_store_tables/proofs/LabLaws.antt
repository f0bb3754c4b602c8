-- A change of what one laboratory's row shows is a change of that laboratory, and of no other.
use Rattle.std.proofs.Common.{◌≡◌, ◌≢◌, inl, inr, ℕ, ℤ, Bool, true, false, cond, List, [], ◌∷◌, find, Option, Some, None, option_map, refl, sym, ap, subst, ◌∙◌, int_eq, bytes_eq, arith}
use Rattle.std.proofs.lemmas.Int.{ints}
use Rattle.sqlite_rules.specs.Lists.{Has}
use Rattle.sqlite_rules.proofs.ListLemmas.{all_has, has_found}
use Rattle.sqlite_keyed.specs.Lists.{update_where}
use Rattle.sqlite_keyed.specs.Rules.{AreApart}
use Rattle.sqlite_keyed.proofs.KeyedLemmas.{int_eq_apart}
use Rattle.lab_records_kept.specs.declared.labs.Lab.{Lab}
use Rattle.lab_records_kept.specs.declared.changes.Change.{Change}
use Rattle.lab_records_kept.specs.declared.changes.Change.TheVariants.{Last, Strays}
use Rattle.lab_records_kept.specs.Changes.{change, changed_in}
use Rattle.lab_records_keeper.specs.Worlds.{Changes}
use Rattle.lab_store_tables.specs.Rows.{LabRow, Tables, lab_id}
use Rattle.lab_store_tables.specs.Meaning.{lab_in, has_code, meaning}
use Rattle.lab_store_tables.specs.WellKept.{have_own_ids}
use Rattle.lab_store_tables.specs.Changes.{in_lab, Applies}
use Rattle.lab_store_tables.proofs.Bridges.{apart_from_test}
use Rattle.lab_store_tables.proofs.Comparing.{text_is}

pub alike : (a b : ℤ) → a ≡ b → int_eq a b ≡ true
alike a b e = grind (arith, ints)

-- two rows of one id are one
pub same_id : {X : Type 0} (id : X → ℤ) (xs : List X) (a b : X) → AreApart (λ one other. int_eq (id one) (id other)) xs → Has xs a → Has xs b → id a ≡ id b → a ≡ b
same_id id [] a b apart h k e = absurd h
same_id id (x ∷ xs) a b apart (inl h) (inl k) e = h ∙ sym k
same_id id (x ∷ xs) a b apart (inl h) (inr k) e = absurd (let no = all_has _ xs b apart.0 k in let yes : int_eq (id x) (id b) ≡ true = alike (id x) (id b) (ap id (sym h) ∙ e) in cc)
same_id id (x ∷ xs) a b apart (inr h) (inl k) e = absurd (let no = all_has _ xs a apart.0 h in let yes : int_eq (id x) (id a) ≡ true = alike (id x) (id a) (ap id (sym k) ∙ sym e) in cc)
same_id id (x ∷ xs) a b apart (inr h) (inr k) e = same_id id xs a b apart.1 h k e

-- ---- what each laboratory is, before and after

module _ (rows : List LabRow) (ids : have_own_ids lab_id rows ≡ true) (code : List ℕ) (row : LabRow) (found : find (has_code code) rows ≡ Some row)
    (shown after : LabRow → Lab) (next : Lab → Lab) (law : (one : LabRow) → after one ≡ cond (int_eq one.id row.id) (next (shown one)) (shown one)) where
  pub this_lab : option_map after (find (has_code code) rows) ≡ option_map next (option_map shown (find (has_code code) rows))
  this_lab =
      ap (option_map after) found ∙ ap Some (law row ∙ ap (λ b. cond b (next (shown row)) (shown row)) (alike row.id row.id refl))
      ∙ sym (ap (λ o. option_map next (option_map shown o)) found)

  pub other_lab : (other : List ℕ) → other ≢ code → option_map after (find (has_code other) rows) ≡ option_map shown (find (has_code other) rows)
  other_lab other differs = go (find (has_code other) rows) refl
    where
      go : (o : Option LabRow) → find (has_code other) rows ≡ o → option_map after o ≡ option_map shown o
      go None e = refl
      go (Some one) e =
          let there = has_found (has_code other) rows one e in
          let here = has_found (has_code code) rows row found in
          let apart : int_eq one.id row.id ≡ false = int_eq_apart one.id row.id (λ same.
          let is : one ≡ row = same_id lab_id rows one row (apart_from_test (λ a b. int_eq (lab_id a) (lab_id b)) rows ids) there.0 here.0 same in
          differs (sym (text_is one.code other there.1) ∙ ap (λ (x : LabRow). x.code) is ∙ text_is row.code code here.1)) in
          ap Some (law one ∙ ap (λ b. cond b (next (shown one)) (shown one)) apart)

-- ---- a laboratory's own row is set

pub find_set : (p : LabRow → Bool) (tells : LabRow → Bool) (next : LabRow → LabRow) → ((one : LabRow) → p (next one) ≡ p one) → (rows : List LabRow)
    → find p (update_where tells next rows) ≡ option_map (λ one. cond (tells one) (next one) one) (find p rows)
find_set p tells next stays [] = refl
find_set p tells next stays (one ∷ others) = go (tells one) refl (find_set p tells next stays others)
  where
    passed : (b : Bool) → p (cond b (next one) one) ≡ p one
    passed true = stays one
    passed false = refl

    first : (b q : Bool) → tells one ≡ b → find p (update_where tells next others) ≡ option_map (λ x. cond (tells x) (next x) x) (find p others)
        → cond q (Some (cond b (next one) one)) (find p (update_where tells next others))
        ≡ option_map (λ x. cond (tells x) (next x) x) (cond q (Some one) (find p others))
    first b true e more = ap (λ c. Some (cond c (next one) one)) (sym e)
    first b false e more = more

    go : (b : Bool) → tells one ≡ b → find p (update_where tells next others) ≡ option_map (λ x. cond (tells x) (next x) x) (find p others)
        → cond (p (cond b (next one) one)) (Some (cond b (next one) one)) (find p (update_where tells next others))
        ≡ option_map (λ x. cond (tells x) (next x) x) (cond (p one) (Some one) (find p others))
    go b e more = ap (λ q. cond q (Some (cond b (next one) one)) (find p (update_where tells next others))) (passed b) ∙ first b (p one) e more

pub map_option : {A B C : Type 0} (f : B → C) (g : A → B) (one : Option A) → option_map f (option_map g one) ≡ option_map (λ x. f (g x)) one
map_option f g None = refl
map_option f g (Some x) = refl

pub changed_one : (one : Change) (lab : Option Lab) → changed_in lab (one ∷ []) ≡ option_map (λ it. change it one) lab
changed_one one None = refl
changed_one one (Some lab) = refl

module _ (t : Tables) (ids : have_own_ids lab_id t.labs ≡ true) (code : List ℕ) (row : LabRow) (found : find (has_code code) t.labs ≡ Some row)
    (one : Change) (next : LabRow → LabRow) (stays : (lab : LabRow) → (next lab).code ≡ lab.code)
    (law : (lab : LabRow) → lab_in t (next lab) ≡ change (lab_in t lab) one) where
  abbrev after : LabRow → Lab
  after lab = lab_in t (cond (int_eq lab.id row.id) (next lab) lab)

  by_case : (lab : LabRow) → after lab ≡ cond (int_eq lab.id row.id) (change (lab_in t lab) one) (lab_in t lab)
  by_case lab = go (int_eq lab.id row.id)
    where
      go : (b : Bool) → lab_in t (cond b (next lab) lab) ≡ cond b (change (lab_in t lab) one) (lab_in t lab)
      go true = law lab
      go false = refl

  means : (other : List ℕ) → meaning (in_lab row.id next t) other ≡ option_map after (find (has_code other) t.labs)
  means other =
      ap (option_map (lab_in t)) (find_set (has_code other) (λ lab. int_eq lab.id row.id) next (λ lab. ap (λ c. bytes_eq c other) (stays lab)) t.labs)
      ∙ map_option (lab_in t) (λ lab. cond (int_eq lab.id row.id) (next lab) lab) (find (has_code other) t.labs)

  pub lab_set : Changes code (one ∷ []) (meaning t) (meaning (in_lab row.id next t))
  lab_set = record {
    here = means code ∙ this_lab t.labs ids code row found (lab_in t) after (λ lab. change lab one) by_case ∙ sym (changed_one one (meaning t code));
    others = λ other differs. means other ∙ other_lab t.labs ids code row found (lab_in t) after (λ lab. change lab one) by_case other differs;
  }

-- ---- other rows of a laboratory, and its counter

module _ (t t' : Tables) (same : t'.labs ≡ t.labs) (ids : have_own_ids lab_id t.labs ≡ true) (code : List ℕ) (row : LabRow) (found : find (has_code code) t.labs ≡ Some row)
    (one : Change) (law : (lab : LabRow) → lab_in t' lab ≡ cond (int_eq lab.id row.id) (change (lab_in t lab) one) (lab_in t lab)) where
  -- rows that one laboratory sees otherwise, and no other one
  pub rows_changed : Changes code (one ∷ []) (meaning t) (meaning t')
  rows_changed = record {
    here = ap (λ labs. option_map (lab_in t') (find (has_code code) labs)) same
        ∙ this_lab t.labs ids code row found (lab_in t) (lab_in t') (λ lab. change lab one) law ∙ sym (changed_one one (meaning t code));
    others = λ other differs. ap (λ labs. option_map (lab_in t') (find (has_code other) labs)) same
        ∙ other_lab t.labs ids code row found (lab_in t) (lab_in t') (λ lab. change lab one) law other differs;
  }

  -- and a counter of its own row, which nobody reads
  module _ (next : LabRow → LabRow) (stays : (lab : LabRow) → (next lab).code ≡ lab.code) (unread : (lab : LabRow) → lab_in t' (next lab) ≡ lab_in t' lab) where
    uncounted : (b : Bool) (lab : LabRow) → lab_in t' (cond b (next lab) lab) ≡ lab_in t' lab
    uncounted true lab = unread lab
    uncounted false lab = refl

    not_seen : (o : Option LabRow) → option_map (λ lab. lab_in t' (cond (int_eq lab.id row.id) (next lab) lab)) o ≡ option_map (lab_in t') o
    not_seen None = refl
    not_seen (Some lab) = ap Some (uncounted (int_eq lab.id row.id) lab)

    count_unseen : (other : List ℕ) → meaning (in_lab row.id next t') other ≡ meaning t' other
    count_unseen other =
        ap (option_map (lab_in t')) (find_set (has_code other) (λ lab. int_eq lab.id row.id) next (λ lab. ap (λ c. bytes_eq c other) (stays lab)) t'.labs)
        ∙ map_option (lab_in t') (λ lab. cond (int_eq lab.id row.id) (next lab) lab) (find (has_code other) t'.labs) ∙ not_seen (find (has_code other) t'.labs)

    pub rows_counted : Changes code (one ∷ []) (meaning t) (meaning (in_lab row.id next t'))
    rows_counted = record {
      here = count_unseen code ∙ rows_changed.here;
      others = λ other differs. count_unseen other ∙ rows_changed.others other differs;
    }

-- the last moment, and stray passwords
pub last_is_set : (old new : Tables) (code : List ℕ) (moment : ℕ) → have_own_ids lab_id old.labs ≡ true → Applies code (Last moment) old new
    → Changes code (Last moment ∷ []) (meaning old) (meaning new)
last_is_set old new code moment ids it =
    subst (λ t. Changes code (Last moment ∷ []) (meaning old) (meaning t)) (sym it.made)
    (lab_set old ids code it.lab it.found (Last moment) (λ (lab : LabRow). record lab { last = moment }) (λ lab. refl) (λ lab. refl))

pub strays_are_set : (old new : Tables) (code : List ℕ) (count : ℕ) → have_own_ids lab_id old.labs ≡ true → Applies code (Strays count) old new
    → Changes code (Strays count ∷ []) (meaning old) (meaning new)
strays_are_set old new code count ids it =
    subst (λ t. Changes code (Strays count ∷ []) (meaning old) (meaning t)) (sym it.made)
    (lab_set old ids code it.lab it.found (Strays count) (λ (lab : LabRow). record lab { stray = count }) (λ lab. refl) (λ lab. refl))
