-- A change of what the row of one laboratory shows, known of that row and of the rows of other ids, is a change of that
-- laboratory and of no other; and a counter of its row is read by nobody.
use Rattle.std.proofs.Common.{◌≡◌, ℕ, ℤ, Bool, true, false, cond, List, [], ◌∷◌, find, Option, Some, None, option_map, refl, sym, ap, subst, ◌∙◌, int_eq, bytes_eq}
use Rattle.sqlite_rules.specs.Lists.{Has}
use Rattle.sqlite_rules.proofs.ListLemmas.{has_found}
use Rattle.sqlite_keyed.proofs.KeyedLemmas.{same_int}
use Rattle.lab_records_kept.specs.declared.labs.Lab.{Lab}
use Rattle.lab_records_kept.specs.declared.changes.Change.{Change}
use Rattle.lab_records_kept.specs.Changes.{change, Fits, AllFit, ChangesFit}
use Rattle.lab_records_keeper.specs.Worlds.{Changes}
use Rattle.lab_store_tables.specs.Rows.{LabRow, Tables, lab_id}
use Rattle.lab_store_tables.specs.Meaning.{lab_in, has_code, meaning}
use Rattle.lab_store_tables.specs.WellKept.{have_own_ids}
use Rattle.lab_store_tables.specs.Changes.{in_lab}
use Rattle.lab_store_tables.proofs.Bridges.{apart_from_test}
use Rattle.lab_store_tables.proofs.LabLaws.{same_id, this_lab, other_lab, find_set, map_option, changed_one}

-- a change that fits what the tables mean fits the laboratory whose row is found
pub fits_here : (t : Tables) (code : List ℕ) (lab : LabRow) (one : Change) → find (has_code code) t.labs ≡ Some lab
    → ChangesFit (meaning t code) (one ∷ []) → Fits (lab_in t lab) one
fits_here t code lab one found fit =
    let fits : AllFit (lab_in t lab) (one ∷ []) = subst (λ o. ChangesFit (option_map (lab_in t) o) (one ∷ [])) found fit in fits.0

module _ (t t' : Tables) (same : t'.labs ≡ t.labs) (ids : have_own_ids lab_id t.labs ≡ true) (code : List ℕ) (row : LabRow)
    (found : find (has_code code) t.labs ≡ Some row) (one : Change) (mine : lab_in t' row ≡ change (lab_in t row) one)
    (elsewhere : (lab : LabRow) → int_eq lab.id row.id ≡ false → lab_in t' lab ≡ lab_in t lab) where
  abbrev after : LabRow → Lab
  after lab = cond (int_eq lab.id row.id) (change (lab_in t lab) one) (lab_in t lab)

  as_after : (lab : LabRow) → Has t.labs lab → lab_in t' lab ≡ after lab
  as_after lab has = go (int_eq lab.id row.id) refl
    where
      go : (b : Bool) → int_eq lab.id row.id ≡ b → lab_in t' lab ≡ cond b (change (lab_in t lab) one) (lab_in t lab)
      go true e =
          let there = has_found (has_code code) t.labs row found in
          let apart = apart_from_test (λ a b. int_eq (lab_id a) (lab_id b)) t.labs ids in
          let is : lab ≡ row = same_id lab_id t.labs lab row apart has there.0 (same_int lab.id row.id e) in
          subst (λ (l : LabRow). lab_in t' l ≡ change (lab_in t l) one) (sym is) mine
      go false e = elsewhere lab e

  means : (other : List ℕ) → meaning t' other ≡ option_map after (find (has_code other) t.labs)
  means other = ap (λ labs. option_map (lab_in t') (find (has_code other) labs)) same ∙ go (find (has_code other) t.labs) refl
    where
      go : (o : Option LabRow) → find (has_code other) t.labs ≡ o → option_map (lab_in t') o ≡ option_map after o
      go None e = refl
      go (Some lab) e = ap Some (as_after lab (has_found (has_code other) t.labs lab e).0)

  pub lab_changed : Changes code (one ∷ []) (meaning t) (meaning t')
  lab_changed = record {
    here = means code ∙ this_lab t.labs ids code row found (lab_in t) after (λ lab. change lab one) (λ lab. refl) ∙ sym (changed_one one (meaning t code));
    others = λ other differs. means other ∙ other_lab t.labs ids code row found (lab_in t) after (λ lab. change lab one) (λ lab. refl) other differs;
  }

-- ---- a counter

module _ (t : Tables) (id : ℤ) (next : LabRow → LabRow) (stays : (lab : LabRow) → (next lab).code ≡ lab.code)
    (unread : (lab : LabRow) → lab_in t (next lab) ≡ lab_in t lab) where
  uncounted : (b : Bool) (lab : LabRow) → lab_in t (cond b (next lab) lab) ≡ lab_in t lab
  uncounted true lab = unread lab
  uncounted false lab = refl

  not_seen : (o : Option LabRow) → option_map (λ lab. lab_in t (cond (int_eq lab.id id) (next lab) lab)) o ≡ option_map (lab_in t) o
  not_seen None = refl
  not_seen (Some lab) = ap Some (uncounted (int_eq lab.id id) lab)

  pub counter_unseen : (other : List ℕ) → meaning (in_lab id next t) other ≡ meaning t other
  counter_unseen other =
      ap (option_map (lab_in t)) (find_set (has_code other) (λ lab. int_eq lab.id id) next (λ lab. ap (λ c. bytes_eq c other) (stays lab)) t.labs)
      ∙ map_option (lab_in t) (λ lab. cond (int_eq lab.id id) (next lab) lab) (find (has_code other) t.labs) ∙ not_seen (find (has_code other) t.labs)
