-- The row of a laboratory that is placed: it means a laboratory that has nothing yet, and no other one sees it.
use Rattle.std.proofs.Common.{◌≡◌, ◌≢◌, ℕ, ℤ, Bool, true, false, cond, List, [], ◌∷◌, map, filter, find, Some, None, option_map, refl, sym, ap, ◌∙◌, int_eq, bytes_eq}
use Rattle.std.specs.List.{AllByRecursion}
use Rattle.std.proofs.lemmas.Bool.{and_parts}
use Rattle.std.proofs.lemmas.Slice.Eq.{bytes_eq-Decides}
use Rattle.sqlite_keyed.specs.Keyed.{insert_by}
use Rattle.sqlite_keyed.specs.Lists.{sort_by}
use Rattle.sqlite_keyed.proofs.ListLemmas.{filter_none}
use Rattle.sqlite_keyed.proofs.KeyedLemmas.{IsKeyedBy-insert_by}
use Rattle.lab_records_kept.specs.declared.labs.Lab.{Lab}
use Rattle.lab_records_keeper.specs.Worlds.{SameElsewhere}
use Rattle.lab_store_tables.specs.Rows.{LabRow, PersonRow, SessionRow, FormRow, RecordRow, TrailRow, Tables, lab_id}
use Rattle.lab_store_tables.specs.Meaning.{person_in, by_code, session_in, by_session, form_in, by_form, record_in, by_record, told_in, by_trail, lab_in, has_code, meaning}
use Rattle.lab_store_tables.specs.WellKept.{same_lab, are_apart, have_parents, are_keys_unique, AreWellKept}
use Rattle.lab_store_tables.specs.Held.{AreRising}
use Rattle.lab_store_tables.specs.Changes.{IsFree}
use Rattle.lab_store_tables.specs.Placing.{lab_row_of, put_lab}
use Rattle.lab_store_tables.specs.Family.{Labs}
use Rattle.lab_store_tables.specs.ByRules.{IsByRules}
use Rattle.lab_store_tables.proofs.Tables.{rising_with}
use Rattle.lab_store_tables.proofs.Bridges.{apart_from_test}
use Rattle.lab_store_tables.proofs.FoundingKept.{lab_more}
use Rattle.lab_store_tables.proofs.Kept.{well_kept}
use Rattle.lab_store_tables.proofs.Parts.{AreLed, arrows_led}
use Rattle.lab_store_tables.proofs.PutLaws.{none_led, find_other, find_alone, apart_back}
use Rattle.lab_move_write.proofs.PlacingWords.{emptied}
use Rattle.lab_store_tables.proofs.Comparing.{text_is, text_alike}

-- ---- its code was nobody's

own_codes : (t : Tables) → are_keys_unique t ≡ true → are_apart same_lab t.labs ≡ true
own_codes t keys =
    let k14 = and_parts _ _ keys in
    let k13 = and_parts _ _ k14.0 in
    let k12 = and_parts _ _ k13.0 in
    let k11 = and_parts _ _ k12.0 in
    let k10 = and_parts _ _ k11.0 in
    let k9 = and_parts _ _ k10.0 in
    let k8 = and_parts _ _ k9.0 in
    let k7 = and_parts _ _ k8.0 in
    let k6 = and_parts _ _ k7.0 in
    let k5 = and_parts _ _ k6.0 in
    let k4 = and_parts _ _ k5.0 in
    let k3 = and_parts _ _ k4.0 in
    let k2 = and_parts _ _ k3.0 in
    (and_parts _ _ k2.0).0

find_none : {X : Type 0} (p : X → Bool) (rows : List X) → AllByRecursion (λ one. p one ≡ false) rows → find p rows ≡ None
find_none p [] all = refl
find_none p (one ∷ others) all = ap (λ b. cond b (Some one) (find p others)) all.0 ∙ find_none p others all.1

turned_code : (lab : LabRow) (one : LabRow) → same_lab lab one ≡ false → same_lab one lab ≡ false
turned_code lab one differ = go (same_lab one lab) refl
  where
    go : (b : Bool) → same_lab one lab ≡ b → same_lab one lab ≡ false
    go true e = absurd (let same : same_lab lab one ≡ true = text_alike lab.code one.code (sym (text_is one.code lab.code e)) in cc)
    go false e = e

-- where no two laboratories have one code once the row is there, none had its code before
pub absent_by_rules : (t : Tables) (lab : Lab) (id : ℤ) → IsFree lab_id t.labs id → IsByRules (put_lab (lab_row_of id lab) t)
    → find (has_code lab.code) t.labs ≡ None
absent_by_rules t lab id free rules =
    let row = lab_row_of id lab in
    find_none (has_code lab.code) t.labs
    (apart_back lab_id same_lab row (turned_code row) t.labs free
    (apart_from_test same_lab (insert_by lab_id t.labs row) (own_codes (put_lab row t) rules.keys))).1

-- ---- what it means

module _ (t : Tables) (rising : AreRising t) (well : AreWellKept t) (lab : Lab) (id : ℤ) (free : IsFree lab_id t.labs id)
    (absent : find (has_code lab.code) t.labs ≡ None) where
  abbrev row : LabRow
  row = lab_row_of id lab

  abbrev after : Tables
  after = put_lab row t

  led : AreLed t
  led = arrows_led t well.arrows

  -- nothing led to it before
  unseen : {X : Type 0} (parent : X → ℤ) (rows : List X) → have_parents (λ one. Some (parent one)) lab_id t.labs rows ≡ true
      → filter (λ one. int_eq (parent one) id) rows ≡ []
  unseen parent rows whole = filter_none (λ one. int_eq (parent one) id) rows (none_led parent lab_id t.labs id rows free whole)

  pub nothing_there : lab_in after row ≡ emptied lab
  nothing_there = λ i. record (emptied lab) {
    persons = map (person_in after) (sort_by by_code (unseen (λ (one : PersonRow). one.lab) t.persons led.persons_lab i));
    sessions = map (session_in after) (sort_by by_session (unseen (λ (one : SessionRow). one.lab) t.sessions led.sessions_lab i));
    forms = map (form_in after) (sort_by by_form (unseen (λ (one : FormRow). one.lab) t.forms led.forms_lab i));
    records = map (record_in after lab.code) (sort_by by_record (unseen (λ (one : RecordRow). one.lab) t.records led.records_lab i));
    trail = map (told_in after) (sort_by by_trail (unseen (λ (one : TrailRow). one.lab) t.trail led.trail_lab i));
  }

  pub row_found : find (has_code lab.code) after.labs ≡ Some row
  row_found = find_alone lab_id t.labs row free (has_code lab.code) (rising.at Labs) ((bytes_eq-Decides lab.code lab.code).1 refl) absent

  other_code : (other : List ℕ) → other ≢ lab.code → bytes_eq lab.code other ≡ false
  other_code other differs = go (bytes_eq lab.code other) refl
    where
      go : (b : Bool) → bytes_eq lab.code other ≡ b → bytes_eq lab.code other ≡ false
      go true e = absurd (differs (sym (text_is lab.code other e)))
      go false e = e

  pub others_stay : SameElsewhere lab.code (meaning t) (meaning after)
  others_stay other differs = ap (option_map (lab_in after)) (find_other lab_id t.labs row free (has_code other) (other_code other differs))

  pub row_kept : IsByRules after → AreWellKept after
  row_kept rules = well_kept after rules (lab_more t well lab id free)

  pub still_rising : AreRising after
  still_rising = rising_with Labs t (insert_by lab_id t.labs row) rising (IsKeyedBy-insert_by lab_id t.labs row (rising.at Labs))
