-- Rows that are set, and the rows of all tables beside them: they stay well kept.
use Rattle.std.proofs.Common.{◌≡◌, ℕ, ℤ, Bool, true, false, cond, List, map, Option, Some, None, option_map, refl, sym, ap, ◌∙◌, int_eq}
use Rattle.std.specs.List.{AllByRecursion}
use Rattle.sqlite_rules.specs.Lists.{Has}
use Rattle.sqlite_rules.proofs.ListLemmas.{has_found}
use Rattle.sqlite_keyed.specs.Keyed.{get_by}
use Rattle.sqlite_keyed.proofs.ListLemmas.{all_of, all_weaker, all_map}
use Rattle.sqlite_keyed.proofs.KeyedLemmas.{same_int}
use Rattle.lab_store_tables.specs.Rows.{LabRow, PersonRow, SessionRow, RecordRow, Tables, person_id, record_id}
use Rattle.lab_store_tables.specs.WellKept.{have_own_ids, lab_of_person, lab_of_record, is_session_within, is_record_within, names_its_form}
use Rattle.lab_store_tables.specs.Family.{Labs, Persons, Sessions, Records}
use Rattle.lab_store_tables.specs.Changes.{in_lab, set_person, set_current}
use Rattle.lab_store_tables.proofs.Bridges.{apart_from_test}
use Rattle.lab_store_tables.proofs.LabLaws.{same_id}
use Rattle.lab_store_tables.proofs.Kept.{IsRowKept, AreRowsKept}
use Rattle.lab_store_tables.proofs.SetRows.{numbered_set, found_set, set_passes}
use Rattle.lab_store_tables.proofs.Leads.{kept_with}

-- ---- a laboratory's own row, to which no test of other rows leads

pub lab_set : (t : Tables) (id : ℤ) (next : LabRow → LabRow) → AreRowsKept t → AreRowsKept (in_lab id next t)
lab_set t id next kept =
    let labs = (in_lab id next t).labs in
    kept_with Labs labs t tt (all_of (IsRowKept Labs t) (λ _. tt) labs, tt) kept

-- ---- sessions

abbrev pub with_sessions : List SessionRow → Tables → Tables
with_sessions rows t = record t { sessions = rows }

pub sessions_set : (t : Tables) (set : SessionRow → SessionRow)
    → AllByRecursion (λ (one : SessionRow). ((set one).lab ≡ one.lab) × ((set one).number ≡ one.number)) t.sessions
    → AllByRecursion (λ (one : SessionRow). is_session_within t (set one) ≡ true) t.sessions → AreRowsKept t
    → AreRowsKept (with_sessions (map set t.sessions) t)
sessions_set t set stay within kept =
    kept_with Sessions (map set t.sessions) t tt (
      all_map (λ (one : SessionRow). is_session_within t one ≡ true) set t.sessions within,
      numbered_set (λ (one : SessionRow). one.lab) (λ (one : SessionRow). one.number) set t.sessions stay (kept.at Sessions).1,
    ) kept

-- ---- the current version of a record

module _ (t : Tables) (id : ℤ) (number : ℕ) where
  abbrev current_row : RecordRow → RecordRow
  current_row one = cond (int_eq one.id id) (record one { current = number }) one

  -- what doesn't read the column stays
  pub unread : {A : Type 0} (f : RecordRow → A) → ((one : RecordRow) → f (record one { current = number }) ≡ f one) → (one : RecordRow)
      → f (cond (int_eq one.id id) (record one { current = number }) one) ≡ f one
  unread f same one = go (int_eq one.id id)
    where
      go : (b : Bool) → f (cond b (record one { current = number }) one) ≡ f one
      go true = same one
      go false = refl

  record_lab_still : (at lab : ℤ) → lab_of_record t at ≡ Some lab → lab_of_record (set_current id number t) at ≡ Some lab
  record_lab_still at lab its =
      ap (option_map (λ (x : RecordRow). x.lab)) (found_set record_id current_row (unread record_id (λ x. refl)) t.records at)
      ∙ go (get_by record_id t.records at) its
    where
      go : (o : Option RecordRow) → option_map (λ (x : RecordRow). x.lab) o ≡ Some lab
          → option_map (λ (x : RecordRow). x.lab) (option_map current_row o) ≡ Some lab
      go None h = absurd cc
      go (Some one) h = ap Some (unread (λ (x : RecordRow). x.lab) (λ x. refl) one) ∙ h

  pub current_set : AreRowsKept t → AreRowsKept (set_current id number t)
  current_set kept =
      kept_with Records (map current_row t.records) t record_lab_still (
        all_map (IsRowKept Records t) current_row t.records
            (all_weaker (IsRowKept Records t) (λ (one : RecordRow). IsRowKept Records t (current_row one))
            (λ one h. (unread (is_record_within t) (λ x. refl) one ∙ h.0, unread (names_its_form t) (λ x. refl) one ∙ h.1)) t.records (kept.at Records).0),
        numbered_set (λ (one : RecordRow). one.lab) (λ (one : RecordRow). one.number) current_row t.records
            (all_of (λ (one : RecordRow). ((current_row one).lab ≡ one.lab) × ((current_row one).number ≡ one.number))
            (λ one. (unread (λ (x : RecordRow). x.lab) (λ x. refl) one, unread (λ (x : RecordRow). x.number) (λ x. refl) one)) t.records) (kept.at Records).1,
      ) kept

-- ---- a person, who stays in the laboratory

pub replaced_id : (row one : PersonRow) → person_id (cond (int_eq one.id row.id) row one) ≡ person_id one
replaced_id row one = go (int_eq one.id row.id) refl
  where
    go : (b : Bool) → int_eq one.id row.id ≡ b → person_id (cond b row one) ≡ person_id one
    go true e = sym (same_int one.id row.id e)
    go false e = refl

module _ (t : Tables) (own : have_own_ids person_id t.persons ≡ true) (row was : PersonRow) (there : Has t.persons was) (same : was.id ≡ row.id)
    (beside : was.lab ≡ row.lab) where
  abbrev set_row : PersonRow → PersonRow
  set_row one = cond (int_eq one.id row.id) row one

  lab_stays : (one : PersonRow) → Has t.persons one → (set_row one).lab ≡ one.lab
  lab_stays one has = go (int_eq one.id row.id) refl
    where
      go : (b : Bool) → int_eq one.id row.id ≡ b → (cond b row one).lab ≡ one.lab
      go true e =
          let is : one ≡ was = same_id person_id t.persons one was (apart_from_test (λ a b. int_eq (person_id a) (person_id b)) t.persons own) has there
          (same_int one.id row.id e ∙ sym same) in
          sym beside ∙ sym (ap (λ (x : PersonRow). x.lab) is)
      go false e = refl

  person_lab_still : (at lab : ℤ) → lab_of_person t at ≡ Some lab → lab_of_person (set_person row t) at ≡ Some lab
  person_lab_still at lab its =
      ap (option_map (λ (x : PersonRow). x.lab)) (found_set person_id set_row (replaced_id row) t.persons at) ∙ go (get_by person_id t.persons at) refl its
    where
      go : (o : Option PersonRow) → get_by person_id t.persons at ≡ o → option_map (λ (x : PersonRow). x.lab) o ≡ Some lab
          → option_map (λ (x : PersonRow). x.lab) (option_map set_row o) ≡ Some lab
      go None e h = absurd cc
      go (Some one) e h = ap Some (lab_stays one (has_found (λ (x : PersonRow). int_eq (person_id x) at) t.persons one e).0) ∙ h

  pub person_set : IsRowKept Persons t row → AreRowsKept t → AreRowsKept (set_person row t)
  person_set own kept =
      kept_with Persons (set_person row t).persons t person_lab_still
      (set_passes (IsRowKept Persons t) (λ (one : PersonRow). int_eq one.id row.id) row own t.persons (kept.at Persons).0, tt) kept
