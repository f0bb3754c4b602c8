-- What the premises of the laws say: of well-kept tables, test by test, and of a change that fits.
use Rattle.std.proofs.Common.{◌≡◌, ℕ, true, List, [], ◌∷◌, find, Some, option_map, subst, int_eq}
use Rattle.std.proofs.lemmas.Bool.{and_parts}
use Rattle.sqlite_keyed.specs.Rules.{AreApart}
use Rattle.lab_records_kept.specs.declared.changes.Change.{Change}
use Rattle.lab_records_kept.specs.Changes.{Fits, ChangesFit}
use Rattle.lab_store_tables.specs.Rows.{LabRow, PersonRow, SessionRow, FieldRow, ChoiceRow, RecordRow, VersionRow, EntryRow, SignatureRow, TrailRow, Tables, lab_id, person_id, session_id, form_id, field_id}
use Rattle.lab_store_tables.specs.Meaning.{lab_in, has_code, meaning}
use Rattle.lab_store_tables.specs.WellKept.{have_own_ids, same_person, same_token, are_ids_unique, are_keys_unique, have_parents, are_arrows_whole}
use Rattle.lab_store_tables.proofs.Bridges.{apart_from_test}

-- ---- keys

-- laboratories, persons and sessions have ids of their own, persons codes and sessions tokens of their own in their laboratory
pub record AreOwn (t : Tables) : Type 0 where
  pub labs : have_own_ids lab_id t.labs ≡ true
  pub persons : have_own_ids person_id t.persons ≡ true
  pub person_ids : AreApart (λ (one other : PersonRow). int_eq (person_id one) (person_id other)) t.persons
  pub person_codes : AreApart same_person t.persons
  pub session_ids : AreApart (λ (one other : SessionRow). int_eq (session_id one) (session_id other)) t.sessions
  pub session_tokens : AreApart same_token t.sessions

pub own_by_tests : (t : Tables) → are_ids_unique t ≡ true → are_keys_unique t ≡ true → AreOwn t
own_by_tests t ids keys =
    let k10 = and_parts _ _ ids in
    let k9 = and_parts _ _ k10.0 in
    let k8 = and_parts _ _ k9.0 in
    let k7 = and_parts _ _ k8.0 in
    let k6 = and_parts _ _ k7.0 in
    let k5 = and_parts _ _ k6.0 in
    let k4 = and_parts _ _ k5.0 in
    let k3 = and_parts _ _ k4.0 in
    let k2 = and_parts _ _ k3.0 in
    let k1 = and_parts _ _ k2.0 in
    let u14 = and_parts _ _ keys in
    let u13 = and_parts _ _ u14.0 in
    let u12 = and_parts _ _ u13.0 in
    let u11 = and_parts _ _ u12.0 in
    let u10 = and_parts _ _ u11.0 in
    let u9 = and_parts _ _ u10.0 in
    let u8 = and_parts _ _ u9.0 in
    let u7 = and_parts _ _ u8.0 in
    let u6 = and_parts _ _ u7.0 in
    let u5 = and_parts _ _ u6.0 in
    let u4 = and_parts _ _ u5.0 in
    let u3 = and_parts _ _ u4.0 in
    let u2 = and_parts _ _ u3.0 in
    let u1 = and_parts _ _ u2.0 in
    record {
      labs = k1.0;
      persons = k1.1;
      person_ids = apart_from_test (λ (one other : PersonRow). int_eq (person_id one) (person_id other)) t.persons k1.1;
      person_codes = apart_from_test same_person t.persons u1.1;
      session_ids = apart_from_test (λ (one other : SessionRow). int_eq (session_id one) (session_id other)) t.sessions k2.1;
      session_tokens = apart_from_test same_token t.sessions u2.1;
    }

-- ---- arrows

-- each row that names a person, a form or a field names one that is there
pub record AreWhole (t : Tables) : Type 0 where
  pub askers : have_parents (λ (one : PersonRow). one.ask.asker) person_id t.persons t.persons ≡ true
  pub sessions : have_parents (λ (one : SessionRow). Some one.person) person_id t.persons t.sessions ≡ true
  pub fields : have_parents (λ (one : FieldRow). Some one.form) form_id t.forms t.fields ≡ true
  pub choices : have_parents (λ (one : ChoiceRow). Some one.field) field_id t.fields t.choices ≡ true
  pub records : have_parents (λ (one : RecordRow). Some one.form) form_id t.forms t.records ≡ true
  pub versions : have_parents (λ (one : VersionRow). Some one.opener) person_id t.persons t.versions ≡ true
  pub entries : have_parents (λ (one : EntryRow). Some one.person) person_id t.persons t.entries ≡ true
  pub signatures : have_parents (λ (one : SignatureRow). Some one.person) person_id t.persons t.signatures ≡ true
  pub trail : have_parents (λ (one : TrailRow). one.person) person_id t.persons t.trail ≡ true

pub whole_by_test : (t : Tables) → are_arrows_whole t ≡ true → AreWhole t
whole_by_test t arrows =
    let k16 = and_parts _ _ arrows in
    let k15 = and_parts _ _ k16.0 in
    let k14 = and_parts _ _ k15.0 in
    let k13 = and_parts _ _ k14.0 in
    let k12 = and_parts _ _ k13.0 in
    let k11 = and_parts _ _ k12.0 in
    let k10 = and_parts _ _ k11.0 in
    let k9 = and_parts _ _ k10.0 in
    let k8 = and_parts _ _ k9.0 in
    let k7 = and_parts _ _ k8.0 in
    let k6 = and_parts _ _ k7.0 in
    let k5 = and_parts _ _ k6.0 in
    let k4 = and_parts _ _ k5.0 in
    let k3 = and_parts _ _ k4.0 in
    let k2 = and_parts _ _ k3.0 in
    let k1 = and_parts _ _ k2.0 in
    record {
      askers = k1.1;
      sessions = k3.1;
      fields = k5.1;
      choices = k6.1;
      records = k8.1;
      versions = k10.1;
      entries = k12.1;
      signatures = k14.1;
      trail = k16.1;
    }

-- ---- a change

-- one that fits what the tables mean fits the laboratory whose row is found
pub fits_here : (t : Tables) (code : List ℕ) (lab : LabRow) (one : Change) → find (has_code code) t.labs ≡ Some lab
    → ChangesFit (meaning t code) (one ∷ []) → Fits (lab_in t lab) one
fits_here t code lab one found fit = (subst (λ o. ChangesFit (option_map (lab_in t) o) (one ∷ [])) found fit).0
