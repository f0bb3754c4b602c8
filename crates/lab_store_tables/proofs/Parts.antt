-- The tests of well-kept tables, each by its table.
use Rattle.std.proofs.Common.{◌≡◌, true, Some}
use Rattle.std.specs.List.{list_all}
use Rattle.std.proofs.lemmas.Bool.{and_parts}
use Rattle.lab_store_tables.specs.Rows.{PersonRow, SessionRow, FormRow, FieldRow, ChoiceRow, RecordRow, VersionRow, EntryRow, SignatureRow, TrailRow, Tables, lab_id, person_id, form_id, field_id, record_id, version_id}
use Rattle.lab_store_tables.specs.WellKept.{are_apart, same_person, are_keys_unique, have_parents, are_arrows_whole, is_asked_within, is_session_within, is_record_within, is_version_within, is_entry_within, is_signature_within, is_told_within, are_labs_apart}

-- no two persons of a laboratory have one code
pub codes_apart : (t : Tables) → are_keys_unique t ≡ true → are_apart same_person t.persons ≡ true
codes_apart t keys =
    let k14 = and_parts _ _ keys in
    let k13 = and_parts _ _ k14.0 in
    let k12 = and_parts _ _ k13.0 in
    let k11 = and_parts _ _ k12.0 in
    let k10 = and_parts _ _ k11.0 in
    let k9 = and_parts _ _ k10.0 in
    let k8 = and_parts _ _ k9.0 in
    let k7 = and_parts _ _ k8.0 in
    let k6 = and_parts _ _ k7.0 in
    let k5 = and_parts _ _ k6.0 in
    let k4 = and_parts _ _ k5.0 in
    let k3 = and_parts _ _ k4.0 in
    let k2 = and_parts _ _ k3.0 in
    (and_parts _ _ k2.0).1

-- ---- arrows

-- each arrow leads to a row
pub record AreLed (t : Tables) : Type 0 where
  pub persons_lab : have_parents (λ (one : PersonRow). Some one.lab) lab_id t.labs t.persons ≡ true
  pub persons_asker : have_parents (λ (one : PersonRow). one.ask.asker) person_id t.persons t.persons ≡ true
  pub sessions_lab : have_parents (λ (one : SessionRow). Some one.lab) lab_id t.labs t.sessions ≡ true
  pub sessions_person : have_parents (λ (one : SessionRow). Some one.person) person_id t.persons t.sessions ≡ true
  pub forms_lab : have_parents (λ (one : FormRow). Some one.lab) lab_id t.labs t.forms ≡ true
  pub fields_form : have_parents (λ (one : FieldRow). Some one.form) form_id t.forms t.fields ≡ true
  pub choices_field : have_parents (λ (one : ChoiceRow). Some one.field) field_id t.fields t.choices ≡ true
  pub records_lab : have_parents (λ (one : RecordRow). Some one.lab) lab_id t.labs t.records ≡ true
  pub records_form : have_parents (λ (one : RecordRow). Some one.form) form_id t.forms t.records ≡ true
  pub versions_kept : have_parents (λ (one : VersionRow). Some one.kept) record_id t.records t.versions ≡ true
  pub versions_opener : have_parents (λ (one : VersionRow). Some one.opener) person_id t.persons t.versions ≡ true
  pub entries_version : have_parents (λ (one : EntryRow). Some one.version) version_id t.versions t.entries ≡ true
  pub entries_person : have_parents (λ (one : EntryRow). Some one.person) person_id t.persons t.entries ≡ true
  pub signatures_version : have_parents (λ (one : SignatureRow). Some one.version) version_id t.versions t.signatures ≡ true
  pub signatures_person : have_parents (λ (one : SignatureRow). Some one.person) person_id t.persons t.signatures ≡ true
  pub trail_lab : have_parents (λ (one : TrailRow). Some one.lab) lab_id t.labs t.trail ≡ true
  pub trail_person : have_parents (λ (one : TrailRow). one.person) person_id t.persons t.trail ≡ true

pub arrows_led : (t : Tables) → are_arrows_whole t ≡ true → AreLed t
arrows_led t arrows =
    let k16 = and_parts _ _ arrows in
    let k15 = and_parts _ _ k16.0 in
    let k14 = and_parts _ _ k15.0 in
    let k13 = and_parts _ _ k14.0 in
    let k12 = and_parts _ _ k13.0 in
    let k11 = and_parts _ _ k12.0 in
    let k10 = and_parts _ _ k11.0 in
    let k9 = and_parts _ _ k10.0 in
    let k8 = and_parts _ _ k9.0 in
    let k7 = and_parts _ _ k8.0 in
    let k6 = and_parts _ _ k7.0 in
    let k5 = and_parts _ _ k6.0 in
    let k4 = and_parts _ _ k5.0 in
    let k3 = and_parts _ _ k4.0 in
    let k2 = and_parts _ _ k3.0 in
    let k1 = and_parts _ _ k2.0 in
    record {
      persons_lab = k1.0;
      persons_asker = k1.1;
      sessions_lab = k2.1;
      sessions_person = k3.1;
      forms_lab = k4.1;
      fields_form = k5.1;
      choices_field = k6.1;
      records_lab = k7.1;
      records_form = k8.1;
      versions_kept = k9.1;
      versions_opener = k10.1;
      entries_version = k11.1;
      entries_person = k12.1;
      signatures_version = k13.1;
      signatures_person = k14.1;
      trail_lab = k15.1;
      trail_person = k16.1;
    }

-- ---- whose a row is

-- the two arrows of each row lead to one laboratory
pub record AreWithin (t : Tables) : Type 0 where
  pub persons : list_all (is_asked_within t) t.persons ≡ true
  pub sessions : list_all (is_session_within t) t.sessions ≡ true
  pub records : list_all (is_record_within t) t.records ≡ true
  pub versions : list_all (is_version_within t) t.versions ≡ true
  pub entries : list_all (is_entry_within t) t.entries ≡ true
  pub signatures : list_all (is_signature_within t) t.signatures ≡ true
  pub trail : list_all (is_told_within t) t.trail ≡ true

pub labs_within : (t : Tables) → are_labs_apart t ≡ true → AreWithin t
labs_within t apart =
    let k6 = and_parts _ _ apart in
    let k5 = and_parts _ _ k6.0 in
    let k4 = and_parts _ _ k5.0 in
    let k3 = and_parts _ _ k4.0 in
    let k2 = and_parts _ _ k3.0 in
    let k1 = and_parts _ _ k2.0 in
    record {
      persons = k1.0;
      sessions = k1.1;
      records = k2.1;
      versions = k3.1;
      entries = k4.1;
      signatures = k5.1;
      trail = k6.1;
    }
