-- Unique ids and keys, whole arrows: what they say of one table.
use Rattle.std.proofs.Common.{◌≡◌, true, Some}
use Rattle.std.proofs.lemmas.Bool.{and_parts}
use Rattle.lab_store_tables.specs.Rows.{Tables, SessionRow, RecordRow, VersionRow, TrailRow, lab_id, person_id, session_id, form_id, record_id, version_id}
use Rattle.lab_store_tables.specs.WellKept.{have_own_ids, are_apart, have_parents, same_token, same_form, same_record, same_version, are_ids_unique, are_keys_unique, are_arrows_whole}

-- ids of persons, sessions, forms, records and versions
pub record OwnIds (t : Tables) : Type 0 where
  pub persons : have_own_ids person_id t.persons ≡ true
  pub sessions : have_own_ids session_id t.sessions ≡ true
  pub forms : have_own_ids form_id t.forms ≡ true
  pub records : have_own_ids record_id t.records ≡ true
  pub versions : have_own_ids version_id t.versions ≡ true

pub own_ids : (t : Tables) → are_ids_unique t ≡ true → OwnIds t
own_ids t ids =
    let trail = and_parts _ _ ids in
    let signatures = and_parts _ _ trail.0 in
    let entries = and_parts _ _ signatures.0 in
    let versions = and_parts _ _ entries.0 in
    let records = and_parts _ _ versions.0 in
    let choices = and_parts _ _ records.0 in
    let fields = and_parts _ _ choices.0 in
    let forms = and_parts _ _ fields.0 in
    let sessions = and_parts _ _ forms.0 in
    let persons = and_parts _ _ sessions.0 in
    record {
      persons = persons.1;
      sessions = sessions.1;
      forms = forms.1;
      records = records.1;
      versions = versions.1;
    }

-- keys of sessions, of versions of forms, of records and of their versions
pub record OwnKeys (t : Tables) : Type 0 where
  pub tokens : are_apart same_token t.sessions ≡ true
  pub forms : are_apart same_form t.forms ≡ true
  pub records : are_apart same_record t.records ≡ true
  pub versions : are_apart same_version t.versions ≡ true

pub own_keys : (t : Tables) → are_keys_unique t ≡ true → OwnKeys t
own_keys t keys =
    let trail = and_parts _ _ keys in
    let meanings = and_parts _ _ trail.0 in
    let signatures = and_parts _ _ meanings.0 in
    let entries = and_parts _ _ signatures.0 in
    let versions = and_parts _ _ entries.0 in
    let samples = and_parts _ _ versions.0 in
    let records = and_parts _ _ samples.0 in
    let choices = and_parts _ _ records.0 in
    let field_keys = and_parts _ _ choices.0 in
    let fields = and_parts _ _ field_keys.0 in
    let forms = and_parts _ _ fields.0 in
    let sessions = and_parts _ _ forms.0 in
    let tokens = and_parts _ _ sessions.0 in
    record { tokens = tokens.1; forms = forms.1; records = records.1; versions = versions.1 }

-- each version's arrow leads to its record
pub versions_lead : (t : Tables) → are_arrows_whole t ≡ true → have_parents (λ (one : VersionRow). Some one.kept) record_id t.records t.versions ≡ true
versions_lead t arrows =
    let told = and_parts _ _ arrows in
    let trail = and_parts _ _ told.0 in
    let signers = and_parts _ _ trail.0 in
    let signatures = and_parts _ _ signers.0 in
    let enterers = and_parts _ _ signatures.0 in
    let entries = and_parts _ _ enterers.0 in
    let openers = and_parts _ _ entries.0 in
    (and_parts _ _ openers.0).1

-- and those of records, of sessions and of the trail lead to their laboratories
pub labs_lead : (t : Tables) → are_arrows_whole t ≡ true
    → (have_parents (λ (one : RecordRow). Some one.lab) lab_id t.labs t.records ≡ true)
    × (have_parents (λ (one : SessionRow). Some one.lab) lab_id t.labs t.sessions ≡ true)
    × (have_parents (λ (one : TrailRow). Some one.lab) lab_id t.labs t.trail ≡ true)
labs_lead t arrows =
    let told = and_parts _ _ arrows in
    let trail = and_parts _ _ told.0 in
    let signers = and_parts _ _ trail.0 in
    let signatures = and_parts _ _ signers.0 in
    let enterers = and_parts _ _ signatures.0 in
    let entries = and_parts _ _ enterers.0 in
    let openers = and_parts _ _ entries.0 in
    let versions = and_parts _ _ openers.0 in
    let filled = and_parts _ _ versions.0 in
    let records = and_parts _ _ filled.0 in
    let choices = and_parts _ _ records.0 in
    let fields = and_parts _ _ choices.0 in
    let forms = and_parts _ _ fields.0 in
    let callers = and_parts _ _ forms.0 in
    let sessions = and_parts _ _ callers.0 in
    (records.1, sessions.1, trail.1)
