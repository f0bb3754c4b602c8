-- What well-kept tables say of laboratories, persons, forms, records and versions, part by part.
use Rattle.std.proofs.Common.{◌≡◌, true, Some, int_eq}
use Rattle.std.specs.List.{list_all}
use Rattle.std.proofs.lemmas.Bool.{and_parts}
use Rattle.sqlite_keyed.specs.Rules.{AreApart}
use Rattle.lab_store_tables.specs.Rows.{FormRow, RecordRow, VersionRow, EntryRow, SignatureRow, Tables, lab_id, person_id, record_id, version_id}
use Rattle.lab_store_tables.specs.WellKept.{have_own_ids, have_parents, are_numbered_beside, same_form, same_record, same_version, is_current, are_ids_unique, are_keys_unique, are_arrows_whole, are_all_numbered, is_said_alike, AreWellKept}
use Rattle.lab_store_tables.proofs.Bridges.{apart_from_test}

-- no two rows have one id
pub record OwnIds (t : Tables) : Type 0 where
  pub labs : have_own_ids lab_id t.labs ≡ true
  pub persons : have_own_ids person_id t.persons ≡ true
  pub forms : AreApart (λ (one other : FormRow). int_eq one.id other.id) t.forms
  pub records : AreApart (λ (one other : RecordRow). int_eq one.id other.id) t.records
  pub versions : AreApart (λ (one other : VersionRow). int_eq one.id other.id) t.versions

own_ids : (t : Tables) → are_ids_unique t ≡ true → OwnIds t
own_ids t ids =
    let to_signatures = and_parts _ _ ids in
    let to_entries = and_parts _ _ to_signatures.0 in
    let to_versions = and_parts _ _ to_entries.0 in
    let versions = and_parts _ _ to_versions.0 in
    let records = and_parts _ _ versions.0 in
    let choices = and_parts _ _ records.0 in
    let fields = and_parts _ _ choices.0 in
    let forms = and_parts _ _ fields.0 in
    let sessions = and_parts _ _ forms.0 in
    let persons = and_parts _ _ sessions.0 in
    record {
      labs = persons.0;
      persons = persons.1;
      forms = apart_from_test (λ (one other : FormRow). int_eq one.id other.id) t.forms forms.1;
      records = apart_from_test (λ (one other : RecordRow). int_eq one.id other.id) t.records records.1;
      versions = apart_from_test (λ (one other : VersionRow). int_eq one.id other.id) t.versions versions.1;
    }

-- nor one key
pub record OwnKeys (t : Tables) : Type 0 where
  pub forms : AreApart same_form t.forms
  pub records : AreApart same_record t.records
  pub versions : AreApart same_version t.versions

own_keys : (t : Tables) → are_keys_unique t ≡ true → OwnKeys t
own_keys t keys =
    let to_meanings = and_parts _ _ keys in
    let to_signatures = and_parts _ _ to_meanings.0 in
    let to_entries = and_parts _ _ to_signatures.0 in
    let to_versions = and_parts _ _ to_entries.0 in
    let versions = and_parts _ _ to_versions.0 in
    let samples = and_parts _ _ versions.0 in
    let records = and_parts _ _ samples.0 in
    let choices = and_parts _ _ records.0 in
    let field_keys = and_parts _ _ choices.0 in
    let fields = and_parts _ _ field_keys.0 in
    let forms = and_parts _ _ fields.0 in
    record {
      forms = apart_from_test same_form t.forms forms.1;
      records = apart_from_test same_record t.records records.1;
      versions = apart_from_test same_version t.versions versions.1;
    }

-- the arrows of versions, entries and signatures lead to rows
pub record OwnArrows (t : Tables) : Type 0 where
  pub versions : have_parents (λ (one : VersionRow). Some one.kept) record_id t.records t.versions ≡ true
  pub entries : have_parents (λ (one : EntryRow). Some one.version) version_id t.versions t.entries ≡ true
  pub signatures : have_parents (λ (one : SignatureRow). Some one.version) version_id t.versions t.signatures ≡ true

own_arrows : (t : Tables) → are_arrows_whole t ≡ true → OwnArrows t
own_arrows t arrows =
    let tellers = and_parts _ _ arrows in
    let trail = and_parts _ _ tellers.0 in
    let signers = and_parts _ _ trail.0 in
    let signatures = and_parts _ _ signers.0 in
    let workers = and_parts _ _ signatures.0 in
    let entries = and_parts _ _ workers.0 in
    let openers = and_parts _ _ entries.0 in
    let versions = and_parts _ _ openers.0 in
    record { versions = versions.1; entries = entries.1; signatures = signatures.1 }

-- records and versions are numbered from 1 on, and `current` counts the versions
pub record OwnNumbers (t : Tables) : Type 0 where
  pub records : are_numbered_beside (λ (one other : RecordRow). int_eq other.lab one.lab) (λ (one : RecordRow). one.number) t.records ≡ true
  pub versions : are_numbered_beside (λ (one other : VersionRow). int_eq other.kept one.kept) (λ (one : VersionRow). one.number) t.versions ≡ true
  pub current : list_all (is_current t) t.records ≡ true

own_numbers : (t : Tables) → are_all_numbered t ≡ true → is_said_alike t ≡ true → OwnNumbers t
own_numbers t numbered alike =
    let trail = and_parts _ _ numbered in
    let signatures = and_parts _ _ trail.0 in
    let entries = and_parts _ _ signatures.0 in
    let versions = and_parts _ _ entries.0 in
    let records = and_parts _ _ versions.0 in
    record { records = records.1; versions = versions.1; current = (and_parts _ _ (and_parts _ _ alike).0).1 }

-- all of them
pub record KeptParts (t : Tables) : Type 0 where
  pub ids : OwnIds t
  pub keys : OwnKeys t
  pub arrows : OwnArrows t
  pub numbers : OwnNumbers t

pub parts_kept : (t : Tables) → AreWellKept t → KeptParts t
parts_kept t well = record {
  ids = own_ids t well.ids;
  keys = own_keys t well.keys;
  arrows = own_arrows t well.arrows;
  numbers = own_numbers t well.numbered well.alike;
}
