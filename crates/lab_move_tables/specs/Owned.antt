-- The rows that one arrow leads from, in the order of their numbers, places or codes: of these
-- `Meaning` of `lab_store_tables` makes the lists of a laboratory.
use Rattle.std.specs.Prelude.{ℤ, pos, List, filter, option_map, unwrap_or}
use Rattle.std.specs.Ordering.{int_eq}
use Rattle.sqlite_keyed.specs.Keyed.{get_by}
use Rattle.sqlite_keyed.specs.Lists.{sort_by}
use Rattle.lab_store_tables.specs.Rows.{PersonRow, SessionRow, FormRow, FieldRow, ChoiceRow, RecordRow, VersionRow, EntryRow, SignatureRow, TrailRow, Tables, person_id}
use Rattle.lab_store_tables.specs.Meaning.{by_code, by_session, by_form, by_field, by_choice, by_record, by_version, by_entry, by_signature, by_trail}

abbrev pub own_persons : Tables → ℤ → List PersonRow
own_persons t lab = sort_by by_code (filter (λ (one : PersonRow). int_eq one.lab lab) t.persons)

abbrev pub own_sessions : Tables → ℤ → List SessionRow
own_sessions t lab = sort_by by_session (filter (λ (one : SessionRow). int_eq one.lab lab) t.sessions)

abbrev pub own_forms : Tables → ℤ → List FormRow
own_forms t lab = sort_by by_form (filter (λ (one : FormRow). int_eq one.lab lab) t.forms)

abbrev pub own_fields : Tables → ℤ → List FieldRow
own_fields t form = sort_by by_field (filter (λ (one : FieldRow). int_eq one.form form) t.fields)

abbrev pub own_choices : Tables → ℤ → List ChoiceRow
own_choices t field =
    sort_by by_choice (filter (λ (one : ChoiceRow). int_eq one.field field) t.choices)

abbrev pub own_records : Tables → ℤ → List RecordRow
own_records t lab = sort_by by_record (filter (λ (one : RecordRow). int_eq one.lab lab) t.records)

abbrev pub own_versions : Tables → ℤ → List VersionRow
own_versions t kept =
    sort_by by_version (filter (λ (one : VersionRow). int_eq one.kept kept) t.versions)

abbrev pub own_entries : Tables → ℤ → List EntryRow
own_entries t version =
    sort_by by_entry (filter (λ (one : EntryRow). int_eq one.version version) t.entries)

abbrev pub own_signatures : Tables → ℤ → List SignatureRow
own_signatures t version =
    sort_by by_signature
    (filter (λ (one : SignatureRow). int_eq one.version version) t.signatures)

abbrev pub own_trail : Tables → ℤ → List TrailRow
own_trail t lab = sort_by by_trail (filter (λ (one : TrailRow). int_eq one.lab lab) t.trail)

-- the laboratory of the person with the id, which an arrow leads to
abbrev pub lab_of : Tables → ℤ → ℤ
lab_of t id =
    unwrap_or (option_map (λ (one : PersonRow). one.lab) (get_by person_id t.persons id)) (pos 0)
