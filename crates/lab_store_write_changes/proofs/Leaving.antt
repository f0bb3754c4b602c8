-- Forms and records that are added leave the persons as they are.
use Rattle.std.proofs.Common.{◌≡◌, ℕ, ℤ, List, ap, ◌∙◌}
use Rattle.lab_forms.specs.declared.forms.Field.{Field}
use Rattle.lab_seal_versions.specs.declared.rows.EntryRow.{EntryRow as Entry}
use Rattle.lab_records_kept.specs.declared.records.FormVersion.{FormVersion}
use Rattle.lab_records_kept.specs.declared.records.Record.{Record}
use Rattle.lab_records_kept.specs.declared.records.Signature.{Signature}
use Rattle.lab_records_kept.specs.declared.records.Version.{Version}
use Rattle.lab_store_tables.specs.Rows.{LabRow, PersonRow, Tables}
use Rattle.lab_store_tables.specs.Columns.{kind_names}
use Rattle.lab_store_tables.specs.Changes.{in_lab, AddsChoice, field_row_of, put_field, AddsField, form_row_of, put_form, AddsForm, AddsEntry, AddsSignature, version_row_of, put_version, AddsVersion, record_row_of, put_record, AddsRecord}
use Rattle.lab_store_tables.proofs.Turns.{turns_leave}

abbrev pub persons_of : Tables → List PersonRow
persons_of t = t.persons

pub entry_leaves : (lab version : ℤ) (one : Entry) (old new : Tables) → AddsEntry lab version one old new → new.persons ≡ old.persons
entry_leaves lab version one old new it = ap persons_of it.made

pub signature_leaves : (lab version : ℤ) (one : Signature) (old new : Tables) → AddsSignature lab version one old new → new.persons ≡ old.persons
signature_leaves lab version one old new it = ap persons_of it.made

pub version_leaves : (lab kept : ℤ) (one : Version) (old new : Tables) → AddsVersion lab kept one old new → new.persons ≡ old.persons
version_leaves lab kept one old new it =
    turns_leave (AddsSignature lab it.id) persons_of (signature_leaves lab it.id) one.signatures it.entered new it.signatures
    ∙ turns_leave (AddsEntry lab it.id) persons_of (entry_leaves lab it.id) one.rows (put_version (version_row_of kept it.id it.opener one) old) it.entered it.rows

pub record_leaves : (lab : ℤ) (one : Record) (old new : Tables) → AddsRecord lab one old new → new.persons ≡ old.persons
record_leaves lab one old new it =
    turns_leave (AddsVersion lab it.id) persons_of (version_leaves lab it.id) one.versions
    (in_lab lab (λ (row : LabRow). record row { records = one.number }) (put_record (record_row_of lab it.id it.form one) old)) new it.versions

choice_leaves : (field : ℤ) (one : List ℕ) (old new : Tables) → AddsChoice field one old new → new.persons ≡ old.persons
choice_leaves field one old new it = ap persons_of it.made

field_leaves : (form : ℤ) (one : Field) (old new : Tables) → AddsField form one old new → new.persons ≡ old.persons
field_leaves form one old new it =
    turns_leave (AddsChoice it.id) persons_of (choice_leaves it.id) (kind_names one.kind) (put_field (field_row_of old form it.id one) old) new it.choices

pub form_leaves : (lab : ℤ) (one : FormVersion) (old new : Tables) → AddsForm lab one old new → new.persons ≡ old.persons
form_leaves lab one old new it =
    turns_leave (AddsField it.id) persons_of (field_leaves it.id) one.form.fields (put_form (form_row_of lab it.id one) old) new it.fields
