-- Forms and records that are added, beside a laboratory's last moment: as if that had been set before.
use Rattle.std.proofs.Common.{ℕ, ℤ, List, refl, ap, subst}
use Rattle.lab_forms.specs.declared.forms.Field.{Field}
use Rattle.lab_seal_versions.specs.declared.rows.EntryRow.{EntryRow as Entry}
use Rattle.lab_records_kept.specs.declared.records.FormVersion.{FormVersion}
use Rattle.lab_records_kept.specs.declared.records.Record.{Record}
use Rattle.lab_records_kept.specs.declared.records.Signature.{Signature}
use Rattle.lab_records_kept.specs.declared.records.Version.{Version}
use Rattle.lab_store_tables.specs.Rows.{LabRow, Tables}
use Rattle.lab_store_tables.specs.Columns.{kind_names}
use Rattle.lab_store_tables.specs.Changes.{in_lab, InTurn, AddsChoice, field_row_of, put_field, AddsField, form_row_of, put_form, AddsForm, AddsEntry, AddsSignature, version_row_of, put_version, AddsVersion, record_row_of, put_record, AddsRecord}
use Rattle.lab_store_write.proofs.Later.{later, counted_later, turns_beside}

module _ (lab : ℤ) (moment : ℕ) where
  choice_beside : (field : ℤ) (one : List ℕ) (old new : Tables) → AddsChoice field one old new → AddsChoice field one (later lab moment old) (later lab moment new)
  choice_beside field one old new it = record { id = it.id; free = it.free; made = ap (later lab moment) it.made }

  field_beside : (form : ℤ) (one : Field) (old new : Tables) → AddsField form one old new → AddsField form one (later lab moment old) (later lab moment new)
  field_beside form one old new it = record {
    id = it.id;
    free = it.free;
    choices = turns_beside lab moment (AddsChoice it.id) (choice_beside it.id) (kind_names one.kind) (put_field (field_row_of old form it.id one) old) new it.choices;
  }

  pub form_beside : (one : FormVersion) (old new : Tables) → AddsForm lab one old new → AddsForm lab one (later lab moment old) (later lab moment new)
  form_beside one old new it = record {
    id = it.id;
    free = it.free;
    fields = turns_beside lab moment (AddsField it.id) (field_beside it.id) one.form.fields (put_form (form_row_of lab it.id one) old) new it.fields;
  }

  pub entry_beside : (version : ℤ) (one : Entry) (old new : Tables) → AddsEntry lab version one old new → AddsEntry lab version one (later lab moment old) (later lab moment new)
  entry_beside version one old new it = record { id = it.id; free = it.free; person = it.person; named = it.named; made = ap (later lab moment) it.made }

  pub signature_beside : (version : ℤ) (one : Signature) (old new : Tables) → AddsSignature lab version one old new → AddsSignature lab version one (later lab moment old) (later lab moment new)
  signature_beside version one old new it = record { id = it.id; free = it.free; person = it.person; named = it.named; made = ap (later lab moment) it.made }

  pub version_beside : (kept : ℤ) (one : Version) (old new : Tables) → AddsVersion lab kept one old new → AddsVersion lab kept one (later lab moment old) (later lab moment new)
  version_beside kept one old new it = record {
    id = it.id;
    free = it.free;
    opener = it.opener;
    named = it.named;
    entered = later lab moment it.entered;
    rows = turns_beside lab moment (AddsEntry lab it.id) (entry_beside it.id) one.rows (put_version (version_row_of kept it.id it.opener one) old) it.entered it.rows;
    signatures = turns_beside lab moment (AddsSignature lab it.id) (signature_beside it.id) one.signatures it.entered new it.signatures;
  }

  pub record_beside : (one : Record) (old new : Tables) → AddsRecord lab one old new → AddsRecord lab one (later lab moment old) (later lab moment new)
  record_beside one old new it =
      let counted = λ (row : LabRow). record row { records = one.number } in
      let put = put_record (record_row_of lab it.id it.form one) old in
      record {
        id = it.id;
        free = it.free;
        form = it.form;
        named = it.named;
        versions = subst (λ (t : Tables). InTurn (AddsVersion lab it.id) one.versions t (later lab moment new)) (counted_later lab moment counted (λ _. refl) (λ _. refl) put)
            (turns_beside lab moment (AddsVersion lab it.id) (version_beside it.id) one.versions (in_lab lab counted put) new it.versions);
      }
