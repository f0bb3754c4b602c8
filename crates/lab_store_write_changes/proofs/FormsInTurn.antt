-- Steps of several calls that add rows in turn: choices, fields, forms.
use Rattle.std.proofs.Common.{◌≡◌, ℕ, ℤ, ◌+◌, List, filter, length, sym, ap, ap₂, subst, ◌∙◌}
use Rattle.sqlite_keyed.specs.Keyed.{next_key}
use Rattle.sqlite_keyed.proofs.KeyedLemmas.{next_key_is_free}
use Rattle.sqlite.specs.State.{State}
use Rattle.lab_forms.specs.declared.forms.Field.{Field}
use Rattle.lab_records_kept.specs.declared.records.FormVersion.{FormVersion}
use Rattle.lab_store_tables.specs.Rows.{Tables, form_id, field_id, choice_id}
use Rattle.lab_store_tables.specs.Columns.{kind_names}
use Rattle.lab_store_tables.specs.Changes.{InTurn, IsFree, put_form, form_row_of, put_field, put_choice, AddsChoice, AddsField, AddsForm}
use Rattle.lab_store_tables.specs.Ready.{tables_of}
use Rattle.lab_store_tables.specs.Family.{Forms, Fields, Choices}
use Rattle.lab_store_write.specs.Calls.{Steps, Finds}
use Rattle.lab_store_write_changes.specs.Private.FieldsShown.{is_field_of, is_choice_of}
use Rattle.lab_store_write_changes.specs.Private.FormsAdded.{choice_at, with_choice, field_at, with_field}
use Rattle.lab_store_write_changes.specs.FormsAdded.{with_form}

pub choice_added : (field : ℤ) (name : List ℕ) (place : ℕ) (a b c : State) → Steps (Finds (λ t. place ≡ length (filter (is_choice_of field) t.choices) + 1)) a b
    → Steps (λ before after. after ≡ with_choice field place name before) b c → Steps (AddsChoice field name) a c
choice_added field name place a b c p q = record {
  inside = q.inside;
  made = λ typed.
      let one = p.made typed in
      let two = q.made one.0 in
      let t = tables_of a in
      let id = next_key choice_id t.choices in
      let added : AddsChoice field name (tables_of a) (tables_of c) = record {
        id = id;
        free = next_key_is_free choice_id t.choices (typed.rising.at Choices);
        made = two.1 ∙ ap (with_choice field place name) one.1.1
            ∙ ap (λ (n : ℕ). put_choice (choice_at field id n name) t) one.1.0;
      } in
      (two.0, added);
  sound = λ typed rules. q.sound (p.made typed).0 (p.sound typed rules);
}

pub field_added : (form : ℤ) (field : Field) (place : ℕ) (id : ℤ) (a b c d : State)
    → Steps (Finds (λ t. place ≡ length (filter (is_field_of form) t.fields) + 1)) a b
    → Steps (λ before after. (id ≡ next_key field_id before.fields) × (after ≡ with_field form place field before)) b c
    → Steps (InTurn (AddsChoice id) (kind_names field.kind)) c d → Steps (AddsField form field) a d
field_added form field place id a b c d p q r = record {
  inside = r.inside;
  made = λ typed.
      let one = p.made typed in
      let two = q.made one.0 in
      let three = r.made two.0 in
      let t = tables_of a in
      let is : id ≡ next_key field_id t.fields = two.1.0 ∙ ap (λ (x : Tables). next_key field_id x.fields) one.1.1 in
      let put : tables_of c ≡ put_field (field_at form id (length (filter (is_field_of form) t.fields) + 1) field) t =
      two.1.1 ∙ ap (with_field form place field) one.1.1 ∙ ap₂ (λ (i : ℤ) (n : ℕ). put_field (field_at form i n field) t) (sym is) one.1.0 in
      let added : AddsField form field (tables_of a) (tables_of d) = record {
        id = id;
        free = subst (IsFree field_id t.fields) (sym is) (next_key_is_free field_id t.fields (typed.rising.at Fields));
        choices = subst (λ (x : Tables). InTurn (AddsChoice id) (kind_names field.kind) x (tables_of d)) put three.1;
      } in
      (three.0, added);
  sound = λ typed rules. let one = p.made typed in r.sound (q.made one.0).0 (q.sound one.0 (p.sound typed rules));
}

pub form_added : (lab : ℤ) (form : FormVersion) (id : ℤ) (a b c : State)
    → Steps (λ before after. (id ≡ next_key form_id before.forms) × (after ≡ with_form lab form before)) a b
    → Steps (InTurn (AddsField id) form.form.fields) b c → Steps (AddsForm lab form) a c
form_added lab form id a b c p q = record {
  inside = q.inside;
  made = λ typed.
      let one = p.made typed in
      let two = q.made one.0 in
      let t = tables_of a in
      let put : tables_of b ≡ put_form (form_row_of lab id form) t = one.1.1 ∙ ap (λ (i : ℤ). put_form (form_row_of lab i form) t) (sym one.1.0) in
      let added : AddsForm lab form (tables_of a) (tables_of c) = record {
        id = id;
        free = subst (IsFree form_id t.forms) (sym one.1.0) (next_key_is_free form_id t.forms (typed.rising.at Forms));
        fields = subst (λ (x : Tables). InTurn (AddsField id) form.form.fields x (tables_of c)) put two.1;
      } in
      (two.0, added);
  sound = λ typed rules. q.sound (p.made typed).0 (p.sound typed rules);
}
