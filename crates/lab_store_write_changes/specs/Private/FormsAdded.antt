-- What clauses of private functions say beside FormsAdded.antt.
use Rattle.std.specs.Prelude.{ℕ, ℤ, List}
use Rattle.sqlite_keyed.specs.Keyed.{next_key}
use Rattle.lab_forms.specs.declared.forms.Field.{Field}
use Rattle.lab_store_tables.specs.Columns.{kind_columns}
use Rattle.lab_store_tables.specs.Rows.{ChoiceRow, FieldRow, Tables, field_id, choice_id}
use Rattle.lab_store_tables.specs.Changes.{put_field, put_choice}

abbrev pub choice_at : ℤ → ℤ → ℕ → List ℕ → ChoiceRow
choice_at field id place name = record { id = id; field = field; place = place; name = name }

abbrev pub with_choice : ℤ → ℕ → List ℕ → Tables → Tables
with_choice field place name t =
    put_choice (choice_at field (next_key choice_id t.choices) place name) t

abbrev pub field_at : ℤ → ℤ → ℕ → Field → FieldRow
field_at form id place field = record {
  id = id;
  form = form;
  place = place;
  key = field.key;
  label = field.label;
  required = field.required;
  kind = kind_columns field.kind;
}

abbrev pub with_field : ℤ → ℕ → Field → Tables → Tables
with_field form place field t =
    put_field (field_at form (next_key field_id t.fields) place field) t
