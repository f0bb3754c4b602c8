-- What clauses of private functions say beside Forms.antt.
use Rattle.std.specs.Prelude.{ℤ, List, [], map, filter}
use Rattle.std.specs.Ordering.{int_eq}
use Rattle.sqlite_keyed.specs.Lists.{sort_by}
use Rattle.lab_forms.specs.declared.forms.Field.{Field}
use Rattle.lab_store_tables.specs.Rows.{FormRow, FieldRow, Tables}
use Rattle.lab_store_tables.specs.Columns.{kind_in}
use Rattle.lab_store_tables.specs.Meaning.{by_field, names_of}
use Rattle.lab_store_read_forms.specs.Kinds.{kind_with}
use Rattle.lab_store_read_forms.specs.declared.heads.FormHead.{FormHead}
use Rattle.lab_store_read_forms.specs.declared.heads.FieldHead.{FieldHead}

abbrev pub form_head : FormRow → FormHead
form_head one = record {
  id = one.id;
  code = one.code;
  version = one.version;
  approval = one.approval;
}

abbrev pub field_head : FieldRow → FieldHead
field_head one = record {
  id = one.id;
  key = one.key;
  label = one.label;
  required = one.required;
  kind = kind_in one.kind [];
}

-- the fields of a version of a form, in the order of their places
abbrev pub field_heads_of : Tables → ℤ → List FieldHead
field_heads_of t form =
    map field_head (sort_by by_field (filter (λ (one : FieldRow). int_eq one.form form) t.fields))

-- the field that has the row, with its choices
abbrev pub field_by : Tables → FieldHead → Field
field_by t head = record {
  key = head.key;
  label = head.label;
  required = head.required;
  kind = kind_with head.kind (names_of t head.id);
}
