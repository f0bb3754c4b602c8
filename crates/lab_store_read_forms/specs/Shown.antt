-- The rows that each query shows of the tables, in its order, and what such a row is read as.
use Rattle.std.specs.Prelude.{ℤ, List, [], ◌∷◌, map, filter}
use Rattle.std.specs.Ordering.{int_eq}
use Rattle.sqlite_keyed.specs.Lists.{sort_by}
use Rattle.sqlite_value.specs.declared.value.Value.TheVariants.{Int, Text}
use Rattle.sqlite_value.specs.Order.{Row, column, bytes}
use Rattle.sqlite_rules.specs.Edit.{id_in}
use Rattle.lab_store_tables.specs.Rows.{FormRow, FieldRow, Tables, number, flag, optional, number_in, flag_in}
use Rattle.lab_store_tables.specs.Columns.{kind_in}
use Rattle.lab_store_tables.specs.Meaning.{by_field}
use Rattle.lab_store_read_forms.specs.KindsShown.{kind_cells}
use Rattle.lab_store_read_forms.specs.declared.heads.FormHead.{FormHead}
use Rattle.lab_store_read_forms.specs.declared.heads.FieldHead.{FieldHead}

-- ---- a version of a form

abbrev pub form_shown : FormRow → Row
form_shown one =
    Int one.id ∷ Text one.code ∷ number one.version ∷ flag one.approval ∷ []

abbrev pub forms_shown : Tables → ℤ → List Row
forms_shown t id = map form_shown (filter (λ (one : FormRow). int_eq one.id id) t.forms)

abbrev pub form_read : Row → FormHead
form_read row = record {
  id = id_in (column row 0);
  code = bytes (column row 1);
  version = number_in (column row 2);
  approval = flag_in (column row 3);
}

-- ---- its fields

abbrev pub field_shown : FieldRow → Row
field_shown one =
    Int one.id ∷ Text one.key ∷ Text one.label ∷ flag one.required ∷ Text one.kind.word
    ∷ optional Text one.kind.unit ∷ optional number one.kind.decimals
    ∷ optional Text one.kind.low ∷ optional Text one.kind.high ∷ optional number one.kind.size
    ∷ []

abbrev pub fields_shown : Tables → ℤ → List Row
fields_shown t form =
    map field_shown
    (sort_by by_field (filter (λ (one : FieldRow). int_eq one.form form) t.fields))

abbrev pub field_read : Row → FieldHead
field_read row = record {
  id = id_in (column row 0);
  key = bytes (column row 1);
  label = bytes (column row 2);
  required = flag_in (column row 3);
  kind = kind_in (kind_cells row) [];
}
