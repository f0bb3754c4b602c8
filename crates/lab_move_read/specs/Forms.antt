-- Versions of forms and their fields as they are read: each row by its id, what stands in rows of
-- their own put together, and whether their places and numbers run from 1 on.
use Rattle.std.specs.Prelude.{ℤ, Bool, false, List, map, find, Option, option_map}
use Rattle.std.specs.Ordering.{int_eq}
use Rattle.sqlite_value.specs.Order.{Row, column, bytes}
use Rattle.sqlite_rules.specs.Edit.{id_in}
use Rattle.lab_records_kept.specs.declared.records.FormVersion.{FormVersion}
use Rattle.lab_store_tables.specs.Rows.{FormRow, Tables, number_in}
use Rattle.lab_store_tables.specs.Meaning.{form_in}
use Rattle.lab_store_read_forms.specs.declared.heads.FormHead.{FormHead}
use Rattle.lab_store_read_forms.specs.declared.heads.FormAt.{FormAt}
use Rattle.lab_move_tables.specs.declared.older.Older.{Older}
use Rattle.lab_move_tables.specs.declared.older.Older.TheVariants.{Two}
use Rattle.lab_move_tables.specs.Owned.{own_forms}

-- ---- versions of forms

-- whether the form wants an approval: none did where no schema knew it
abbrev pub approval_in : Older → Row → Bool
approval_in Two row = false

abbrev pub form_read : Older → Row → FormHead
form_read older row = record {
  id = id_in (column row 0);
  code = bytes (column row 1);
  version = number_in (column row 2);
  approval = approval_in older row;
}

abbrev pub form_at_in : Tables → FormRow → FormAt
form_at_in t row = record { id = row.id; form = form_in t row }

abbrev pub forms_at_of : Tables → ℤ → List FormAt
forms_at_of t lab = map (form_at_in t) (own_forms t lab)

abbrev pub form_of : FormAt → FormVersion
form_of one = one.form

-- the version whose row has the id, if it is one of these
abbrev pub form_among : List FormAt → ℤ → Option FormVersion
form_among forms id = option_map form_of (find (λ (one : FormAt). int_eq one.id id) forms)
