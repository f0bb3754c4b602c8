-- What clauses of private functions say beside Forms.antt.
use Rattle.std.specs.Prelude.{ℤ, Bool, true, ◌&&◌, ◌==◌, List, [], ◌∷◌, map, Option, Some}
use Rattle.lab_store_tables.specs.Rows.{FieldRow, Tables}
use Rattle.lab_store_read_forms.specs.declared.heads.FieldHead.{FieldHead}
use Rattle.lab_store_read_forms.specs.declared.heads.FormHead.{FormHead}
use Rattle.lab_store_read_forms.specs.declared.heads.FormAt.{FormAt}
use Rattle.lab_store_read_forms.specs.Private.Forms.{form_head}
use Rattle.lab_store_read_forms.specs.Forms.{form_by}
use Rattle.lab_move_tables.specs.Owned.{own_forms, own_fields}
use Rattle.lab_move_tables.specs.KeptLabs.{run, next_of, are_kept_names, are_kept_fields}

-- ---- fields

abbrev pub is_kept_field_head : Tables → FieldHead → Bool
is_kept_field_head t head = are_kept_names t head.id

-- the places of the fields of a version of a form
abbrev pub are_kept_places : Tables → ℤ → Bool
are_kept_places t form = run (λ (field : FieldRow). field.place) (own_fields t form)

-- ---- versions of forms

abbrev pub form_heads_of : Tables → ℤ → List FormHead
form_heads_of t lab = map form_head (own_forms t lab)

abbrev pub form_at_by : Tables → FormHead → FormAt
form_at_by t head = record { id = head.id; form = form_by t head }

abbrev pub is_kept_form_head : Tables → FormHead → Bool
is_kept_form_head t head = are_kept_fields t head.id

-- a version follows the one before, of its form or of another
abbrev pub form_follows : FormHead → Option FormHead → Bool
form_follows head before =
    head.version == next_of (λ (one : FormHead). one.code) (λ (one : FormHead). one.version)
    head.code before

abbrev pub forms_run : Option FormHead → List FormHead → Bool
forms_run before [] = true
forms_run before (one ∷ others) = form_follows one before && forms_run (Some one) others
