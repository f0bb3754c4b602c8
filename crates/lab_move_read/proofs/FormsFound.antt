-- What was read of forms and their fields, as what the tables have, and what was tried of them.
use Rattle.std.proofs.Common.{◌≡◌, ℤ, true, false, ◌&&◌, ◌==◌, List, [], ◌∷◌, map, Option, Some, None, option_map, refl, sym, ap, ap₂, ◌∙◌}
use Rattle.std.specs.List.{list_all}
use Rattle.sqlite_value.specs.Order.{Row}
use Rattle.sqlite_keyed.proofs.ListLemmas.{map-map, map_same}
use Rattle.lab_store_tables.specs.Rows.{FormRow, FieldRow, ChoiceRow, Tables}
use Rattle.lab_store_tables.specs.Columns.{kind_in}
use Rattle.lab_store_tables.specs.Meaning.{names_of, field_in, fields_of, forms_of}
use Rattle.lab_store_read.proofs.Found.{flag_back, text_back, number_back}
use Rattle.lab_store_read_forms.specs.KindsShown.{kind_cells, name_read}
use Rattle.lab_store_read_forms.proofs.KindsFound.{kind_named}
use Rattle.lab_move_tables.specs.declared.older.Older.{Older}
use Rattle.lab_move_tables.specs.declared.older.Older.TheVariants.{Two}
use Rattle.lab_move_tables.specs.Standing.{AreLifted}
use Rattle.lab_move_tables.specs.Owned.{own_forms, own_fields, own_choices}
use Rattle.lab_move_tables.specs.KeptLabs.{next_of, run_by_code, are_kept_names, is_kept_field, are_kept_fields, is_kept_form, are_kept_forms}
use Rattle.lab_move_tables.specs.Shown.{form_shown, forms_shown, field_shown, fields_shown, choice_shown, choices_shown}
use Rattle.lab_move_tables.specs.Checks.{are_rows_numbered}
use Rattle.lab_store_read_forms.specs.declared.heads.FieldHead.{FieldHead}
use Rattle.lab_store_read_forms.specs.declared.heads.FormHead.{FormHead}
use Rattle.lab_store_read_forms.specs.Private.Forms.{field_head, field_heads_of, field_by, form_head}
use Rattle.lab_store_read_forms.specs.Shown.{field_read}
use Rattle.lab_move_read.specs.Private.Forms.{are_kept_places, is_kept_field_head, form_heads_of, form_at_by, is_kept_form_head, forms_run}
use Rattle.lab_move_read.specs.Forms.{form_read, form_at_in, forms_at_of, form_of}
use Rattle.lab_move_read_people.proofs.Found.{first_fails}
use Rattle.lab_move_read_people.proofs.Numbered.{numbered_is, list_all-map}
use Rattle.lab_move_tables.proofs.OldOnes.{IsOldForm, old_forms, all_same}

-- ---- names

pub names_done : (t : Tables) (field : ℤ) (rows : List Row) → rows ≡ choices_shown t field → (are_rows_numbered 1 rows ≡ are_kept_names t field) × (map name_read rows ≡ names_of t field)
names_done t field rows is = (
  ap (are_rows_numbered 1) is ∙ numbered_is choice_shown 1 (λ (one : ChoiceRow). one.place) (λ one. refl) (own_choices t field),
  ap (map name_read) is ∙ map-map name_read choice_shown (own_choices t field),
)

-- ---- fields

cells_back : (one : FieldRow) → kind_cells (field_shown one) ≡ one.kind
cells_back one = λ i. record {
  word = one.kind.word;
  unit = text_back one.kind.unit i;
  decimals = number_back one.kind.decimals i;
  low = text_back one.kind.low i;
  high = text_back one.kind.high i;
  size = number_back one.kind.size i;
}

field_back : (one : FieldRow) → field_read (field_shown one) ≡ field_head one
field_back one = λ i. record (field_head one) { required = flag_back one.required i; kind = kind_in (cells_back one i) [] }

pub field_rows_done : (t : Tables) (form : ℤ) (rows : List Row) → rows ≡ fields_shown t form → (are_rows_numbered 10 rows ≡ are_kept_places t form) × (map field_read rows ≡ field_heads_of t form)
field_rows_done t form rows is = (
  ap (are_rows_numbered 10) is ∙ numbered_is field_shown 10 (λ (one : FieldRow). one.place) (λ one. refl) (own_fields t form),
  ap (map field_read) is ∙ map-map field_read field_shown (own_fields t form) ∙ map_same _ _ field_back (own_fields t form),
)

field_built : (t : Tables) (one : FieldRow) → field_by t (field_head one) ≡ field_in t one
field_built t one = λ i. record (field_in t one) { kind = kind_named one.kind (names_of t one.id) i }

pub fields_done : (t : Tables) (form : ℤ) (heads : List FieldHead) → are_kept_places t form ≡ true → heads ≡ field_heads_of t form
    → (list_all (is_kept_field_head t) heads ≡ are_kept_fields t form) × (map (field_by t) heads ≡ fields_of t form)
fields_done t form heads passes is =
    let own = own_fields t form in (
      ap (list_all (is_kept_field_head t)) is ∙ list_all-map (is_kept_field_head t) field_head own ∙ ap (λ b. b && list_all (is_kept_field t) own) (sym passes),
      ap (map (field_by t)) is ∙ map-map (field_by t) field_head own ∙ map_same _ _ (field_built t) own,
    )

-- ---- versions of forms

form_back : (older : Older) (one : FormRow) → IsOldForm older one → form_read older (form_shown older one) ≡ form_head one
form_back Two one none = λ i. record (form_head one) { approval = sym none i }

pub forms_found : (older : Older) (t : Tables) → AreLifted older t → (lab : ℤ) → map (form_read older) (forms_shown older t lab) ≡ form_heads_of t lab
forms_found older t of lab =
    map-map (form_read older) (form_shown older) (own_forms t lab)
    ∙ all_same (IsOldForm older) (λ one. form_read older (form_shown older one)) form_head (form_back older) (own_forms t lab) (old_forms older t of lab)

runs : (before : Option FormRow) (forms : List FormRow)
    → forms_run (option_map form_head before) (map form_head forms) ≡ run_by_code (λ (form : FormRow). form.code) (λ (form : FormRow). form.version) before forms
runs before [] = refl
runs before (one ∷ others) = ap₂ (λ n more. (one.version == n) && more) (next before) (runs (Some one) others)
  where
    next : (o : Option FormRow) → next_of (λ (form : FormHead). form.code) (λ (form : FormHead). form.version) one.code (option_map form_head o)
        ≡ next_of (λ (form : FormRow). form.code) (λ (form : FormRow). form.version) one.code o
    next None = refl
    next (Some other) = refl

forms_tried : (t : Tables) (lab : ℤ) (heads : List FormHead) → heads ≡ form_heads_of t lab
    → forms_run None heads ≡ run_by_code (λ (form : FormRow). form.code) (λ (form : FormRow). form.version) None (own_forms t lab)
forms_tried t lab heads is = ap (forms_run None) is ∙ runs None (own_forms t lab)

pub forms_done : (t : Tables) (lab : ℤ) (heads : List FormHead) → heads ≡ form_heads_of t lab → forms_run None heads ≡ true
    → (list_all (is_kept_form_head t) heads ≡ are_kept_forms t lab) × (map (form_at_by t) heads ≡ forms_at_of t lab)
forms_done t lab heads is passes =
    let own = own_forms t lab in (
      ap (list_all (is_kept_form_head t)) is ∙ list_all-map (is_kept_form_head t) form_head own ∙ ap (λ b. b && list_all (is_kept_form t) own) (sym passes ∙ forms_tried t lab heads is),
      ap (map (form_at_by t)) is ∙ map-map (form_at_by t) form_head own,
    )

pub forms_fail : (t : Tables) (lab : ℤ) (heads : List FormHead) → heads ≡ form_heads_of t lab → forms_run None heads ≡ false → are_kept_forms t lab ≡ false
forms_fail t lab heads is fails = first_fails _ _ (sym (forms_tried t lab heads is) ∙ fails)

pub forms_alone : (t : Tables) (lab : ℤ) → map form_of (forms_at_of t lab) ≡ forms_of t lab
forms_alone t lab = map-map form_of (form_at_in t) (own_forms t lab)
