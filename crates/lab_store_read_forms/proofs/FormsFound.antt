-- What was read of the rows of a form and its fields, as what the tables have.
use Rattle.std.proofs.Common.{◌≡◌, ℤ, false, List, [], ◌∷◌, map, filter, slice_get, Option, Some, None, option_map, unwrap_or, Ok, Err, refl, sym, ap, ◌∙◌}
use Rattle.std.specs.Option.{option_map_or}
use Rattle.std.specs.Ordering.{int_eq}
use Rattle.std.specs.Prelude.{Result}
use Rattle.sqlite_keyed.specs.Keyed.{get_by}
use Rattle.sqlite_keyed.proofs.ListLemmas.{slice_get-filter, map-map, map_same}
use Rattle.lab_records_kept.specs.declared.records.FormVersion.{FormVersion}
use Rattle.lab_store_tables.specs.Rows.{FormRow, FieldRow, Tables, form_id}
use Rattle.lab_store_tables.specs.Columns.{kind_in}
use Rattle.lab_store_tables.specs.Meaning.{fields_of, field_in, names_of, form_in, form_at}
use Rattle.lab_store_read_forms.specs.KindsShown.{kind_cells}
use Rattle.lab_store_read_forms.proofs.KindsFound.{kind_named}
use Rattle.lab_store_read_forms.specs.declared.heads.FormHead.{FormHead}
use Rattle.lab_store_read_forms.specs.Private.Forms.{form_head, field_head, field_heads_of, field_by}
use Rattle.lab_store_read_forms.specs.Forms.{form_by}
use Rattle.lab_store_read_forms.specs.Shown.{form_shown, forms_shown, form_read, field_shown, fields_shown, field_read}
use Rattle.lab_store_read.proofs.Found.{flag_back, text_back, number_back}

-- ---- a version of a form

pub form_back : (one : FormRow) → form_read (form_shown one) ≡ form_head one
form_back one = λ i. record (form_head one) { approval = flag_back one.approval i }

pub form_found : (t : Tables) (id : ℤ) → option_map form_read (slice_get (forms_shown t id) 0) ≡ option_map form_head (get_by form_id t.forms id)
form_found t id = go (filter (λ (one : FormRow). int_eq one.id id) t.forms) ∙ ap (option_map form_head) (slice_get-filter (λ (one : FormRow). int_eq one.id id) t.forms)
  where
    go : (found : List FormRow) → option_map form_read (slice_get (map form_shown found) 0) ≡ option_map form_head (slice_get found 0)
    go [] = refl
    go (one ∷ more) = ap Some (form_back one)

-- the row that was found is the form's
pub form_is : (t : Tables) (id : ℤ) (head : FormHead) → option_map form_head (get_by form_id t.forms id) ≡ Some head → form_by t head ≡ form_at t id
form_is t id head h = go (get_by form_id t.forms id) h
  where
    none : FormVersion
    none = record { code = []; version = 0; form = record { fields = []; approval = false } }

    go : (o : Option FormRow) → option_map form_head o ≡ Some head → form_by t head ≡ unwrap_or (option_map (form_in t) o) none
    go None e = absurd cc
    go (Some one) e = let same : form_head one ≡ head = cc in ap (form_by t) (sym same)

-- ---- its fields

cells_back : (one : FieldRow) → kind_cells (field_shown one) ≡ one.kind
cells_back one = λ i. record {
  word = one.kind.word;
  unit = text_back one.kind.unit i;
  decimals = number_back one.kind.decimals i;
  low = text_back one.kind.low i;
  high = text_back one.kind.high i;
  size = number_back one.kind.size i;
}

field_back : (one : FieldRow) → field_read (field_shown one) ≡ field_head one
field_back one = λ i. record (field_head one) { required = flag_back one.required i; kind = kind_in (cells_back one i) [] }

pub fields_found : (t : Tables) (form : ℤ) → map field_read (fields_shown t form) ≡ field_heads_of t form
fields_found t form = map-map field_read field_shown _ ∙ map_same _ _ field_back _

field_built : (t : Tables) (one : FieldRow) → field_by t (field_head one) ≡ field_in t one
field_built t one = λ i. record (field_in t one) { kind = kind_named one.kind (names_of t one.id) i }

pub fields_built : (t : Tables) (form : ℤ) → map (field_by t) (field_heads_of t form) ≡ fields_of t form
fields_built t form = map-map (field_by t) field_head _ ∙ map_same _ _ (field_built t) _

-- what was made of a form's parts, where nothing was refused
pub made_is : {A E : Type 0} (refused : Option E) (one made : A) → ◌≡◌ {A = Result A E} (Ok made) (option_map_or Err refused (Ok one)) → made ≡ one
made_is None one made h = cc
made_is (Some e) one made h = absurd cc
