-- Which lists of fields make a form, and which texts a form reads as values: the first thing that
-- is wrong, in a fixed order, is the refusal that is told.
use Rattle.std.specs.Prelude.{◌≡◌, ℕ, Bool, false, ◌&&◌, not, nat_le, ◌==◌, List, length, map, find, Option, Some, None, Result, Ok, Err, bytes_eq, if◌then◌else◌}
use Rattle.std.specs.List.{list_all}
use Rattle.std.specs.Option.{option_map_or}
use Rattle.std.specs.Cmp.Lexicographic.{pointwise}
use Rattle.std.proofs.Math.Bool.{beq}
use Rattle.lab_forms.specs.declared.kinds.Kind.{Kind}
use Rattle.lab_forms.specs.declared.forms.Field.{Field}
use Rattle.lab_forms.specs.declared.faults.FormRefusal.{FormRefusal}
use Rattle.lab_forms.specs.declared.faults.FormRefusal.TheVariants.{NoFields, KeyTwice, TooManyFields, BadField, NoSuchField, BadValue, WrongUnit, OutOfRange}
use Rattle.lab_forms_texts.specs.declared.refusals.Fault.{Fault}
use Rattle.lab_forms_texts.specs.declared.refusals.Fault.TheVariants.{Refused, Memory}
use Rattle.lab_forms.specs.Words.{has_text_twice}
use Rattle.lab_forms.specs.Kinds.{is_kind, kind_eq, is_value, unit_of, is_in_range, fits}
use Rattle.lab_forms.specs.declared.forms.TheConstants.{FIELDS_LIMIT}

abbrev pub key_of : Field → List ℕ
key_of field = field.key

-- a field that a form may have: its kind is one that a form may ask for
abbrev pub is_field : Field → Bool
is_field field = is_kind field.kind

-- the most fields of a form
abbrev pub field_limit : ℕ
field_limit = FIELDS_LIMIT

-- at least one field, and no more than the limit, each one that a form may have, no two with one
-- key
unfoldable pub is_form : List Field → Bool
is_form fields =
    nat_le 1 (length fields) && not (has_text_twice (map key_of fields))
    && nat_le (length fields) field_limit && list_all is_field fields

-- the first thing that is wrong with a list of fields, if it makes no form
unfoldable pub form_refusal : List Field → Option FormRefusal
form_refusal fields =
    if length fields == 0 then Some NoFields
    else (if has_text_twice (map key_of fields) then Some KeyTwice
    else (if not (nat_le (length fields) field_limit) then Some TooManyFields
    else (if not (list_all is_field fields) then Some BadField
    else None)))

-- a form: its fields, and whether what it records wants the approval of a third person before it is
-- released
pub record FormSheet : Type 0 where
  pub fields : List Field
  pub approval : Bool

-- what fields and a wish for approval come to
abbrev pub form_made : List Field → Bool → Result FormSheet FormRefusal
form_made fields approval =
    option_map_or Err (form_refusal fields) (Ok (record { fields = fields; approval = approval }))

-- two fields are equal where all that they say is, byte for byte
abbrev pub field_eq : Field → Field → Bool
field_eq one other =
    bytes_eq one.key other.key && bytes_eq one.label other.label && beq one.required other.required
    && kind_eq one.kind other.kind

-- two forms are equal where their fields are, in order, and they want approval alike
abbrev pub form_eq : FormSheet → FormSheet → Bool
form_eq one other = pointwise field_eq one.fields other.fields && beq one.approval other.approval

-- the field of a key
abbrev pub field_of : List Field → List ℕ → Option Field
field_of fields key = find (λ field. bytes_eq field.key key) fields

-- a field has the key, and the text and the unit fit it
unfoldable pub fits_form : List Field → List ℕ → List ℕ → List ℕ → Bool
fits_form fields key text unit =
    option_map_or (λ field. fits field.kind text unit) (field_of fields key) false

-- the first thing that is wrong with a text and a unit at a kind, if they don't fit
abbrev pub kind_refusal : Kind → List ℕ → List ℕ → Option FormRefusal
kind_refusal kind text unit =
    if not (is_value kind text) then Some BadValue
    else (if not (bytes_eq unit (unit_of kind)) then Some WrongUnit
    else (if not (is_in_range kind text) then Some OutOfRange
    else None))

-- the first thing that is wrong with a key, a text and a unit at a form, if they give no value
unfoldable pub value_refusal : List Field → List ℕ → List ℕ → List ℕ → Option FormRefusal
value_refusal fields key text unit =
    option_map_or (λ field. kind_refusal field.kind text unit) (field_of fields key)
    (Some NoSuchField)

-- the fault that a call tells: the first thing that is wrong, and out of memory only where nothing
-- is
abbrev pub IsFirstFault : Option FormRefusal → Fault FormRefusal → Type 0
IsFirstFault first (Refused refusal) = first ≡ Some refusal
IsFirstFault first Memory = first ≡ None
