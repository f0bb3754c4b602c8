-- Forms, as JSON. A field has the members by which a form is asked for.
use Rattle.std.specs.Prelude.{ℕ, List, [], ◌∷◌, map, codes, Option, Some, None}
use Rattle.serde_json.specs.Data.{Data, object, string, boolean, Members, put}
use Rattle.lab_forms.specs.declared.kinds.Kind.{Kind}
use Rattle.lab_forms.specs.declared.kinds.Kind.TheVariants.{Number, Text, Choice, Date, YesNo}
use Rattle.lab_forms.specs.declared.forms.Field.{Field}
use Rattle.lab_forms.specs.Kinds.{kind_word}
use Rattle.lab_records_kept.specs.declared.records.FormVersion.{FormVersion}
use Rattle.lab_wire_replies.specs.Parts.{members_from, object_from, list_from, texts_data, whole}

-- the version of a form that was made
abbrev pub form_made_data : List ℕ → ℕ → Data
form_made_data code version =
    object_from ((codes "form", string code) ∷ (codes "version", whole version) ∷ [])

-- members, and a bound where it is there
abbrev pub with_bound : List ℕ → Option (List ℕ) → Members → Members
with_bound name None members = members
with_bound name (Some bound) members = put name (string bound) members

-- members, and what a kind has beside its word
abbrev pub with_kind : Kind → Members → Members
with_kind (Number unit decimals min max) members =
    with_bound (codes "max") max
    (with_bound (codes "min") min
    (put (codes "decimals") (whole decimals)
    (put (codes "unit") (string unit) members)))
with_kind (Text size) members = put (codes "size") (whole size) members
with_kind (Choice choices) members = put (codes "choices") (texts_data choices) members
with_kind Date members = members
with_kind YesNo members = members

-- what every field has
abbrev pub field_members : Field → Members
field_members field =
    members_from (
    (codes "key", string field.key)
    ∷ (codes "kind", string (kind_word field.kind))
    ∷ (codes "label", string field.label)
    ∷ (codes "required", boolean field.required)
    ∷ []
    )

-- a field
abbrev pub field_data : Field → Data
field_data field = object (with_kind field.kind (field_members field))

-- a version of a form, its fields in their order
abbrev pub form_data : FormVersion → Data
form_data form =
    object_from (
    (codes "approval", boolean form.form.approval)
    ∷ (codes "form", string form.code)
    ∷ (codes "version", whole form.version)
    ∷ (codes "fields", list_from (map field_data form.form.fields))
    ∷ []
    )
