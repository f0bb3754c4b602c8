-- The fields of a form that is added, and the choices of each field, one after the other: the form has its fields as they were
-- written, each with its choices, and no other form's fields change.
use Rattle.std.proofs.Common.{◌≡◌, ℕ, ℤ, true, false, List, [], ◌∷◌, ◌++◌, map, filter, refl, sym, ap, subst, ◌∙◌, int_eq, append_assoc, append-nil}
use Rattle.std.specs.List.{AllByRecursion}
use Rattle.sqlite_rules.specs.Lists.{Has}
use Rattle.sqlite_keyed.specs.Keyed.{IsKeyedBy, has_key, insert_by}
use Rattle.sqlite_keyed.specs.Lists.{sort_by}
use Rattle.sqlite_keyed.proofs.ListLemmas.{all_weaker}
use Rattle.sqlite_keyed.proofs.KeyedLemmas.{all-insert_by, has_key-insert_by, IsKeyedBy-insert_by}
use Rattle.lab_forms.specs.declared.forms.Field.{Field}
use Rattle.lab_store_tables.specs.Rows.{FieldRow, ChoiceRow, Tables, field_id, choice_id}
use Rattle.lab_store_tables.specs.Columns.{kind_in, kind_columns, kind_names}
use Rattle.lab_store_tables.specs.Meaning.{by_choice, by_field}
use Rattle.lab_store_tables.specs.Changes.{InTurn, choice_row_of, AddsChoice, field_row_of, AddsField}
use Rattle.lab_store_tables.proofs.ColumnsBack.{kind_back}
use Rattle.lab_store_tables.proofs.SortLaws.{total_on}
use Rattle.lab_store_tables.proofs.LevelLaws.{had_by, other_has}
use Rattle.lab_store_tables.proofs.OneRow.{turned, has_own_key, not_free, had_same, no_rows}
use Rattle.lab_store_tables.proofs.PlacedLaws.{ArePlaced, none_placed, has_put, placed_more, had_last}

abbrev field_of : ChoiceRow → ℤ
field_of one = one.field

abbrev choice_place : ChoiceRow → ℕ
choice_place one = one.place

abbrev name_of : ChoiceRow → List ℕ
name_of one = one.name

abbrev form_of : FieldRow → ℤ
form_of one = one.form

abbrev field_place : FieldRow → ℕ
field_place one = one.place

-- the names that a field has among the choices, as a field and the fields of a form are read with them
abbrev pub names_in : List ChoiceRow → ℤ → List (List ℕ)
names_in choices field = had_by (λ (one : ChoiceRow). one.field) by_choice (λ (one : ChoiceRow). one.name) choices field

abbrev pub field_by : List ChoiceRow → FieldRow → Field
field_by choices row = record {
  key = row.key;
  label = row.label;
  required = row.required;
  kind = kind_in row.kind (names_in choices row.id);
}

abbrev pub fields_in : List FieldRow → List ChoiceRow → ℤ → List Field
fields_in fields choices form = had_by (λ (one : FieldRow). one.form) by_field (field_by choices) fields form

-- each choice is one of a field that is there
abbrev pub AreOfFields : List FieldRow → List ChoiceRow → Type 0
AreOfFields fields choices = AllByRecursion (λ (one : ChoiceRow). has_key field_id fields one.field ≡ true) choices

-- ---- choices of one field

-- choices, before and after names were added under a field
pub record AreNamed (field : ℤ) (names : List (List ℕ)) (fields : List FieldRow) (old new : List ChoiceRow) : Type 0 where
  pub rise : IsKeyedBy choice_id new
  pub known : AreOfFields fields new
  pub own : names_in new field ≡ names_in old field ++ names
  pub others : (other : ℤ) → int_eq other field ≡ false → names_in new other ≡ names_in old other

-- one name more, and then others
module _ (t : Tables) (field : ℤ) (name : List ℕ) (names : List (List ℕ)) (choices : List ChoiceRow)
    (there : has_key field_id t.fields field ≡ true) (rise : IsKeyedBy choice_id choices)
    (placed : ArePlaced (λ (one : ChoiceRow). one.field) (λ (one : ChoiceRow). one.place) field choices) (known : AreOfFields t.fields choices)
    (id : ℤ) (free : has_key choice_id choices id ≡ false) where
  abbrev new_choice : ChoiceRow
  new_choice = choice_row_of (record t { choices = choices }) field id name

  abbrev more_choices : List ChoiceRow
  more_choices = insert_by choice_id choices (choice_row_of (record t { choices = choices }) field id name)

  choice_rises : IsKeyedBy choice_id more_choices
  choice_rises = IsKeyedBy-insert_by choice_id choices new_choice rise

  choice_placed : ArePlaced (λ (one : ChoiceRow). one.field) (λ (one : ChoiceRow). one.place) field more_choices
  choice_placed = placed_more choice_id field_of choice_place field choices rise new_choice free refl refl placed

  choice_known : AreOfFields t.fields more_choices
  choice_known = all-insert_by choice_id (λ (one : ChoiceRow). has_key field_id t.fields one.field ≡ true) choices new_choice there known

  name_last : names_in more_choices field ≡ names_in choices field ++ name ∷ []
  name_last = had_last choice_id field_of choice_place field choices rise new_choice free refl refl placed name_of

  not_named : (other : ℤ) → int_eq other field ≡ false → names_in more_choices other ≡ names_in choices other
  not_named other apart = other_has choice_id field_of by_choice (total_on choice_place) name_of choices rise new_choice free other (turned other field apart)

  then_named : (new : List ChoiceRow) → AreNamed field names t.fields more_choices new → AreNamed field (name ∷ names) t.fields choices new
  then_named new later = record {
    rise = later.rise;
    known = later.known;
    own = later.own ∙ ap (λ list. list ++ names) name_last ∙ append_assoc (names_in choices field) (name ∷ []) names;
    others = λ other apart. later.others other apart ∙ not_named other apart;
  }

pub names_in_turn : (t : Tables) (field : ℤ) (names : List (List ℕ)) (choices : List ChoiceRow) (new : Tables)
    → has_key field_id t.fields field ≡ true → IsKeyedBy choice_id choices
    → ArePlaced (λ (one : ChoiceRow). one.field) (λ (one : ChoiceRow). one.place) field choices → AreOfFields t.fields choices
    → InTurn (AddsChoice field) names (record t { choices = choices }) new
    → (all : List ChoiceRow) × (new ≡ record t { choices = all }) × AreNamed field names t.fields choices all
names_in_turn t field [] choices new there rise placed known it = (
  choices,
  it,
  record {
    rise = rise;
    known = known;
    own = sym (append-nil (names_in choices field));
    others = λ other apart. refl;
  },
)
names_in_turn t field (name ∷ names) choices new there rise placed known it =
    let id = it.1.id in
    let free = it.1.free in
    let later =
    names_in_turn t field names (insert_by choice_id choices (choice_row_of (record t { choices = choices }) field id name)) new there
    (choice_rises t field name names choices there rise placed known id free) (choice_placed t field name names choices there rise placed known id free)
    (choice_known t field name names choices there rise placed known id free)
    (subst (λ middle. InTurn (AddsChoice field) names middle new) it.1.made it.2) in
    (later.0, later.1, then_named t field name names choices there rise placed known id free later.0 later.2)

-- ---- fields of one form

-- fields and choices, before and after a form's fields were added
pub record AreFielded (form : ℤ) (sheet : List Field) (fields : List FieldRow) (choices : List ChoiceRow) (new_fields : List FieldRow)
    (new_choices : List ChoiceRow) : Type 0 where
  pub own : fields_in new_fields new_choices form ≡ fields_in fields choices form ++ sheet
  pub others : (other : ℤ) → int_eq other form ≡ false → fields_in new_fields new_choices other ≡ fields_in fields choices other

-- one field more with its choices, and then others
module _ (t : Tables) (form : ℤ) (field : Field) (sheet : List Field) (fields : List FieldRow) (choices : List ChoiceRow)
    (rise : IsKeyedBy field_id fields) (placed : ArePlaced (λ (one : FieldRow). one.form) (λ (one : FieldRow). one.place) form fields)
    (known : AreOfFields fields choices) (id : ℤ) (free : has_key field_id fields id ≡ false) where
  abbrev new_field : FieldRow
  new_field = field_row_of (record t { fields = fields; choices = choices }) form id field

  abbrev more_fields : List FieldRow
  more_fields = insert_by field_id fields (field_row_of (record t { fields = fields; choices = choices }) form id field)

  field_rises : IsKeyedBy field_id more_fields
  field_rises = IsKeyedBy-insert_by field_id fields new_field rise

  field_placed : ArePlaced (λ (one : FieldRow). one.form) (λ (one : FieldRow). one.place) form more_fields
  field_placed = placed_more field_id form_of field_place form fields rise new_field free refl refl placed

  field_there : has_key field_id more_fields id ≡ true
  field_there = has_put field_id fields new_field

  known_more : AreOfFields more_fields choices
  known_more =
      all_weaker (λ (one : ChoiceRow). has_key field_id fields one.field ≡ true) (λ (one : ChoiceRow). has_key field_id more_fields one.field ≡ true)
      (λ one has. has_key-insert_by field_id fields new_field one.field has) choices known

  -- the new field has no choices yet
  no_choices : filter (λ (one : ChoiceRow). int_eq one.field id) choices ≡ []
  no_choices = no_rows field_of field_id fields id free choices known

  choices_placed : ArePlaced (λ (one : ChoiceRow). one.field) (λ (one : ChoiceRow). one.place) id choices
  choices_placed = none_placed field_of choice_place id choices no_choices

  module _ (named : List ChoiceRow) (are : AreNamed id (kind_names field.kind) more_fields choices named) where
    field_back : field_by named new_field ≡ field
    field_back = λ i. record field { kind = (ap (kind_in (kind_columns field.kind)) names ∙ kind_back field.kind) i }
      where
        names : names_in named id ≡ kind_names field.kind
        names = are.own ∙ ap (λ list. map name_of (sort_by by_choice list) ++ kind_names field.kind) no_choices

    -- other fields have the choices that they had
    field_alike : (one : FieldRow) → Has fields one → field_by named one ≡ field_by choices one
    field_alike one has = λ i. record (field_by choices one) {
      kind = kind_in one.kind (are.others one.id (turned id one.id (not_free field_id fields id one.id free (has_own_key field_id fields one has))) i);
    }

    fields_alike : (other : ℤ) → fields_in fields named other ≡ fields_in fields choices other
    fields_alike other = had_same form_of by_field (field_by named) (field_by choices) fields other (λ one has here. field_alike one has)

    field_last : fields_in more_fields named form ≡ fields_in fields choices form ++ field ∷ []
    field_last =
        had_last field_id form_of field_place form fields rise new_field free refl refl placed (field_by named)
        ∙ ap (λ list. list ++ field_by named new_field ∷ []) (fields_alike form) ∙ ap (λ one. fields_in fields choices form ++ one ∷ []) field_back

    not_fielded : (other : ℤ) → int_eq other form ≡ false → fields_in more_fields named other ≡ fields_in fields choices other
    not_fielded other apart =
        other_has field_id form_of by_field (total_on field_place) (field_by named) fields rise new_field free other (turned other form apart)
        ∙ fields_alike other

    then_fielded : (new_fields : List FieldRow) (new_choices : List ChoiceRow) → AreFielded form sheet more_fields named new_fields new_choices
        → AreFielded form (field ∷ sheet) fields choices new_fields new_choices
    then_fielded new_fields new_choices later = record {
      own = later.own ∙ ap (λ list. list ++ sheet) field_last ∙ append_assoc (fields_in fields choices form) (field ∷ []) sheet;
      others = λ other apart. later.others other apart ∙ not_fielded other apart;
    }

pub fields_in_turn : (t : Tables) (form : ℤ) (sheet : List Field) (fields : List FieldRow) (choices : List ChoiceRow) (new : Tables)
    → IsKeyedBy field_id fields → IsKeyedBy choice_id choices
    → ArePlaced (λ (one : FieldRow). one.form) (λ (one : FieldRow). one.place) form fields → AreOfFields fields choices
    → InTurn (AddsField form) sheet (record t { fields = fields; choices = choices }) new
    → (all_fields : List FieldRow) × (all_choices : List ChoiceRow) × (new ≡ record t { fields = all_fields; choices = all_choices })
    × AreFielded form sheet fields choices all_fields all_choices
fields_in_turn t form [] fields choices new rise choices_rise placed known it = (
  fields,
  choices,
  it,
  record {
    own = sym (append-nil (fields_in fields choices form));
    others = λ other apart. refl;
  },
)
fields_in_turn t form (field ∷ sheet) fields choices new rise choices_rise placed known it =
    let id = it.1.id in
    let free = it.1.free in
    let row = field_row_of (record t { fields = fields; choices = choices }) form id field in
    let more = insert_by field_id fields row in
    let named =
    names_in_turn (record t { fields = more; choices = choices }) id (kind_names field.kind) choices it.0
    (field_there t form field sheet fields choices rise placed known id free) choices_rise
    (choices_placed t form field sheet fields choices rise placed known id free) (known_more t form field sheet fields choices rise placed known id free)
    it.1.choices in
    let later =
    fields_in_turn t form sheet more named.0 new (field_rises t form field sheet fields choices rise placed known id free) named.2.rise
    (field_placed t form field sheet fields choices rise placed known id free) named.2.known
    (subst (λ middle. InTurn (AddsField form) sheet middle new) named.1 it.2) in
    (later.0, later.1, later.2, then_fielded t form field sheet fields choices rise placed known id free named.0 named.2 later.0 later.1 later.3)
