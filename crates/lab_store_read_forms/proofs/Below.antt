-- What rows lead to is readable where the whole of what they show is.
use Rattle.std.proofs.Common.{◌≡◌, ℕ, ℤ, List, map, find, slice_get, Option, Some, None, option_map, sym, subst, ◌∙◌}
use Rattle.std.specs.Prelude.{All, IfSome, IsSomeAnd}
use Rattle.std.proofs.lemmas.List.Elements.{All-weaker, All-map, All-same}
use Rattle.std.proofs.lemmas.Option.{IfSome_then, same_Some}
use Rattle.sqlite_value.specs.Order.{Row}
use Rattle.sqlite_keyed.specs.Keyed.{get_by}
use Rattle.lab_records_kept.specs.Lookups.{last_of}
use Rattle.lab_store_read.specs.Causes.{HasFirst}
use Rattle.lab_store_tables.specs.Rows.{Tables, form_id}
use Rattle.lab_store_read_records.specs.declared.heads.RecordHead.{RecordHead}
use Rattle.lab_store_read_records.specs.Readable.{HasRecord}
use Rattle.lab_store_read_records.specs.Heads.{is_record, record_head}
use Rattle.lab_store_read_records.specs.Retrieved.{abouts_shown, within_shown}
use Rattle.lab_store_read_records.specs.Shown.{records_shown, record_head_of}
use Rattle.lab_store_read_records.specs.Sought.{is_about, heads_within}
use Rattle.lab_store_read_records.proofs.Found.{record_found}
use Rattle.lab_store_read_records.proofs.RetrievalFound.{about_found, within_found}
use Rattle.lab_store_read_forms.specs.declared.heads.FieldHead.{FieldHead}
use Rattle.lab_store_read_forms.specs.declared.heads.FormHead.{FormHead}
use Rattle.lab_store_read_forms.specs.Private.Forms.{form_head, field_heads_of}
use Rattle.lab_store_read_forms.specs.Kinds.{is_choice}
use Rattle.lab_store_read_forms.specs.Readable.{HasField, HasWholeField, HasNames, HasForm, HasFields, HasWholeForm, HasFormAt, HasParts, HasWholeRecord}
use Rattle.lab_store_read_forms.specs.Shown.{forms_shown, form_read, fields_shown, field_read}
use Rattle.lab_store_read_forms.proofs.FormsFound.{form_found, fields_found}

-- ---- what is read of a row, if there is one

below : {X Y : Type 0} (f : X → Y) (P : X → Type 0) (Q : Y → Type 0) → ((x : X) → P x → Q (f x)) → (o : Option X) → IfSome o P → IfSome (option_map f o) Q
below f P Q leads None has = tt
below f P Q leads (Some x) has = leads x has

-- of the row that is found first
pub first_below : {X : Type 0} (f : Row → X) (P : Row → Type 0) (Q : X → Type 0) → ((row : Row) → P row → Q (f row)) → (o : Option Row) (head : Option X)
    → head ≡ option_map f o → IfSome o P → IfSome head Q
first_below f P Q leads o head is has = subst (λ h. IfSome h Q) (sym is) (below f P Q leads o has)

-- the own row of the first
pub first_own : (P Q : Row → Type 0) → ((row : Row) → P row → Q row) → (rows : List Row) → HasFirst P rows → HasFirst Q rows
first_own P Q own rows has = IfSome_then (slice_get rows 0) has own

-- and of the last one
abbrev pub HasLast : (Row → Type 0) → List Row → Type 0
HasLast Has rows = IfSome (last_of rows) Has

pub last_own : (P Q : Row → Type 0) → ((row : Row) → P row → Q row) → (rows : List Row) → HasLast P rows → HasLast Q rows
last_own P Q own rows has = IfSome_then (last_of rows) has own

-- ---- the fields of a version of a form

pub own_fields : (t : Tables) (form : ℤ) → All (HasWholeField t) (fields_shown t form) → All HasField (fields_shown t form)
own_fields t form all = All-weaker (HasWholeField t) HasField (λ row has. has.own) (fields_shown t form) all

abbrev pub HasItsNames : Tables → FieldHead → Type 0
HasItsNames t head = HasNames t head.id (is_choice head.kind)

pub names_below : (t : Tables) (form : ℤ) (heads : List FieldHead) → heads ≡ field_heads_of t form
    → All (HasWholeField t) (fields_shown t form) → All (HasItsNames t) heads
names_below t form heads given all =
    All-same (HasItsNames t) heads (map field_read (fields_shown t form)) (given ∙ sym (fields_found t form))
    (All-map (HasItsNames t) field_read (fields_shown t form)
    (All-weaker (HasWholeField t) (λ (row : Row). HasItsNames t (field_read row)) (λ row has. has.names) (fields_shown t form) all))

-- ---- the version of a form with an id

module _ (t : Tables) where
  own : (o : Option Row) → IsSomeAnd o (HasWholeForm t) → IfSome o HasForm
  own None has = tt
  own (Some row) has = has.own

  there : (o : Option Row) → IsSomeAnd o (HasWholeForm t) → ¬ (option_map form_read o ≡ None)
  there None has none = absurd has
  there (Some row) has none = absurd cc

  fields_of_it : (o : Option Row) (head : FormHead) → IsSomeAnd o (HasWholeForm t) → option_map form_read o ≡ Some head → HasFields t head.id
  fields_of_it None head has is = absurd has
  fields_of_it (Some row) head has is = subst (λ (h : FormHead). HasFields t h.id) (same_Some (form_read row) head is) has.fields

  module _ (id : ℤ) (has : HasFormAt t id) where
    pub form_own : HasFirst HasForm (forms_shown t id)
    form_own = own (slice_get (forms_shown t id) 0) has

    pub form_there : ¬ (option_map form_head (get_by form_id t.forms id) ≡ None)
    form_there none = there (slice_get (forms_shown t id) 0) has (form_found t id ∙ none)

    pub form_below : (head : FormHead) → option_map form_head (get_by form_id t.forms id) ≡ Some head → HasFields t head.id
    form_below head is = fields_of_it (slice_get (forms_shown t id) 0) head has (form_found t id ∙ is)

  -- ---- records

  module _ (lab : ℤ) where
    pub numbered_below : (number : ℕ) (head : Option RecordHead) → head ≡ option_map record_head (find (is_record lab number) t.records)
        → HasFirst (HasWholeRecord t) (records_shown t lab number) → IfSome head (HasParts t)
    numbered_below number head is has =
        first_below record_head_of (HasWholeRecord t) (HasParts t) (λ row whole. whole.parts) (slice_get (records_shown t lab number) 0) head
        (is ∙ sym (record_found t lab number)) has

    pub about_below : (form sample : List ℕ) (head : Option RecordHead) → head ≡ option_map record_head (find (is_about lab form sample) t.records)
        → HasFirst (HasWholeRecord t) (abouts_shown t lab form sample) → IfSome head (HasParts t)
    about_below form sample head is has =
        first_below record_head_of (HasWholeRecord t) (HasParts t) (λ row whole. whole.parts) (slice_get (abouts_shown t lab form sample) 0) head
        (is ∙ sym (about_found t lab form sample)) has

    pub own_records : (from to : ℕ) → All (HasWholeRecord t) (within_shown t lab from to) → All HasRecord (within_shown t lab from to)
    own_records from to all = All-weaker (HasWholeRecord t) HasRecord (λ row has. has.own) (within_shown t lab from to) all

    pub within_below : (from to : ℕ) (heads : List RecordHead) → heads ≡ heads_within t lab from to
        → All (HasWholeRecord t) (within_shown t lab from to) → All (HasParts t) heads
    within_below from to heads given all =
        All-same (HasParts t) heads (map record_head_of (within_shown t lab from to)) (given ∙ sym (within_found t lab from to))
        (All-map (HasParts t) record_head_of (within_shown t lab from to)
        (All-weaker (HasWholeRecord t) (λ (row : Row). HasParts t (record_head_of row)) (λ row has. has.parts) (within_shown t lab from to) all))
