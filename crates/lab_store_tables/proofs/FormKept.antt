-- A version of a form more, with its fields and their choices: the tables stay well kept.
use Rattle.std.proofs.Common.{◌≡◌, ◌≤◌, ℕ, ◌+◌, ℤ, true, false, ◌&&◌, ◌==◌, List, [], ◌∷◌, filter, length, reverse, Option, Some, None, refl, sym, ap, subst, ◌∙◌, arith, int_eq, bytes_eq}
use Rattle.std.specs.Prelude.{codes}
use Rattle.std.specs.List.{AllByRecursion}
use Rattle.std.specs.Option.{option_map_or}
use Rattle.std.proofs.lemmas.Bool.{and_parts, and_from}
use Rattle.sqlite_rules.proofs.ListLemmas.{all_has, has_found}
use Rattle.sqlite_keyed.specs.Keyed.{get_by, insert_by}
use Rattle.sqlite_keyed.specs.Rules.{AreApart}
use Rattle.sqlite_keyed.proofs.ListLemmas.{all_of, all_weaker}
use Rattle.sqlite_keyed.proofs.KeyedLemmas.{same_int}
use Rattle.lab_forms.specs.declared.forms.Field.{Field}
use Rattle.lab_forms.specs.declared.kinds.Kind.{Kind}
use Rattle.lab_forms.specs.declared.kinds.Kind.TheVariants.{Number, Text, Choice, Date, YesNo}
use Rattle.lab_records_kept.specs.declared.records.FormVersion.{FormVersion}
use Rattle.lab_records_kept.specs.declared.changes.Change.TheVariants.{FormAdded}
use Rattle.lab_records_kept.specs.Lookups.{is_version_of, last_form, next_form_version}
use Rattle.lab_records_kept.specs.Changes.{ChangesFit}
use Rattle.lab_store_tables.specs.Rows.{FormRow, FieldRow, Tables, form_id, field_id}
use Rattle.lab_store_tables.specs.Columns.{kind_columns, kind_names}
use Rattle.lab_store_tables.specs.Meaning.{meaning, form_in, by_form, forms_of}
use Rattle.lab_store_tables.specs.WellKept.{same_code, same_form, AreWellKept}
use Rattle.lab_store_tables.specs.Family.{Forms, Fields, Choices}
use Rattle.lab_store_tables.specs.Changes.{IsFree, InTurn, choice_row_of, AddsChoice, field_row_of, put_field, AddsField, form_row_of, put_form, Applies}
use Rattle.lab_store_tables.proofs.Bridges.{apart_from_test}
use Rattle.lab_store_tables.proofs.ColumnsBack.{kind_spelled}
use Rattle.lab_store_tables.proofs.LabLaws.{alike}
use Rattle.lab_store_tables.specs.ByRules.{IsByRules}
use Rattle.lab_store_tables.proofs.Kept.{is_numbered, number_of, AreAllKept, rows_kept, all_kept, well_kept}
use Rattle.lab_store_tables.proofs.PutRows.{within_to, new_found}
use Rattle.lab_store_tables.proofs.NextNumber.{next_number}
use Rattle.lab_store_tables.proofs.Ids.{own_keys}
use Rattle.lab_store_tables.proofs.Puts.{put_kept}
use Rattle.lab_store_tables.proofs.Shown.{IsShown, all_shown, all_reversed, fits_here}
use Rattle.lab_store_tables.proofs.Turns.{turns_leave, turns_keep}
use Rattle.lab_store_tables.proofs.Comparing.{text_is, text_alike}

-- ---- choices, of a field that has some

-- the field of the id is one of choices
abbrev pub IsOfChoices : ℤ → Tables → Type 0
IsOfChoices id t = option_map_or (λ (field : FieldRow). bytes_eq field.kind.word (codes "choice")) (get_by field_id t.fields id) false ≡ true

abbrev pub HasChoices : ℤ → Tables → Type 0
HasChoices id t = IsOfChoices id t × AreAllKept t

choice_more : (field : ℤ) (name : List ℕ) (old new : Tables) → AddsChoice field name old new → HasChoices field old → HasChoices field new
choice_more field name old new it held =
    subst (HasChoices field) (sym it.made) (
      held.0,
      record {
        rows = put_kept Choices old (choice_row_of old field it.id name) it.free held.0 refl held.1.rows;
        counters = held.1.counters;
        currents = held.1.currents;
      },
    )

-- ---- fields

-- only a kind of choices has names
names_of_choice : (kind : Kind) → AllByRecursion (λ (name : List ℕ). bytes_eq (kind_columns kind).word (codes "choice") ≡ true) (kind_names kind)
names_of_choice (Number unit decimals low high) = tt
names_of_choice (Text size) = tt
names_of_choice (Choice names) = all_of (λ (name : List ℕ). bytes_eq (codes "choice") (codes "choice") ≡ true) (λ name. refl) names
names_of_choice Date = tt
names_of_choice YesNo = tt

-- so choices are added to a field of choices, or none
choices_more : (field : ℤ) (names : List (List ℕ)) (old new : Tables) → InTurn (AddsChoice field) names old new
    → AllByRecursion (λ (name : List ℕ). IsOfChoices field old) names → AreAllKept old → AreAllKept new
choices_more field [] old new turns told kept = subst AreAllKept (sym turns) kept
choices_more field (name ∷ others) old new turns told kept =
    (turns_keep (AddsChoice field) (HasChoices field) (choice_more field) (name ∷ others) old new turns (told.0, kept)).1

module _ (form : ℤ) (field : Field) (old : Tables) (id : ℤ) (free : IsFree field_id old.fields id) where
  abbrev new_field : FieldRow
  new_field = field_row_of old form id field

  abbrev with_field : Tables
  with_field = put_field new_field old

  with_field_kept : AreAllKept old → AreAllKept with_field
  with_field_kept kept = record {
    rows = put_kept Fields old new_field free (kind_spelled field.kind) refl kept.rows;
    counters = kept.counters;
    currents = kept.currents;
  }

  of_choices : AllByRecursion (λ (name : List ℕ). IsOfChoices id with_field) (kind_names field.kind)
  of_choices =
      all_weaker (λ (name : List ℕ). bytes_eq (kind_columns field.kind).word (codes "choice") ≡ true) (λ (name : List ℕ). IsOfChoices id with_field)
      (λ name h. ap (λ o. option_map_or (λ (x : FieldRow). bytes_eq x.kind.word (codes "choice")) o false) (new_found field_id new_field old.fields free) ∙ h)
      (kind_names field.kind) (names_of_choice field.kind)

field_more : (form : ℤ) (field : Field) (old new : Tables) → AddsField form field old new → AreAllKept old → AreAllKept new
field_more form field old new it kept =
    choices_more it.id (kind_names field.kind) (put_field (field_row_of old form it.id field) old) new it.choices (of_choices form field old it.id it.free)
    (with_field_kept form field old it.id it.free kept)

-- no field and no choice touches the forms
choices_leave : (field : ℤ) (name : List ℕ) (old new : Tables) → AddsChoice field name old new → new.forms ≡ old.forms
choices_leave field name old new it = ap (λ (t : Tables). t.forms) it.made

fields_leave : (form : ℤ) (field : Field) (old new : Tables) → AddsField form field old new → new.forms ≡ old.forms
fields_leave form field old new it =
    turns_leave (AddsChoice it.id) (λ (t : Tables). t.forms) (choices_leave it.id) (kind_names field.kind)
    (put_field (field_row_of old form it.id field) old) new it.choices

-- ---- the version's own row

-- the rows of a code are those of the code of any of them
code_alike : (rows : List FormRow) (one other : FormRow) → same_code one other ≡ true
    → length (filter (same_code other) rows) ≡ length (filter (same_code one) rows)
code_alike rows one other same =
    let both = and_parts (int_eq one.lab other.lab) (bytes_eq one.code other.code) same in
    let lab : one.lab ≡ other.lab = same_int one.lab other.lab both.0 in
    let code : one.code ≡ other.code = text_is one.code other.code both.1 in
    let there : length (filter (same_code one) rows) ≡ length (filter (same_code other) rows) =
    λ i. length (filter (λ (x : FormRow). int_eq (lab i) x.lab && bytes_eq (code i) x.code) rows) in
    sym there

-- two versions of one form that have one number clash
codes_clash : (row one other : FormRow) → same_code row one ≡ true → same_code row other ≡ true → (one.version == other.version) ≡ true
    → same_form one other ≡ true
codes_clash row one other own beside number =
    let first = and_parts (int_eq row.lab one.lab) (bytes_eq row.code one.code) own in
    let second = and_parts (int_eq row.lab other.lab) (bytes_eq row.code other.code) beside in
    let lab : one.lab ≡ other.lab = sym (same_int row.lab one.lab first.0) ∙ same_int row.lab other.lab second.0 in
    let code : one.code ≡ other.code = sym (text_is row.code one.code first.1) ∙ text_is row.code other.code second.1 in
    and_from (same_code one other) (one.version == other.version)
    (and_from (int_eq one.lab other.lab) (bytes_eq one.code other.code) (alike one.lab other.lab lab) (text_alike one.code other.code code)) number

module _ (t : Tables) (well : AreWellKept t) (lab : ℤ) (form : FormVersion) (id : ℤ) (free : IsFree form_id t.forms id) where
  abbrev new_form : FormRow
  new_form = form_row_of lab id form

  new_self : same_code new_form new_form ≡ true
  new_self = and_from (int_eq lab lab) (bytes_eq form.code form.code) (alike lab lab refl) (text_alike form.code form.code refl)

  -- the last version has a number that some row of the form has
  last_within : (last : FormVersion) → last_form (forms_of t lab) form.code ≡ Some last → last.version ≤ length (filter (same_code new_form) t.forms)
  last_within last found =
      let has = has_found (is_version_of form.code) (reverse (forms_of t lab)) last found in
      let it = all_has (IsShown (form_in t) (λ (one : FormRow). int_eq one.lab lab) t.forms) (reverse (forms_of t lab)) last
      (all_reversed (IsShown (form_in t) (λ (one : FormRow). int_eq one.lab lab) t.forms) (forms_of t lab)
      (all_shown by_form (form_in t) (λ (one : FormRow). int_eq one.lab lab) t.forms)) has.0 in
      let beside : it.0.lab ≡ lab = same_int it.0.lab lab it.2 in
      let code : it.0.code ≡ form.code = sym (ap (λ (x : FormVersion). x.code) it.3) ∙ text_is last.code form.code has.1 in
      let same : same_code new_form it.0 ≡ true = and_from (int_eq lab it.0.lab) (bytes_eq form.code it.0.code) (alike lab it.0.lab (sym beside))
      (text_alike form.code it.0.code (sym code)) in
      let numbered = all_has (λ (one : FormRow). is_numbered same_code (number_of Forms) t.forms one ≡ true) t.forms it.0 ((rows_kept t well).at Forms).1 it.1 in
      let most = (within_to it.0.version (length (filter (same_code it.0) t.forms)) numbered).1 in
      let number : last.version ≡ it.0.version = ap (λ (x : FormVersion). x.version) it.3 in
      let count = code_alike t.forms new_form it.0 same in
      omega (arith, most, number, count)

  -- so the next one lies from 1 to one more than there are
  next_within : (last : Option FormVersion) → last_form (forms_of t lab) form.code ≡ last → form.version ≡ next_form_version last
      → (1 ≤ form.version) × (form.version ≤ length (filter (same_code new_form) t.forms) + 1)
  next_within None found next = let first : form.version ≡ 1 = next in (omega (arith, first), omega (arith, first))
  next_within (Some last) found next =
      let more : form.version ≡ last.version + 1 = next in let most = last_within last found in (omega (arith, more), omega (arith, more, most))

  new_number : AreApart same_form (insert_by form_id t.forms new_form) → form.version ≡ next_form_version (last_form (forms_of t lab) form.code)
      → form.version ≡ length (filter (same_code new_form) t.forms) + 1
  new_number apart next =
      let within = next_within (last_form (forms_of t lab) form.code) refl next in
      next_number form_id same_code same_form (number_of Forms) t.forms new_form free new_self ((rows_kept t well).at Forms).1 (code_alike t.forms new_form) apart
      (codes_clash new_form) within.0 within.1

  with_form_kept : form.version ≡ length (filter (same_code new_form) t.forms) + 1 → AreAllKept (put_form new_form t)
  with_form_kept next =
      let kept = all_kept t well in record {
        rows = put_kept Forms t new_form free tt next kept.rows;
        counters = kept.counters;
        currents = kept.currents;
      }

-- under the next number of its code
pub form_numbered_keeps : {old new : Tables} {code : List ℕ} {form : FormVersion} → AreWellKept old → IsByRules new
    → (it : Applies code (FormAdded form) old new) → form.version ≡ next_form_version (last_form (forms_of old it.lab.id) form.code) → AreWellKept new
form_numbered_keeps {old} {new} {code} {form} well rules it number =
    let row = form_row_of it.lab.id it.made.id form in
    let forms = turns_leave (AddsField it.made.id) (λ (t : Tables). t.forms) (fields_leave it.made.id) form.form.fields (put_form row old) new it.made.fields in
    let apart = subst (AreApart same_form) forms (apart_from_test same_form new.forms (own_keys new rules.keys).forms) in
    let next = new_number old well it.lab.id form it.made.id it.made.free apart number in
    let kept = turns_keep (AddsField it.made.id) AreAllKept (field_more it.made.id) form.form.fields (put_form row old) new it.made.fields
    (with_form_kept old well it.lab.id form it.made.id it.made.free next) in
    well_kept new rules kept

pub form_added_keeps : {old new : Tables} {code : List ℕ} {form : FormVersion} → AreWellKept old → IsByRules new
    → ChangesFit (meaning old code) (FormAdded form ∷ [])
    → Applies code (FormAdded form) old new → AreWellKept new
form_added_keeps {old} {new} {code} {form} well rules fit it =
    form_numbered_keeps well rules it (fits_here old code it.lab (FormAdded form) it.found fit).0
