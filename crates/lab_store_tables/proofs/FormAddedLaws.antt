-- A version of a form more, with its fields and choices: the laboratory has it behind the versions of its code and before the first of
-- a later one, with its fields as they were written; every other form, and each record's, is what it was, and no other laboratory
-- sees it.
use Rattle.std.proofs.Common.{◌≡◌, ◌<◌, ℕ, ℤ, Bool, true, false, not, cond, List, [], ◌∷◌, ◌++◌, map, filter, find, Option, Some, None, option_map, unwrap_or, refl, sym, ap, ap₂, subst, ◌∙◌, int_eq, bytes_eq, is_eq, is_gt, Ordering, Less, Equal, Greater}
use Rattle.std.specs.Cmp.Lexicographic.{slice_cmp}
use Rattle.std.specs.Ordering.{nat_cmp, ordering_then, match_ordering}
use Rattle.std.specs.List.{AllByRecursion, insert, position_or_len}
use Rattle.std.proofs.lemmas.Map.Text.{is_eq-slice_cmp}
use Rattle.sqlite_rules.specs.Lists.{Has}
use Rattle.sqlite_rules.proofs.ListLemmas.{test_has, has_found}
use Rattle.sqlite_keyed.specs.Keyed.{get_by, has_key, insert_by}
use Rattle.sqlite_keyed.specs.Lists.{sort_by}
use Rattle.sqlite_keyed.specs.Rules.{has_parent}
use Rattle.sqlite_keyed.proofs.ListLemmas.{all_weaker, all_from_test}
use Rattle.sqlite_keyed.proofs.KeyedLemmas.{same_int}
use Rattle.lab_records_kept.specs.declared.changes.Change.TheVariants.{FormAdded}
use Rattle.lab_records_kept.specs.declared.records.FormVersion.{FormVersion}
use Rattle.lab_records_kept.specs.declared.records.Record.{Record}
use Rattle.lab_records_kept.specs.Lookups.{last_form, next_form_version}
use Rattle.lab_records_kept.specs.Lookups.{comes_before}
use Rattle.lab_records_kept.specs.Changes.{added_form, change, ChangesFit}
use Rattle.lab_records_keeper.specs.Worlds.{Changes}
use Rattle.lab_store_tables.specs.Rows.{LabRow, FormRow, FieldRow, ChoiceRow, RecordRow, Tables, lab_id, form_id, field_id}
use Rattle.lab_store_tables.specs.Meaning.{lab_in, has_code, meaning, by_field, form_in, by_form, forms_of, form_at, leaves_of, chained, cover_in, record_in, by_record, records_of}
use Rattle.lab_store_tables.specs.WellKept.{have_own_ids, AreWellKept}
use Rattle.lab_store_tables.specs.Changes.{IsFree, form_row_of, put_form, Applies}
use Rattle.lab_store_tables.specs.Held.{AreRising}
use Rattle.lab_store_tables.specs.Family.{Forms, Fields, Choices}
use Rattle.lab_store_tables.proofs.LevelLaws.{had_by, other_has, own_has, placed_among}
use Rattle.lab_store_tables.proofs.LabLaws.{alike, rows_changed}
use Rattle.lab_store_tables.proofs.Premises.{own_by_tests, AreWhole, whole_by_test, fits_here}
use Rattle.lab_store_tables.proofs.OneRow.{turned, has_own_key, not_free, had_same, no_rows, got_beside}
use Rattle.lab_store_tables.proofs.PlacedLaws.{behind, untied, none_placed}
use Rattle.lab_store_tables.proofs.FieldLaws.{fields_in, field_by, AreFielded, fields_in_turn}
use Rattle.lab_store_tables.proofs.LastForm.{form_total, all_unsorted, all_below_next}
use Rattle.lab_store_tables.proofs.Comparing.{text_is, text_alike}

-- ---- the order of a code and a number

same_code : (s t : List ℕ) → slice_cmp nat_cmp s t ≡ Equal → s ≡ t
same_code s t e = text_is s t (sym (is_eq-slice_cmp s t) ∙ ap is_eq e)

-- what comes after all versions of its own code comes before another one just where its code does
module _ (code : List ℕ) (version : ℕ) (one : FormRow) (below : bytes_eq one.code code ≡ true → one.version < version) where
  before_or_behind : comes_before code one.code ≡ not (is_gt (ordering_then (slice_cmp nat_cmp code one.code) (nat_cmp version one.version)))
  before_or_behind = go (slice_cmp nat_cmp code one.code) refl
    where
      go : (o : Ordering) → slice_cmp nat_cmp code one.code ≡ o
          → match_ordering o true false false ≡ not (is_gt (ordering_then o (nat_cmp version one.version)))
      go Less e = refl
      go Equal e = sym (ap not (behind one.version version (below (text_alike one.code code (sym (same_code code one.code e))))))
      go Greater e = refl

  not_tied : is_eq (ordering_then (slice_cmp nat_cmp one.code code) (nat_cmp one.version version)) ≡ false
  not_tied = go (slice_cmp nat_cmp one.code code) refl
    where
      go : (o : Ordering) → slice_cmp nat_cmp one.code code ≡ o → is_eq (ordering_then o (nat_cmp one.version version)) ≡ false
      go Less e = refl
      go Equal e = untied one.version version (below (text_alike one.code code (same_code one.code code e)))
      go Greater e = refl

-- what stands for a form where there is none
abbrev no_form : FormVersion
no_form = record { code = []; version = 0; form = record { fields = []; approval = false } }

module _ (t : Tables) (rising : AreRising t) (labs : have_own_ids lab_id t.labs ≡ true) (whole : AreWhole t) (code : List ℕ) (row : LabRow)
    (found : find (has_code code) t.labs ≡ Some row) (form : FormVersion) (id : ℤ) (free : IsFree form_id t.forms id)
    (fields : List FieldRow) (choices : List ChoiceRow) (fielded : AreFielded id form.form.fields t.fields t.choices fields choices)
    (next : form.version ≡ next_form_version (last_form (forms_of t row.id) form.code)) where
  abbrev new : FormRow
  new = form_row_of row.id id form

  abbrev after : Tables
  after = record t { forms = insert_by form_id t.forms (form_row_of row.id id form); fields = fields; choices = choices }

  abbrev lab_of : FormRow → ℤ
  lab_of one = one.lab

  abbrev mine : ℤ → FormRow → Bool
  mine lab one = int_eq one.lab lab

  -- ---- forms as they are read

  form_alike : (one : FormRow) → Has t.forms one → form_in after one ≡ form_in t one
  form_alike one has = λ i. record (form_in t one) {
    form = record {
      fields = fielded.others one.id (turned id one.id (not_free form_id t.forms id one.id free (has_own_key form_id t.forms one has))) i;
      approval = one.approval;
    };
  }

  -- the new form has no fields but its own
  no_fields : filter (λ (one : FieldRow). int_eq one.form id) t.fields ≡ []
  no_fields =
      no_rows (λ (one : FieldRow). one.form) form_id t.forms id free t.fields
      (all_from_test (λ (one : FieldRow). has_parent form_id t.forms (Some one.form)) t.fields whole.fields)

  form_back : form_in after new ≡ form
  form_back = λ i. record form { form = record (form.form) { fields = sheet i } }
    where
      sheet : fields_in fields choices id ≡ form.form.fields
      sheet = fielded.own ∙ ap (λ list. map (field_by t.choices) (sort_by by_field list) ++ form.form.fields) no_fields

  forms_seen : (lab : ℤ) → had_by lab_of by_form (form_in after) t.forms lab ≡ forms_of t lab
  forms_seen lab = had_same lab_of by_form (form_in after) (form_in t) t.forms lab (λ one has here. form_alike one has)

  -- ---- the laboratory's forms

  below : AllByRecursion (λ (one : FormRow). bytes_eq one.code form.code ≡ true → one.version < form.version) (sort_by by_form (filter (mine row.id) t.forms))
  below =
      subst (λ n. AllByRecursion (λ (one : FormRow). bytes_eq one.code form.code ≡ true → one.version < n) (sort_by by_form (filter (mine row.id) t.forms)))
      (sym next)
      (all_below_next t form.code (filter (mine row.id) t.forms))

  apart : AllByRecursion (λ (one : FormRow). is_eq (by_form one new) ≡ false) (filter (mine row.id) t.forms)
  apart =
      all_weaker (λ (one : FormRow). bytes_eq one.code form.code ≡ true → one.version < form.version) (λ (one : FormRow). is_eq (by_form one new) ≡ false)
      (λ one less. not_tied form.code form.version one less) (filter (mine row.id) t.forms)
      (all_unsorted by_form (λ (one : FormRow). bytes_eq one.code form.code ≡ true → one.version < form.version) (filter (mine row.id) t.forms) below)

  placed : AllByRecursion (λ (one : FormRow). comes_before form.code one.code ≡ not (is_gt (by_form new one))) (sort_by by_form (filter (mine row.id) t.forms))
  placed =
      all_weaker (λ (one : FormRow). bytes_eq one.code form.code ≡ true → one.version < form.version)
      (λ (one : FormRow). comes_before form.code one.code ≡ not (is_gt (by_form new one)))
      (λ one less. before_or_behind form.code form.version one less) (sort_by by_form (filter (mine row.id) t.forms)) below

  own_forms : forms_of after row.id ≡ added_form form (forms_of t row.id)
  own_forms =
      own_has form_id lab_of by_form form_total (form_in after) t.forms (rising.at Forms) new free row.id (alike row.id row.id refl) apart
      ∙ placed_among by_form (form_in after) (λ (one : FormVersion). comes_before form.code one.code) new
      (sort_by by_form (filter (mine row.id) t.forms)) placed
      ∙ ap₂ (λ list one. insert list (position_or_len (λ (x : FormVersion). comes_before form.code x.code) list) one) (forms_seen row.id) form_back

  forms_law : (lab : ℤ) → forms_of after lab ≡ cond (int_eq lab row.id) (added_form form (forms_of t lab)) (forms_of t lab)
  forms_law lab = go (int_eq lab row.id) refl
    where
      go : (b : Bool) → int_eq lab row.id ≡ b → forms_of after lab ≡ cond b (added_form form (forms_of t lab)) (forms_of t lab)
      go true e = subst (λ l. forms_of after l ≡ added_form form (forms_of t l)) (sym (same_int lab row.id e)) own_forms
      go false e =
          other_has form_id lab_of by_form form_total (form_in after) t.forms (rising.at Forms) new free lab (turned lab row.id e) ∙ forms_seen lab

  -- ---- records keep their forms

  read_alike : (o : Option FormRow) (at : ℤ) → get_by form_id t.forms at ≡ o → option_map (form_in after) o ≡ option_map (form_in t) o
  read_alike None at e = refl
  read_alike (Some one) at e = ap Some (form_alike one (has_found (λ (x : FormRow). int_eq (form_id x) at) t.forms one e).0)

  form_at_alike : (at : ℤ) → has_key form_id t.forms at ≡ true → form_at after at ≡ form_at t at
  form_at_alike at has =
      ap (λ (o : Option FormVersion). unwrap_or o no_form)
      (ap (option_map (form_in after)) (got_beside form_id t.forms new free at has) ∙ read_alike (get_by form_id t.forms at) at refl)

  cover_alike : (one : RecordRow) → Has t.records one → cover_in after one ≡ cover_in t one
  cover_alike one has = λ i. record (cover_in t one) {
    form = form_at_alike one.form (test_has (λ (x : RecordRow). has_parent form_id t.forms (Some x.form)) t.records one whole.records has) i;
  }

  record_alike : (of : List ℕ) (one : RecordRow) → Has t.records one → record_in after of one ≡ record_in t of one
  record_alike of one has = ap (λ (cover : Record). record cover { versions = chained of cover None (leaves_of t one.id) }) (cover_alike one has)

  records_alike : (of : List ℕ) (lab : ℤ) → records_of after of lab ≡ records_of t of lab
  records_alike of lab =
      had_same (λ (one : RecordRow). one.lab) by_record (record_in after of) (record_in t of) t.records lab (λ one has here. record_alike of one has)

  -- ---- the laboratory

  by_case : (lab : LabRow) → lab_in after lab ≡ cond (int_eq lab.id row.id) (change (lab_in t lab) (FormAdded form)) (lab_in t lab)
  by_case lab = go (int_eq lab.id row.id) (forms_law lab.id)
    where
      go : (b : Bool) → forms_of after lab.id ≡ cond b (added_form form (forms_of t lab.id)) (forms_of t lab.id)
          → lab_in after lab ≡ cond b (change (lab_in t lab) (FormAdded form)) (lab_in t lab)
      go true law = λ i. record (lab_in t lab) { forms = law i; records = records_alike lab.code lab.id i }
      go false law = λ i. record (lab_in t lab) { forms = law i; records = records_alike lab.code lab.id i }

  form_changes : Changes code (FormAdded form ∷ []) (meaning t) (meaning after)
  form_changes = rows_changed t after refl labs code row found (FormAdded form) by_case

-- a version of a form is added, under the next number of its code
pub form_is_numbered : {old new : Tables} {code : List ℕ} {form : FormVersion} → AreRising old → AreWellKept old
    → (it : Applies code (FormAdded form) old new) → form.version ≡ next_form_version (last_form (forms_of old it.lab.id) form.code)
    → Changes code (FormAdded form ∷ []) (meaning old) (meaning new)
form_is_numbered {old} {new} {code} {form} rising well it next =
    let whole = whole_by_test old well.arrows in
    let id = it.made.id in
    let free = it.made.free in
    let no_own =
    no_rows (λ (one : FieldRow). one.form) form_id old.forms id free old.fields
    (all_from_test (λ (one : FieldRow). has_parent form_id old.forms (Some one.form)) old.fields whole.fields) in
    let all =
    fields_in_turn (put_form (form_row_of it.lab.id id form) old) id form.form.fields old.fields old.choices new (rising.at Fields) (rising.at Choices)
    (none_placed (λ (one : FieldRow). one.form) (λ (one : FieldRow). one.place) id old.fields no_own)
    (all_from_test (λ (one : ChoiceRow). has_parent field_id old.fields (Some one.field)) old.choices whole.choices) it.made.fields in
    subst (λ t. Changes code (FormAdded form ∷ []) (meaning old) (meaning t)) (sym all.2)
    (form_changes old rising (own_by_tests old well.ids well.keys).labs whole code it.lab it.found form id free all.0 all.1 all.3 next)

-- one that fits
pub form_is_added : {old new : Tables} {code : List ℕ} {form : FormVersion} → AreRising old → AreWellKept old
    → ChangesFit (meaning old code) (FormAdded form ∷ []) → Applies code (FormAdded form) old new
    → Changes code (FormAdded form ∷ []) (meaning old) (meaning new)
form_is_added {old} {new} {code} {form} rising well fit it =
    form_is_numbered rising well it (fits_here old code it.lab (FormAdded form) it.found fit).0
