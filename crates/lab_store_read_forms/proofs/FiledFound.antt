-- Records that were found by their rows, as those of the laboratory's meaning.
use Rattle.std.proofs.Common.{◌≡◌, ◌≤◌, ℕ, ℤ, Bool, true, false, ◌&&◌, cond, List, [], ◌∷◌, map, filter, find, length, Option, Some, None, option_map, unwrap_or, refl, sym, ap, ap₂, ◌∙◌, subst, int_eq, bytes_eq}
use Rattle.std.specs.List.{AllByRecursion}
use Rattle.std.specs.Option.{option_map_or}
use Rattle.std.specs.Cmp.{IsTotalOrder, on_total}
use Rattle.std.proofs.lemmas.Cmp.{nat_cmp_total}
use Rattle.sqlite_keyed.specs.Keyed.{get_by}
use Rattle.sqlite_keyed.specs.Lists.{sort_by}
use Rattle.sqlite_keyed.proofs.ListLemmas.{all_from_test, all_weaker, filter-map, map-map}
use Rattle.lab_records_kept.specs.declared.records.FormVersion.{FormVersion}
use Rattle.lab_records_kept.specs.declared.records.Record.{Record}
use Rattle.lab_records_kept.specs.Lookups.{has_number, is_about as tells_of, record_of, record_about}
use Rattle.lab_records_kept.specs.Lookups.{is_within, records_within}
use Rattle.lab_store_tables.specs.Rows.{FormRow, RecordRow, Tables, form_id}
use Rattle.lab_store_tables.specs.WellKept.{IsWellKept, names_its_form}
use Rattle.lab_store_tables.specs.Meaning.{form_in, form_at, record_in, records_of, by_record}
use Rattle.lab_store_read_records.specs.Heads.{is_record, record_head}
use Rattle.lab_store_read_records.proofs.Keys.{records_apart}
use Rattle.lab_store_read.proofs.Lists.{alone_numbers, both_filtered}
use Rattle.lab_store_read_records.specs.Sought.{is_about, heads_within}
use Rattle.lab_store_read_forms.specs.Wholes.{record_by}
use Rattle.lab_store_read_records.proofs.Lists.{alone_key}
use Rattle.lab_store_read.proofs.Keys.{right}
use Rattle.lab_store_read_records.proofs.RetrievalKeys.{samples_apart}
use Rattle.lab_store_read.proofs.Finds.{found_alone}
use Rattle.lab_store_read.proofs.Orders.{filter_sorted}
use Rattle.lab_store_tables.proofs.Comparing.{text_is}

record_total : IsTotalOrder by_record
record_total = on_total (λ (one : RecordRow). one.number) nat_cmp_total

built : (t : Tables) (code : List ℕ) (o : Option RecordRow) → option_map (record_by t code) (option_map record_head o) ≡ option_map (record_in t code) o
built t code None = refl
built t code (Some one) = refl

pub numbered_found : (t : Tables) → IsWellKept t → (code : List ℕ) (lab : ℤ) (number : ℕ)
    → option_map (record_by t code) (option_map record_head (find (is_record lab number) t.records)) ≡ record_of (records_of t code lab) number
numbered_found t kept code lab number =
    built t code (find (is_record lab number) t.records)
    ∙ sym (found_alone by_record record_total (λ (one : RecordRow). int_eq one.lab lab) (record_in t code) (has_number number) t.records
    (alone_numbers (λ (one : RecordRow). one.lab) (λ (one : RecordRow). one.number) lab number t.records (records_apart t kept)))

-- ---- by the form and the sample

-- a record's row names the form that its arrow leads to
named_by : (t : Tables) (one : RecordRow) → names_its_form t one ≡ true → (form_at t one.form).code ≡ one.form_code
named_by t one h = go (get_by form_id t.forms one.form) h
  where
    none : FormVersion
    none = record { code = []; version = 0; form = record { fields = []; approval = false } }

    go : (o : Option FormRow) → option_map_or (λ (form : FormRow). bytes_eq form.code one.form_code) o false ≡ true
        → (unwrap_or (option_map (form_in t) o) none).code ≡ one.form_code
    go None e = absurd cc
    go (Some form) e = text_is form.code one.form_code e

find_alike : {X : Type 0} (p q : X → Bool) (xs : List X) → AllByRecursion (λ x. p x ≡ q x) xs → find p xs ≡ find q xs
find_alike p q [] all = refl
find_alike p q (x ∷ xs) all = ap₂ (λ b more. cond b (Some x) more) all.0 (find_alike p q xs all.1)

filter_alike : {X : Type 0} (p q : X → Bool) (xs : List X) → AllByRecursion (λ x. p x ≡ q x) xs → filter p xs ≡ filter q xs
filter_alike p q [] all = refl
filter_alike p q (x ∷ xs) all = ap₂ (λ b more. cond b (x ∷ more) more) all.0 (filter_alike p q xs all.1)

module _ (t : Tables) (kept : IsWellKept t) (code : List ℕ) (lab : ℤ) (form sample : List ℕ) where
  abbrev told_about : RecordRow → Bool
  told_about one = int_eq one.lab lab && tells_of form sample (record_in t code one)

  alike : AllByRecursion (λ one. told_about one ≡ is_about lab form sample one) t.records
  alike =
      all_weaker (λ one. names_its_form t one ≡ true) (λ one. told_about one ≡ is_about lab form sample one)
      (λ one h. ap (λ s. int_eq one.lab lab && (bytes_eq s form && bytes_eq one.sample sample)) (named_by t one h)) t.records
      (all_from_test (names_its_form t) t.records (right _ _ kept.rows.alike))

  pub about_found : option_map (record_by t code) (option_map record_head (find (is_about lab form sample) t.records)) ≡ record_about (records_of t code lab) form sample
  about_found =
      let alone = alone_key (λ (one : RecordRow). one.lab) (λ (one : RecordRow). one.form_code) (λ (one : RecordRow). one.sample) lab form sample t.records (samples_apart t kept) in
      built t code (find (is_about lab form sample) t.records)
      ∙ sym (found_alone by_record record_total (λ (one : RecordRow). int_eq one.lab lab) (record_in t code) (tells_of form sample) t.records
      (subst (λ (l : List RecordRow). length l ≤ 1) (sym (filter_alike told_about (is_about lab form sample) t.records alike)) alone)
      ∙ ap (option_map (record_in t code)) (find_alike told_about (is_about lab form sample) t.records alike))

-- ---- those of a range

pub filed_built : (t : Tables) (code : List ℕ) (lab : ℤ) (from to : ℕ) → map (record_by t code) (heads_within t lab from to) ≡ records_within from to (records_of t code lab)
filed_built t code lab from to =
    let mine = λ (one : RecordRow). int_eq one.lab lab in
    let within = λ (one : RecordRow). is_within from to one.number in
    map-map (record_by t code) record_head _
    ∙ sym (filter-map (λ (one : Record). is_within from to one.number) (record_in t code) (sort_by by_record (filter mine t.records))
    ∙ ap (map (record_in t code)) (filter_sorted by_record record_total within (filter mine t.records)
    ∙ ap (sort_by by_record) (both_filtered mine within t.records)))
