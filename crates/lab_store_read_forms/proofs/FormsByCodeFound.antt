-- What was read of the rows of versions of a form, as what the tables have.
use Rattle.std.proofs.Common.{zero, suc, ◌≡◌, ℕ, ℤ, ◌-◌, Bool, true, false, cond, List, [], ◌∷◌, ◌++◌, map, filter, find, length, reverse, slice_get, Option, Some, None, option_map, refl, sym, ap, ◌∙◌, int_eq, bytes_eq, arith, append-nil}
use Rattle.std.specs.Cmp.{IsTotalOrder, on_total, then_total}
use Rattle.std.specs.Cmp.Lexicographic.{nat_list_cmp_total}
use Rattle.std.proofs.lemmas.Cmp.{nat_cmp_total}
use Rattle.std.proofs.lemmas.List.{length-map, length_push, reverse-append, reverse-reverse}
use Rattle.std.proofs.lemmas.List.Elements.{filter-append}
use Rattle.sqlite_keyed.specs.Lists.{sort_by}
use Rattle.sqlite_keyed.proofs.ListLemmas.{slice_get-filter, filter-map}
use Rattle.lab_records_kept.specs.Lookups.{last_of, is_version_of, is_form_version, last_form, exact_form}
use Rattle.lab_store_tables.specs.Rows.{FormRow, Tables}
use Rattle.lab_store_tables.specs.WellKept.{IsWellKept}
use Rattle.lab_store_tables.specs.Meaning.{form_in, forms_of, by_form}
use Rattle.lab_store_read_forms.specs.Forms.{form_by}
use Rattle.lab_store_read_forms.specs.Shown.{form_shown, form_read}
use Rattle.lab_store_read.proofs.Lists.{both_filtered}
use Rattle.lab_store_read.proofs.Finds.{found_alone}
use Rattle.lab_store_read_forms.proofs.FormsFound.{form_back}
use Rattle.lab_store_read_forms.specs.FormsByCode.{is_exact, exact_shown, is_of_code, form_versions_shown}
use Rattle.lab_store_read_forms.proofs.ByCodeKeys.{forms_apart}
use Rattle.lab_store_read_forms.proofs.Lists.{alone_version}
use Rattle.lab_store_read.proofs.Orders.{filter_sorted}

form_total : IsTotalOrder by_form
form_total = then_total (on_total (λ (one : FormRow). one.code) nat_list_cmp_total) (on_total (λ (one : FormRow). one.version) nat_cmp_total)

one_read : (t : Tables) (o : Option FormRow) → option_map (form_by t) (option_map form_read (option_map form_shown o)) ≡ option_map (form_in t) o
one_read t None = refl
one_read t (Some one) = ap Some (ap (form_by t) (form_back one))

mapped_at : {X Y : Type 0} (f : X → Y) (xs : List X) (n : ℕ) → slice_get (map f xs) n ≡ option_map f (slice_get xs n)
mapped_at f [] n = refl
mapped_at f (x ∷ xs) zero = refl
mapped_at f (x ∷ xs) (suc n) = mapped_at f xs n

-- ---- the version of a number

pub exact_found : (t : Tables) → IsWellKept t → (lab : ℤ) (code : List ℕ) (version : ℕ)
    → option_map (form_by t) (option_map form_read (slice_get (exact_shown t lab code version) 0)) ≡ exact_form (forms_of t lab) code version
exact_found t kept lab code version =
    ap (λ o. option_map (form_by t) (option_map form_read o)) (mapped_at form_shown (filter (is_exact lab code version) t.forms) 0)
    ∙ one_read t _ ∙ ap (option_map (form_in t)) (slice_get-filter (is_exact lab code version) t.forms)
    ∙ sym (found_alone by_form form_total (λ (one : FormRow). int_eq one.lab lab) (form_in t) (is_form_version code version) t.forms
    (alone_version (λ (one : FormRow). one.lab) (λ (one : FormRow). one.code) (λ (one : FormRow). one.version) lab code version t.forms (forms_apart t kept)))

-- ---- the last version

nth_last : {A : Type 0} (xs : List A) (x : A) → slice_get (xs ++ x ∷ []) (length xs) ≡ Some x
nth_last [] x = refl
nth_last (y ∷ xs) x = nth_last xs x

last_more : {A : Type 0} (xs : List A) (x : A) → last_of (xs ++ x ∷ []) ≡ Some x
last_more xs x =
    let one_less : length (xs ++ x ∷ []) - 1 ≡ length xs = omega (arith, length_push xs x) in
    ap (slice_get (xs ++ x ∷ [])) one_less ∙ nth_last xs x

last_reversed : {A : Type 0} (xs : List A) → last_of (reverse xs) ≡ slice_get xs 0
last_reversed [] = refl
last_reversed (x ∷ xs) = ap last_of (reverse-append (x ∷ []) xs) ∙ last_more (reverse xs) x

filter_reversed : {A : Type 0} (p : A → Bool) (xs : List A) → filter p (reverse xs) ≡ reverse (filter p xs)
filter_reversed p [] = refl
filter_reversed p (x ∷ xs) = ap (filter p) (reverse-append (x ∷ []) xs) ∙ filter-append p (reverse xs) (x ∷ []) ∙ go (p x) (filter_reversed p xs)
  where
    go : (b : Bool) → filter p (reverse xs) ≡ reverse (filter p xs) → filter p (reverse xs) ++ cond b (x ∷ []) [] ≡ reverse (cond b (x ∷ filter p xs) (filter p xs))
    go true more = ap (λ l. l ++ x ∷ []) more ∙ sym (reverse-append (x ∷ []) (filter p xs))
    go false more = append-nil _ ∙ more

found_last : {A : Type 0} (p : A → Bool) (xs : List A) → find p (reverse xs) ≡ last_of (filter p xs)
found_last p xs =
    sym (slice_get-filter p (reverse xs)) ∙ ap (λ l. slice_get l 0) (filter_reversed p xs)
    ∙ sym (last_reversed (reverse (filter p xs))) ∙ ap last_of (reverse-reverse (filter p xs))

last_mapped : {X Y : Type 0} (f : X → Y) (xs : List X) → last_of (map f xs) ≡ option_map f (last_of xs)
last_mapped f xs = ap (λ n. slice_get (map f xs) (n - 1)) (length-map xs f) ∙ mapped_at f xs (length xs - 1)

pub last_found : (t : Tables) (lab : ℤ) (code : List ℕ) → option_map (form_by t) (option_map form_read (last_of (form_versions_shown t lab code))) ≡ last_form (forms_of t lab) code
last_found t lab code =
    let mine = λ (one : FormRow). int_eq one.lab lab in
    let of_code = λ (one : FormRow). bytes_eq one.code code in
    let sorted = sort_by by_form (filter (is_of_code lab code) t.forms) in
    ap (λ o. option_map (form_by t) (option_map form_read o)) (last_mapped form_shown sorted) ∙ one_read t (last_of sorted)
    ∙ sym (found_last (is_version_of code) (forms_of t lab)
    ∙ ap last_of (filter-map (is_version_of code) (form_in t) (sort_by by_form (filter mine t.forms)))
    ∙ ap (λ l. last_of (map (form_in t) l)) (filter_sorted by_form form_total of_code (filter mine t.forms))
    ∙ ap (λ l. last_of (map (form_in t) (sort_by by_form l))) (both_filtered mine of_code t.forms)
    ∙ last_mapped (form_in t) sorted)
