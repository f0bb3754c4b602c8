-- Versions of forms stay when the next one is put among them.
use Rattle.std.proofs.Common.{◌≡◌, ◌≢◌, ◌≤◌, ℕ, ◌+◌, Bool, true, false, cond, ◌&&◌, List, [], ◌∷◌, ◌++◌, Option, Some, None, refl, sym, ◌∙◌, ap, subst, append_assoc, append-nil, arith}
use Rattle.std.specs.Prelude.{find, ◌==◌}
use Rattle.std.proofs.lemmas.Bool.Decides.{Decides-eqb}
use Rattle.std.proofs.lemmas.List.{reverse-append}
use Rattle.lab_records_kept.specs.declared.records.FormVersion.{FormVersion}
use Rattle.lab_records_kept.specs.Lookups.{is_version_of, is_form_version, last_form, exact_form, next_form_version}
use Rattle.lab_records_kept.specs.Lookups.{comes_before}
use Rattle.lab_records_kept.specs.Changes.{added_form}
use Rattle.lab_records_kept.specs.Keeping.{KeepsForms}
use Rattle.lab_records_kept.specs.Limits.{AreFormsNumbered}
use Rattle.lab_records_laws.proofs.KeepLists.{placed, inserted_is}
use Rattle.lab_records_laws.proofs.KeepPersons.{are_same}

-- ---- items that aren't found

none_by : {A : Type 0} (passes : Bool) (one : A) (rest last : Option A)
    → cond passes (Some one) rest ≡ None → (rest ≡ None → last ≡ None)
    → cond passes (Some one) last ≡ None
none_by true one rest last h next = absurd (cc)
none_by false one rest last h next = next h

-- one item more that fails a test
none_more : {A : Type 0} (test : A → Bool) (list : List A) (item : A) → find test list ≡ None
    → test item ≡ false → find test (list ++ item ∷ []) ≡ None
none_more test [] item h fails = ap (λ is. cond is (Some item) None) fails
none_more test (one ∷ others) item h fails =
    none_by (test one) one (find test others) (find test (others ++ item ∷ [])) h
    (λ none. none_more test others item none fails)

other_by : {A : Type 0} (before : Bool) (test : A → Bool) (item one : A) (others rest : List A)
    → test item ≡ false → find test rest ≡ find test others
    → find test (cond before (item ∷ one ∷ others) (one ∷ rest)) ≡ find test (one ∷ others)
other_by true test item one others rest fails same =
    ap (λ is. cond is (Some item) (find test (one ∷ others))) fails
other_by false test item one others rest fails same = ap (cond (test one) (Some one)) same

-- an item that fails a test, anywhere among others
other_placed : {A : Type 0} (test place : A → Bool) (item : A) (list : List A)
    → test item ≡ false → find test (placed place item list) ≡ find test list
other_placed test place item [] fails = ap (λ is. cond is (Some item) None) fails
other_placed test place item (one ∷ others) fails =
    other_by (place one) test item one others (placed place item others) fails
    (other_placed test place item others fails)

-- ---- numbers

-- no version of a form has the next number, or a greater one
abbrev EndsAt : List FormVersion → List ℕ → Type 0
EndsAt forms code =
    (version : ℕ) → next_form_version (last_form forms code) ≤ version
    → exact_form forms code version ≡ None

last_after : (before : List FormVersion) (one : FormVersion) (code : List ℕ)
    → last_form (before ++ one ∷ []) code
    ≡ cond (is_version_of code one) (Some one) (last_form before code)
last_after before one code = ap (find (is_version_of code)) (reverse-append before (one ∷ []))

false_by : (test : Bool) → (test ≢ true) → test ≡ false
false_by true h = absurd (h refl)
false_by false h = refl

less_differs : (one version : ℕ) → one + 1 ≤ version → (one == version) ≡ false
less_differs one version h = false_by (one == version) (λ is.
    let same : one ≡ version = (Decides-eqb one version).0 is in
    omega arith)

exact_own : (own is : Bool) → is ≡ false → (own && is) ≡ false
exact_own true is h = h
exact_own false is h = refl

ends_by : (own : Bool) (before : List FormVersion) (one : FormVersion) (code : List ℕ) (version : ℕ)
    → is_version_of code one ≡ own → EndsAt before code
    → one.version ≡ next_form_version (last_form before one.code)
    → next_form_version (cond own (Some one) (last_form before code)) ≤ version
    → exact_form (before ++ one ∷ []) code version ≡ None
ends_by true before one code version is ends next few =
    let same : one.code ≡ code = are_same one.code code is in
    let after : one.version ≡ next_form_version (last_form before code) =
    next ∙ ap (λ it. next_form_version (last_form before it)) same in
    let less : next_form_version (last_form before code) ≤ version =
    subst (λ n. n ≤ version) after (omega arith) in
    none_more (is_form_version code version) before one (ends version less)
    (exact_own (is_version_of code one) (one.version == version)
    (less_differs one.version version few))
ends_by false before one code version is ends next few =
    none_more (is_form_version code version) before one (ends version few)
    (ap (λ own. own && (one.version == version)) is)

ends_after : (before : List FormVersion) (one : FormVersion) (code : List ℕ) → EndsAt before code
    → one.version ≡ next_form_version (last_form before one.code) → EndsAt (before ++ one ∷ []) code
ends_after before one code ends next = λ version few.
    ends_by (is_version_of code one) before one code version refl ends next
    (subst (λ last. next_form_version last ≤ version) (last_after before one code) few)

ends_all : (before list : List FormVersion) (code : List ℕ) → EndsAt before code
    → AreFormsNumbered before list → EndsAt (before ++ list) code
ends_all before [] code ends numbered =
    subst (λ forms. EndsAt forms code) (sym (append-nil before)) ends
ends_all before (one ∷ others) code ends numbered =
    subst (λ forms. EndsAt forms code) (append_assoc before (one ∷ []) others)
    (ends_all (before ++ one ∷ []) others code (ends_after before one code ends numbered.0)
    numbered.1)

-- forms whose versions are numbered have no version of the next number
next_is_none : (forms : List FormVersion) (code : List ℕ) → AreFormsNumbered [] forms
    → EndsAt forms code
next_is_none forms code numbered = ends_all [] forms code (λ version few. refl) numbered

-- ---- a version more

both_true : (one other : Bool) → (one && other) ≡ true → (one ≡ true) × (other ≡ true)
both_true true true h = (refl, refl)
both_true true false h = absurd (cc)
both_true false other h = absurd (cc)

abbrev later : FormVersion → FormVersion → Bool
later form one = comes_before form.code one.code

placed_by : (is : Bool) (forms : List FormVersion) (form found : FormVersion) (code : List ℕ)
    (version : ℕ) → is_form_version code version form ≡ is → AreFormsNumbered [] forms
    → form.version ≡ next_form_version (last_form forms form.code)
    → exact_form forms code version ≡ Some found
    → exact_form (placed (later form) form forms) code version ≡ Some found
placed_by true forms form found code version is numbered next h =
    let own = both_true (is_version_of code form) (form.version == version) is in
    let same : form.code ≡ code = are_same form.code code own.0 in
    let number : form.version ≡ version = (Decides-eqb form.version version).0 own.1 in
    let after : next_form_version (last_form forms code) ≡ version =
    ap (λ it. next_form_version (last_form forms it)) (sym same) ∙ sym next ∙ number in
    let none : exact_form forms code version ≡ None =
    next_is_none forms code numbered version (omega (arith, after)) in
    absurd (cc (none, h))
placed_by false forms form found code version is numbered next h =
    other_placed (is_form_version code version) (later form) form forms is ∙ h

pub forms_itself : (forms : List FormVersion) → KeepsForms forms forms
forms_itself forms = λ code version found h. h

pub form_added_keeps : (forms : List FormVersion) (form : FormVersion) → AreFormsNumbered [] forms
    → form.version ≡ next_form_version (last_form forms form.code)
    → KeepsForms forms (added_form form forms)
form_added_keeps forms form numbered next = λ code version found h.
    subst (λ list. exact_form list code version ≡ Some found)
    (sym (inserted_is (later form) form forms))
    (placed_by (is_form_version code version form) forms form found code version refl numbered next
    h)
