-- The last version of a form is the one of its number, since its versions are numbered.
use Rattle.std.proofs.Common.{◌≡◌, ◌≤◌, ◌<◌, ℕ, Bool, true, false, cond, ◌&&◌, ◌==◌, List, [], ◌∷◌, ◌++◌, Option, Some, None, refl, sym, ◌∙◌, ap, subst, arith}
use Rattle.std.specs.Prelude.{bytes_eq, find, reverse}
use Rattle.std.specs.Option.{option_or}
use Rattle.std.specs.Cmp.{unsigned_Decides}
use Rattle.std.proofs.lemmas.List.{append-nil, append_assoc}
use Rattle.std.proofs.lemmas.List.Folds.{find-append}
use Rattle.std.proofs.lemmas.Slice.Eq.{bytes_eq-Decides}
use Rattle.lab_records_kept.specs.declared.records.FormVersion.{FormVersion}
use Rattle.lab_records_kept.specs.Lookups.{last_form, exact_form, is_version_of, is_form_version, next_form_version}
use Rattle.lab_records_kept.specs.Limits.{AreFormsNumbered}
use Rattle.lab_records_laws.proofs.LimitForms.{last_more}

-- what is found passes the test
found_case : {A : Type 0} (passes : Bool) (test : A → Bool) (item one : A) (others : Option A)
    → test one ≡ passes → cond passes (Some one) others ≡ Some item
    → (others ≡ Some item → test item ≡ true) → test item ≡ true
found_case true test item one others tested found next =
    let same : item ≡ one = cc in ap test same ∙ tested
found_case false test item one others tested found next = next found

pub found_passes : {A : Type 0} (test : A → Bool) (item : A) (list : List A)
    → find test list ≡ Some item → test item ≡ true
found_passes test item [] found = absurd (cc)
found_passes test item (one ∷ others) found =
    found_case (test one) test item one (find test others) refl found
    (found_passes test item others)

-- the form's last version is the one of its number, and none has a greater one
abbrev IsLastExact : List FormVersion → List ℕ → Option FormVersion → Type 0
IsLastExact forms code None = (version : ℕ) → exact_form forms code version ≡ None
IsLastExact forms code (Some last) =
    (exact_form forms code last.version ≡ Some last)
    × ((version : ℕ) → last.version < version → exact_form forms code version ≡ None)

abbrev AreLastExact : List FormVersion → Type 0
AreLastExact forms = (code : List ℕ) → IsLastExact forms code (last_form forms code)

abbrev one_if : Bool → FormVersion → Option FormVersion
one_if test one = cond test (Some one) None

exact_more : (forms : List FormVersion) (one : FormVersion) (code : List ℕ) (version : ℕ)
    → exact_form (forms ++ one ∷ []) code version
    ≡ option_or (exact_form forms code version)
    (cond (bytes_eq one.code code && (one.version == version)) (Some one) None)
exact_more forms one code version =
    find-append (is_form_version code version) forms (one ∷ [])

-- there is none from the next number on
none_beyond : (forms : List FormVersion) (code : List ℕ) (last : Option FormVersion)
    → IsLastExact forms code last → (version : ℕ) → next_form_version last ≤ version
    → exact_form forms code version ≡ None
none_beyond forms code None exact version beyond = exact version
none_beyond forms code (Some last) exact version beyond = exact.1 version (omega arith)

or_none : (option : Option FormVersion) → option_or option None ≡ option
or_none None = refl
or_none (Some one) = refl

same_exact : (old new : List FormVersion) (code : List ℕ) (last : Option FormVersion)
    → ((version : ℕ) → exact_form new code version ≡ exact_form old code version)
    → IsLastExact old code last → IsLastExact new code last
same_exact old new code None same exact = λ version. same version ∙ exact version
same_exact old new code (Some last) same exact =
    (same last.version ∙ exact.0, λ version beyond. same version ∙ exact.1 version beyond)

greater_differs : (same : Bool) (one other : ℕ) → (one == other) ≡ same → one < other
    → (one == other) ≡ false
greater_differs false one other is greater = is
greater_differs true one other is greater =
    let equal : one ≡ other = (unsigned_Decides one other).0 is in absurd (omega arith)

more_case : (same : Bool) (forms : List FormVersion) (one : FormVersion) (code : List ℕ)
    → bytes_eq one.code code ≡ same → AreLastExact forms
    → one.version ≡ next_form_version (last_form forms one.code)
    → IsLastExact (forms ++ one ∷ []) code (cond same (Some one) (last_form forms code))
more_case true forms one code is exact next =
    let equal : one.code ≡ code = (bytes_eq-Decides one.code code).0 is in
    let next_of : one.version ≡ next_form_version (last_form forms code) =
    subst (λ c. one.version ≡ next_form_version (last_form forms c)) equal next in
    let none : (version : ℕ) → one.version ≤ version → exact_form forms code version ≡ None =
    λ version beyond. none_beyond forms code (last_form forms code) (exact code) version
    (subst (λ n. n ≤ version) next_of beyond) in (
      exact_more forms one code one.version
          ∙ ap (λ o. option_or o (one_if (is_form_version code one.version one) one))
          (none one.version (omega arith))
          ∙ ap (λ b. cond (b && (one.version == one.version)) (Some one) None) is
          ∙ ap (λ b. cond b (Some one) None) ((unsigned_Decides one.version one.version).1 refl),
      λ version beyond. exact_more forms one code version
          ∙ ap (λ o. option_or o (one_if (is_form_version code version one) one))
          (none version (omega arith))
          ∙ ap (λ b. cond (b && (one.version == version)) (Some one) None) is
          ∙ ap (λ b. cond b (Some one) None)
          (greater_differs (one.version == version) one.version version refl beyond),
    )
more_case false forms one code is exact next =
    same_exact forms (forms ++ one ∷ []) code (last_form forms code)
    (λ version. exact_more forms one code version
    ∙ ap (λ b. option_or (exact_form forms code version)
    (cond (b && (one.version == version)) (Some one) None)) is
    ∙ or_none (exact_form forms code version)) (exact code)

exact_with : (forms : List FormVersion) (one : FormVersion) → AreLastExact forms
    → one.version ≡ next_form_version (last_form forms one.code)
    → AreLastExact (forms ++ one ∷ [])
exact_with forms one exact next = λ code.
    subst (λ o. IsLastExact (forms ++ one ∷ []) code o) (sym (last_more forms one code))
    (more_case (bytes_eq one.code code) forms one code refl exact next)

all_exact : (before forms : List FormVersion) → AreLastExact before
    → AreFormsNumbered before forms → AreLastExact (before ++ forms)
all_exact before [] exact numbered =
    subst (λ l. AreLastExact l) (sym (append-nil before)) exact
all_exact before (one ∷ others) exact numbered =
    subst (λ l. AreLastExact l) (append_assoc before (one ∷ []) others)
    (all_exact (before ++ one ∷ []) others (exact_with before one exact numbered.0) numbered.1)

none_exact : AreLastExact []
none_exact = λ code version. refl

last_is : (forms : List FormVersion) (code : List ℕ) (last : Option FormVersion)
    (form : FormVersion) → last ≡ Some form → IsLastExact forms code last
    → exact_form forms code form.version ≡ Some form
last_is forms code None form is exact = absurd (cc)
last_is forms code (Some last) form is exact =
    let same : last ≡ form = cc in
    subst (λ f. exact_form forms code f.version ≡ Some f) same exact.0

-- the last version of a form has its code
pub last_code : (forms : List FormVersion) (code : List ℕ) (form : FormVersion)
    → last_form forms code ≡ Some form → form.code ≡ code
last_code forms code form is =
    (bytes_eq-Decides form.code code).0
    (found_passes (is_version_of code) form (reverse forms) is)

-- and is the one of its code and number
pub last_exact : (forms : List FormVersion) (code : List ℕ) (form : FormVersion)
    → AreFormsNumbered [] forms → last_form forms code ≡ Some form
    → exact_form forms form.code form.version ≡ Some form
last_exact forms code form numbered is =
    subst (λ c. exact_form forms c form.version ≡ Some form)
    (sym (last_code forms code form is))
    (last_is forms code (last_form forms code) form is
    (all_exact [] forms none_exact numbered code))
