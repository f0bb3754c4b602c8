-- A version of a form that is added among versions that stand in order.
use Rattle.std.proofs.Common.{◌≡◌, ℕ, Bool, true, false, cond, ◌&&◌, List, [], ◌∷◌, ◌++◌, Option, Some, None, refl, sym, ◌∙◌, ap, subst, ◌==◌}
use Rattle.std.specs.Prelude.{All, bytes_eq, find}
use Rattle.std.proofs.lemmas.List.{reverse-append, append-nil, append_assoc}
use Rattle.std.proofs.lemmas.Slice.Eq.{bytes_eq-Decides}
use Rattle.std.proofs.lemmas.List.Elements.{All-weaker}
use Rattle.lab_records_kept.specs.declared.records.FormVersion.{FormVersion}
use Rattle.lab_records_kept.specs.declared.records.Record.{Record}
use Rattle.lab_records_kept.specs.Changes.{added_form}
use Rattle.lab_records_kept.specs.Lookups.{last_form, exact_form, is_version_of, is_form_version, next_form_version}
use Rattle.lab_records_kept.specs.Lookups.{comes_before}
use Rattle.lab_records_kept.specs.Limits.{AreFormsInOrder, AreFormsNumbered, IsByForm}
use Rattle.lab_records_laws.proofs.LimitOrder.{placed, is_placed, not_back, other_text, other_text_back, before_further}

abbrev pub form_later : FormVersion → FormVersion → Bool
form_later form one = comes_before form.code one.code

-- ---- order

abbrev IsFirstNotBefore : List ℕ → List FormVersion → Type 0
IsFirstNotBefore code [] = Unit {0}
IsFirstNotBefore code (one ∷ others) = comes_before one.code code ≡ false

ordered_more : (one : FormVersion) (list : List FormVersion) → IsFirstNotBefore one.code list
    → AreFormsInOrder list → AreFormsInOrder (one ∷ list)
ordered_more one [] later ordered = record {}
ordered_more one (other ∷ others) later ordered = (later, ordered)

first_later : (one : FormVersion) (list : List FormVersion) → AreFormsInOrder (one ∷ list)
    → IsFirstNotBefore one.code list
first_later one [] ordered = record {}
first_later one (other ∷ others) ordered = ordered.0

rest_ordered : (one : FormVersion) (list : List FormVersion) → AreFormsInOrder (one ∷ list)
    → AreFormsInOrder list
rest_ordered one [] ordered = record {}
rest_ordered one (other ∷ others) ordered = ordered.1

later_case : (test : Bool) (code : List ℕ) (form one : FormVersion) (others more : List FormVersion)
    → comes_before form.code code ≡ false → comes_before one.code code ≡ false
    → IsFirstNotBefore code (cond test (form ∷ one ∷ others) (one ∷ more))
later_case true code form one others more before later = before
later_case false code form one others more before later = later

placed_later : (code : List ℕ) (form : FormVersion) (list : List FormVersion)
    → comes_before form.code code ≡ false → IsFirstNotBefore code list
    → IsFirstNotBefore code (placed (form_later form) form list)
placed_later code form [] before later = before
placed_later code form (one ∷ others) before later =
    later_case (form_later form one) code form one others
    (placed (form_later form) form others) before later

order_case : (test : Bool) (form one : FormVersion) (others : List FormVersion)
    → form_later form one ≡ test → AreFormsInOrder (one ∷ others)
    → AreFormsInOrder (placed (form_later form) form others)
    → AreFormsInOrder (cond test (form ∷ one ∷ others)
    (one ∷ placed (form_later form) form others))
order_case true form one others tested ordered next =
    (not_back form.code one.code tested, ordered)
order_case false form one others tested ordered next =
    ordered_more one (placed (form_later form) form others)
    (placed_later one.code form others tested (first_later one others ordered)) next

placed_ordered : (form : FormVersion) (forms : List FormVersion) → AreFormsInOrder forms
    → AreFormsInOrder (placed (form_later form) form forms)
placed_ordered form [] ordered = record {}
placed_ordered form (one ∷ others) ordered =
    order_case (form_later form one) form one others refl ordered
    (placed_ordered form others (rest_ordered one others ordered))

-- versions of forms with one more stand in order
pub forms_added_ordered : (form : FormVersion) (forms : List FormVersion) → AreFormsInOrder forms
    → AreFormsInOrder (added_form form forms)
forms_added_ordered form forms ordered =
    subst (λ l. AreFormsInOrder l) (sym (is_placed (form_later form) form forms))
    (placed_ordered form forms ordered)

-- ---- versions of later codes

abbrev AreLater : List ℕ → List FormVersion → Type 0
AreLater code [] = Unit {0}
AreLater code (one ∷ others) = (comes_before code one.code ≡ true) × AreLater code others

are_later : (code : List ℕ) (one : FormVersion) (others : List FormVersion)
    → comes_before code one.code ≡ true → AreFormsInOrder (one ∷ others)
    → AreLater code (one ∷ others)
are_later code one [] before ordered = (before, record {})
are_later code one (other ∷ others) before ordered = (
  before,
  are_later code other others
      (before_further code one.code other.code before ordered.0) ordered.1,
)

-- none of them is of the code
exact_later : (code : List ℕ) (version : ℕ) (list : List FormVersion) → AreLater code list
    → exact_form list code version ≡ None
exact_later code version [] later = refl
exact_later code version (one ∷ others) later =
    ap (λ b. cond (b && (one.version == version)) (Some one) (exact_form others code version))
    (other_text_back code one.code later.0)
    ∙ exact_later code version others later.1

-- the last version of a form, with one version more
pub last_more : (before : List FormVersion) (one : FormVersion) (code : List ℕ)
    → last_form (before ++ one ∷ []) code
    ≡ cond (bytes_eq one.code code) (Some one) (last_form before code)
last_more before one code = ap (λ l. find (is_version_of code) l) (reverse-append before (one ∷ []))

last_later : (code : List ℕ) (before list : List FormVersion) → AreLater code list
    → last_form (before ++ list) code ≡ last_form before code
last_later code before [] later = ap (λ l. last_form l code) (append-nil before)
last_later code before (one ∷ others) later =
    ap (λ l. last_form l code) (sym (append_assoc before (one ∷ []) others))
    ∙ last_later code (before ++ one ∷ []) others later.1
    ∙ last_more before one code
    ∙ ap (λ b. cond b (Some one) (last_form before code)) (other_text_back code one.code later.0)

-- ---- numbers

-- of every other code the last version is the same
abbrev SameLast : List ℕ → List FormVersion → List FormVersion → Type 0
SameLast code one other =
    (third : List ℕ) → bytes_eq code third ≡ false → last_form one third ≡ last_form other third

same_more : (code : List ℕ) (first second : List FormVersion) (one : FormVersion)
    → SameLast code first second → SameLast code (first ++ one ∷ []) (second ++ one ∷ [])
same_more code first second one same = λ third differ.
    last_more first one third
    ∙ ap (λ o. cond (bytes_eq one.code third) (Some one) o) (same third differ)
    ∙ sym (last_more second one third)

numbered_later : (code : List ℕ) (first second list : List FormVersion)
    → SameLast code first second → AreLater code list → AreFormsNumbered first list
    → AreFormsNumbered second list
numbered_later code first second [] same later numbered = record {}
numbered_later code first second (one ∷ others) same later numbered = (
  numbered.0 ∙ ap next_form_version (same one.code (other_text code one.code later.0)),
  numbered_later code (first ++ one ∷ []) (second ++ one ∷ []) others
      (same_more code first second one same) later.1 numbered.1,
)

same_but : (form : FormVersion) (before : List FormVersion)
    → SameLast form.code before (before ++ form ∷ [])
same_but form before = λ third differ.
    sym (last_more before form third
    ∙ ap (λ b. cond b (Some form) (last_form before third)) differ)

number_case : (test : Bool) (form one : FormVersion) (before others : List FormVersion)
    → form_later form one ≡ test → AreFormsInOrder (one ∷ others)
    → AreFormsNumbered before (one ∷ others)
    → form.version ≡ next_form_version (last_form (before ++ one ∷ others) form.code)
    → AreFormsNumbered (before ++ one ∷ []) (placed (form_later form) form others)
    → AreFormsNumbered before (cond test (form ∷ one ∷ others)
    (one ∷ placed (form_later form) form others))
number_case true form one before others tested ordered numbered next placed_next =
    let later : AreLater form.code (one ∷ others) =
    are_later form.code one others tested ordered in (
      next ∙ ap next_form_version (last_later form.code before (one ∷ others) later),
      numbered_later form.code before (before ++ form ∷ []) (one ∷ others) (same_but form before)
          later numbered,
    )
number_case false form one before others tested ordered numbered next placed_next =
    (numbered.0, placed_next)

placed_numbered : (form : FormVersion) (before forms : List FormVersion) → AreFormsInOrder forms
    → AreFormsNumbered before forms
    → form.version ≡ next_form_version (last_form (before ++ forms) form.code)
    → AreFormsNumbered before (placed (form_later form) form forms)
placed_numbered form before [] ordered numbered next =
    (next ∙ ap (λ l. next_form_version (last_form l form.code)) (append-nil before), record {})
placed_numbered form before (one ∷ others) ordered numbered next =
    number_case (form_later form one) form one before others refl ordered numbered next
    (placed_numbered form (before ++ one ∷ []) others (rest_ordered one others ordered) numbered.1
    (next ∙ ap (λ l. next_form_version (last_form l form.code))
    (sym (append_assoc before (one ∷ []) others))))

-- versions of forms with the next of one form are numbered
pub forms_added_numbered : (form : FormVersion) (forms : List FormVersion) → AreFormsInOrder forms
    → AreFormsNumbered [] forms → form.version ≡ next_form_version (last_form forms form.code)
    → AreFormsNumbered [] (added_form form forms)
forms_added_numbered form forms ordered numbered next =
    subst (λ l. AreFormsNumbered [] l) (sym (is_placed (form_later form) form forms))
    (placed_numbered form [] forms ordered numbered next)

-- ---- versions that are looked up

none_later : (same : Bool) (form one : FormVersion) (others : List FormVersion) (code : List ℕ)
    (version : ℕ) (found : FormVersion) → bytes_eq form.code code ≡ same
    → AreLater form.code (one ∷ others)
    → exact_form (one ∷ others) code version ≡ Some found
    → cond (same && (form.version == version)) (Some form) (exact_form (one ∷ others) code version)
    ≡ Some found
none_later false form one others code version found tested later is = is
none_later true form one others code version found tested later is =
    let equal : form.code ≡ code = (bytes_eq-Decides form.code code).0 tested in
    let none : exact_form (one ∷ others) form.code version ≡ None =
    exact_later form.code version (one ∷ others) later in
    let none_of : exact_form (one ∷ others) code version ≡ None =
    subst (λ c. exact_form (one ∷ others) c version ≡ None) equal none in
    absurd (cc (none_of, is))

found_or : (here : Bool) (one : FormVersion) (old new : Option FormVersion) (found : FormVersion)
    → cond here (Some one) old ≡ Some found → (old ≡ Some found → new ≡ Some found)
    → cond here (Some one) new ≡ Some found
found_or true one old new found is next = is
found_or false one old new found is next = next is

exact_case : (test : Bool) (form one : FormVersion) (others : List FormVersion) (code : List ℕ)
    (version : ℕ) (found : FormVersion) → form_later form one ≡ test
    → AreFormsInOrder (one ∷ others) → exact_form (one ∷ others) code version ≡ Some found
    → (exact_form others code version ≡ Some found
    → exact_form (placed (form_later form) form others) code version ≡ Some found)
    → exact_form (cond test (form ∷ one ∷ others)
    (one ∷ placed (form_later form) form others)) code version ≡ Some found
exact_case true form one others code version found tested ordered is next =
    none_later (bytes_eq form.code code) form one others code version found refl
    (are_later form.code one others tested ordered) is
exact_case false form one others code version found tested ordered is next =
    found_or (is_form_version code version one) one (exact_form others code version)
    (exact_form (placed (form_later form) form others) code version) found is next

placed_exact : (form : FormVersion) (forms : List FormVersion) (code : List ℕ) (version : ℕ)
    (found : FormVersion) → AreFormsInOrder forms → exact_form forms code version ≡ Some found
    → exact_form (placed (form_later form) form forms) code version ≡ Some found
placed_exact form [] code version found ordered is = absurd (cc)
placed_exact form (one ∷ others) code version found ordered is =
    exact_case (form_later form one) form one others code version found refl ordered is
    (placed_exact form others code version found (rest_ordered one others ordered))

-- a version stays the one of its code and number
pub added_exact : (form : FormVersion) (forms : List FormVersion) (code : List ℕ) (version : ℕ)
    (found : FormVersion) → AreFormsInOrder forms → exact_form forms code version ≡ Some found
    → exact_form (added_form form forms) code version ≡ Some found
added_exact form forms code version found ordered is =
    subst (λ l. exact_form l code version ≡ Some found)
    (sym (is_placed (form_later form) form forms))
    (placed_exact form forms code version found ordered is)

-- and records stay by their forms
pub by_form_added : (form : FormVersion) (forms : List FormVersion) (records : List Record)
    → AreFormsInOrder forms → All (IsByForm forms) records
    → All (IsByForm (added_form form forms)) records
by_form_added form forms records ordered all =
    All-weaker (IsByForm forms) (IsByForm (added_form form forms))
    (λ kept is. added_exact form forms kept.form.code kept.form.version kept.form ordered is)
    records all
