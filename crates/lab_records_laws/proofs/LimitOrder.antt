-- The order of texts, and lists into which an item is placed.
use Rattle.std.proofs.Common.{◌≡◌, ◌+◌, ℕ, suc, Bool, true, false, not, cond, List, [], ◌∷◌, length, take, drop, refl, sym, ◌∙◌, ap, arith}
use Rattle.std.specs.Prelude.{All, bytes_eq}
use Rattle.std.specs.List.{insert, position_or_len}
use Rattle.std.proofs.Common.{Ordering, Less, Equal, Greater}
use Rattle.std.specs.Ordering.{ordering_reverse, nat_cmp, match_ordering, is_eq}
use Rattle.std.specs.Cmp.Lexicographic.{slice_cmp}
use Rattle.std.proofs.lemmas.Cmp.{nat_list_cmp_total}
use Rattle.std.proofs.lemmas.Map.Text.{is_eq-slice_cmp}
use Rattle.std.proofs.lemmas.List.Elements.{All-append, All-take, All-drop, All-cons}
use Rattle.lab_records_kept.specs.Lookups.{comes_before}

abbrev order : List ℕ → List ℕ → Ordering
order one other = slice_cmp nat_cmp one other

less : (ordering : Ordering) → match_ordering ordering true false false ≡ true → ordering ≡ Less
less Less is = refl
less Equal is = absurd (cc)
less Greater is = absurd (cc)

before_less : (one other : List ℕ) → order one other ≡ Less → comes_before one other ≡ true
before_less one other is = ap (λ o. match_ordering o true false false) is

before_greater : (one other : List ℕ) → order one other ≡ Greater → comes_before one other ≡ false
before_greater one other is = ap (λ o. match_ordering o true false false) is

-- what comes before another comes after none of it
after : (one other : List ℕ) → comes_before one other ≡ true → order other one ≡ Greater
after one other before =
    nat_list_cmp_total.antisymm other one
    ∙ ap ordering_reverse (less (order one other) before)

pub not_back : (one other : List ℕ) → comes_before one other ≡ true
    → comes_before other one ≡ false
not_back one other before = before_greater other one (after one other before)

-- it is another text
pub other_text : (one other : List ℕ) → comes_before one other ≡ true
    → bytes_eq one other ≡ false
other_text one other before =
    sym (is_eq-slice_cmp one other) ∙ ap is_eq (less (order one other) before)

pub other_text_back : (one other : List ℕ) → comes_before one other ≡ true
    → bytes_eq other one ≡ false
other_text_back one other before =
    sym (is_eq-slice_cmp other one) ∙ ap is_eq (after one other before)

beyond : (one other third : List ℕ) (ordering : Ordering) → order third other ≡ ordering
    → match_ordering ordering true false false ≡ false → comes_before one other ≡ true
    → comes_before one third ≡ true
beyond one other third Less is not_before before = absurd (cc)
beyond one other third Equal is not_before before =
    let back : order third one ≡ Greater =
    nat_list_cmp_total.congr third other one is ∙ after one other before in
    before_less one third (nat_list_cmp_total.antisymm one third ∙ ap ordering_reverse back)
beyond one other third Greater is not_before before =
    before_less one third (nat_list_cmp_total.trans one other third
    (less (order one other) before)
    (nat_list_cmp_total.antisymm other third ∙ ap ordering_reverse is))

-- it comes before what doesn't come before the other
pub before_further : (one other third : List ℕ) → comes_before one other ≡ true
    → comes_before third other ≡ false → comes_before one third ≡ true
before_further one other third before not_before =
    beyond one other third (order third other) refl not_before before

turned : (one other : List ℕ) (ordering : Ordering) → order one other ≡ ordering
    → match_ordering ordering true false false ≡ false → is_eq ordering ≡ false
    → comes_before other one ≡ true
turned one other Less is not_before differ = absurd (cc)
turned one other Equal is not_before differ = absurd (cc)
turned one other Greater is not_before differ =
    before_less other one (nat_list_cmp_total.antisymm other one ∙ ap ordering_reverse is)

-- of two texts that differ one comes before the other
pub else_before : (one other : List ℕ) → comes_before one other ≡ false
    → bytes_eq one other ≡ false → comes_before other one ≡ true
else_before one other not_before differ =
    turned one other (order one other) refl not_before (is_eq-slice_cmp one other ∙ differ)

-- ---- an item that is placed before the first that passes a test

abbrev pub placed : {A : Type 0} → (A → Bool) → A → List A → List A
placed test item [] = item ∷ []
placed test item (one ∷ others) =
    cond (test one) (item ∷ one ∷ others) (one ∷ placed test item others)

further : {A : Type 0} (n m : ℕ) (item one : A) (others : List A) → m ≡ suc n
    → insert (one ∷ others) m item ≡ one ∷ insert others n item
further n m item one others is = ap (λ k. insert (one ∷ others) k item) is

placed_case : {A : Type 0} (passes : Bool) (n : ℕ) (item one : A) (others more : List A)
    → insert others n item ≡ more
    → insert (one ∷ others) (cond (not passes) (1 + n) 0) item
    ≡ cond passes (item ∷ one ∷ others) (one ∷ more)
placed_case true n item one others more is = refl
placed_case false n item one others more is =
    let next : 1 + n ≡ suc n = omega arith in
    further n (1 + n) item one others next ∙ ap (λ l. one ∷ l) is

pub is_placed : {A : Type 0} (test : A → Bool) (item : A) (list : List A)
    → insert list (position_or_len test list) item ≡ placed test item list
is_placed test item [] = refl
is_placed test item (one ∷ others) =
    placed_case (test one) (position_or_len test others) item one others _
    (is_placed test item others)

pub all_placed : {A : Type 0} (Holds : A → Type 0) (n : ℕ) (item : A) (list : List A)
    → Holds item → All Holds list → All Holds (insert list n item)
all_placed Holds n item list holds all =
    All-append Holds (take n list) (item ∷ drop n list) (All-take Holds n list all)
    (All-cons Holds item (drop n list) holds (All-drop Holds n list all))

placed_longer : {A : Type 0} (passes : Bool) (item one : A) (others more : List A)
    → length more ≡ length others + 1
    → length (cond passes (item ∷ one ∷ others) (one ∷ more)) ≡ length (one ∷ others) + 1
placed_longer true item one others more is = omega arith
placed_longer false item one others more is = omega arith

pub length_placed : {A : Type 0} (test : A → Bool) (item : A) (list : List A)
    → length (placed test item list) ≡ length list + 1
length_placed test item [] = omega arith
length_placed test item (one ∷ others) =
    placed_longer (test one) item one others (placed test item others)
    (length_placed test item others)
