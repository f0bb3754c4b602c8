-- Persons in the order of their codes: one who is added among them stands in that order, and has what all of them have.
use Rattle.std.proofs.Common.{◌≡◌, ◌+◌, ℕ, suc, Bool, true, false, not, cond, List, [], ◌∷◌, refl, sym, ◌∙◌, ap, subst, true≢false, arith, Ordering, Less, Equal, Greater, bytes_eq, is_eq, is_gt}
use Rattle.std.specs.List.{AllByRecursion, insert, position_or_len}
use Rattle.std.specs.Ordering.{ordering_reverse, nat_cmp, match_ordering}
use Rattle.std.specs.Cmp.Lexicographic.{slice_cmp, nat_list_cmp_total}
use Rattle.std.proofs.lemmas.Map.Text.{is_eq-slice_cmp}
use Rattle.sqlite_trees.specs.Tree.{IsAscending}
use Rattle.sqlite_keyed.proofs.ListLemmas.{all_weaker}
use Rattle.lab_people_access.specs.declared.persons.Person.{Person}
use Rattle.lab_records_kept.specs.declared.births.Newborn.{Newborn}
use Rattle.lab_records_kept.specs.Births.{newborn_lab}
use Rattle.lab_records_kept.specs.Lookups.{comes_before}
use Rattle.lab_records_kept.specs.Changes.{added_person}

-- ---- the order of texts

less : (o : Ordering) → match_ordering o true false false ≡ true → o ≡ Less
less Less is = refl
less Equal is = absurd (true≢false (sym is))
less Greater is = absurd (true≢false (sym is))

before_if_less : (one other : List ℕ) → slice_cmp nat_cmp one other ≡ Less → comes_before one other ≡ true
before_if_less one other is = ap (λ o. match_ordering o true false false) is

never_both : (one other : List ℕ) → comes_before one other ≡ true → comes_before other one ≡ false
never_both one other before =
    ap (λ o. match_ordering o true false false)
    (nat_list_cmp_total.antisymm other one ∙ ap ordering_reverse (less (slice_cmp nat_cmp one other) before))

-- what doesn't come before one doesn't come before what is earlier still
not_earlier : (one other third : List ℕ) → comes_before one other ≡ true → comes_before third other ≡ false → comes_before third one ≡ false
not_earlier one other third before not_before = go (comes_before third one) refl
  where
    go : (b : Bool) → comes_before third one ≡ b → comes_before third one ≡ false
    go true e =
        let there : comes_before third other ≡ true = before_if_less third other
        (nat_list_cmp_total.trans third one other (less (slice_cmp nat_cmp third one) e) (less (slice_cmp nat_cmp one other) before)) in
        absurd (true≢false (sym there ∙ not_before))
    go false e = e

behind_by : (o : Ordering) → match_ordering o true false false ≡ false → is_eq (ordering_reverse o) ≡ false → is_gt o ≡ true
behind_by Less before differs = absurd (true≢false before)
behind_by Equal before differs = absurd (true≢false differs)
behind_by Greater before differs = refl

pub untied : (one other : List ℕ) → bytes_eq one other ≡ false → is_eq (slice_cmp nat_cmp one other) ≡ false
untied one other differs = is_eq-slice_cmp one other ∙ differs

-- another text that doesn't come before one comes behind it
pub comes_behind : (one other : List ℕ) → comes_before other one ≡ false → bytes_eq one other ≡ false → is_gt (slice_cmp nat_cmp other one) ≡ true
comes_behind one other not_before differs =
    behind_by (slice_cmp nat_cmp other one) not_before (ap is_eq (sym (nat_list_cmp_total.antisymm one other)) ∙ untied one other differs)

-- ---- an item that is placed before the first that passes a test

abbrev placed : {A : Type 0} → (A → Bool) → A → List A → List A
placed test item [] = item ∷ []
placed test item (one ∷ others) = cond (test one) (item ∷ one ∷ others) (one ∷ placed test item others)

further : {A : Type 0} (n m : ℕ) (item one : A) (others : List A) → m ≡ suc n → insert (one ∷ others) m item ≡ one ∷ insert others n item
further n m item one others is = ap (λ k. insert (one ∷ others) k item) is

placed_case : {A : Type 0} (passes : Bool) (n : ℕ) (item one : A) (others more : List A) → insert others n item ≡ more
    → insert (one ∷ others) (cond (not passes) (1 + n) 0) item ≡ cond passes (item ∷ one ∷ others) (one ∷ more)
placed_case true n item one others more is = refl
placed_case false n item one others more is =
    let next : 1 + n ≡ suc n = omega arith in
    further n (1 + n) item one others next ∙ ap (λ l. one ∷ l) is

is_placed : {A : Type 0} (test : A → Bool) (item : A) (list : List A) → insert list (position_or_len test list) item ≡ placed test item list
is_placed test item [] = refl
is_placed test item (one ∷ others) = placed_case (test one) (position_or_len test others) item one others _ (is_placed test item others)

all_placed : {A : Type 0} (P : A → Type 0) (test : A → Bool) (item : A) (list : List A) → P item → AllByRecursion P list
    → AllByRecursion P (placed test item list)
all_placed P test item [] holds all = (holds, tt)
all_placed P test item (one ∷ others) holds all = go (test one) (all_placed P test item others holds all.1)
  where
    go : (b : Bool) → AllByRecursion P (placed test item others) → AllByRecursion P (cond b (item ∷ one ∷ others) (one ∷ placed test item others))
    go true more = (holds, all)
    go false more = (all.0, more)

-- ---- persons

-- none comes before one that stands ahead
abbrev pub AreByCode : List Person → Type 0
AreByCode = IsAscending (λ (one other : Person). comes_before other.code one.code ≡ false)

abbrev later : Person → Person → Bool
later person one = comes_before person.code one.code

placed_in_order : (person : Person) (persons : List Person) → AreByCode persons → AreByCode (placed (later person) person persons)
placed_in_order person [] order = (tt, tt)
placed_in_order person (one ∷ others) order = go (comes_before person.code one.code) refl (placed_in_order person others order.1)
  where
    go : (b : Bool) → comes_before person.code one.code ≡ b → AreByCode (placed (later person) person others)
        → AreByCode (cond b (person ∷ one ∷ others) (one ∷ placed (later person) person others))
    go true e more = (
      (
        never_both person.code one.code e,
        all_weaker (λ (other : Person). comes_before other.code one.code ≡ false) (λ (other : Person). comes_before other.code person.code ≡ false)
            (λ other h. not_earlier person.code one.code other.code e h) others order.0,
      ),
      order,
    )
    go false e more = (all_placed (λ (other : Person). comes_before other.code one.code ≡ false) (later person) person others e order.0, more)

pub added_in_order : (person : Person) (persons : List Person) → AreByCode persons → AreByCode (added_person person persons)
added_in_order person persons order = subst AreByCode (sym (is_placed (later person) person persons)) (placed_in_order person persons order)

pub all_added : (P : Person → Type 0) (person : Person) (persons : List Person) → P person → AllByRecursion P persons
    → AllByRecursion P (added_person person persons)
all_added P person persons holds all =
    subst (AllByRecursion P) (sym (is_placed (later person) person persons)) (all_placed P (later person) person persons holds all)

-- ---- the founders of a laboratory

pub founders_in_order : (newborn : Newborn) → AreByCode (newborn_lab newborn).persons
founders_in_order newborn =
    added_in_order newborn.third (added_person newborn.second (added_person newborn.first []))
    (added_in_order newborn.second (added_person newborn.first []) (added_in_order newborn.first [] tt))

pub all_founders : (P : Person → Type 0) (newborn : Newborn) → P newborn.first → P newborn.second → P newborn.third
    → AllByRecursion P (newborn_lab newborn).persons
all_founders P newborn first second third =
    all_added P newborn.third (added_person newborn.second (added_person newborn.first [])) third
    (all_added P newborn.second (added_person newborn.first []) second (all_added P newborn.first [] first tt))
