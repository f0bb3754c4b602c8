-- A person who is added among persons that stand in the order of their codes.
use Rattle.std.proofs.Common.{◌≡◌, ◌+◌, ℕ, Bool, true, false, cond, List, [], ◌∷◌, length, Option, Some, None, refl, sym, ◌∙◌, ap, subst}
use Rattle.std.specs.Prelude.{bytes_eq}
use Rattle.std.proofs.lemmas.Slice.Eq.{bytes_eq-Decides}
use Rattle.lab_people_access.specs.declared.persons.Person.{Person}
use Rattle.lab_people_access.specs.Persons.{person_of}
use Rattle.lab_records_kept.specs.Changes.{added_person}
use Rattle.lab_records_kept.specs.Lookups.{comes_before}
use Rattle.lab_records_kept.specs.Limits.{AreInOrder}
use Rattle.lab_records_laws.proofs.LimitOrder.{placed, is_placed, length_placed, else_before}

abbrev comes_later : Person → Person → Bool
comes_later person one = comes_before person.code one.code

-- the first of a list, if there is one, has a later code
abbrev IsFirstLater : List ℕ → List Person → Type 0
IsFirstLater code [] = Unit {0}
IsFirstLater code (one ∷ others) = comes_before code one.code ≡ true

ordered_more : (one : Person) (list : List Person) → IsFirstLater one.code list → AreInOrder list
    → AreInOrder (one ∷ list)
ordered_more one [] later ordered = record {}
ordered_more one (other ∷ others) later ordered = (later, ordered)

first_later : (one : Person) (list : List Person) → AreInOrder (one ∷ list)
    → IsFirstLater one.code list
first_later one [] ordered = record {}
first_later one (other ∷ others) ordered = ordered.0

rest_ordered : (one : Person) (list : List Person) → AreInOrder (one ∷ list) → AreInOrder list
rest_ordered one [] ordered = record {}
rest_ordered one (other ∷ others) ordered = ordered.1

later_case : (test : Bool) (code : List ℕ) (person one : Person) (others more : List Person)
    → comes_before code person.code ≡ true → comes_before code one.code ≡ true
    → IsFirstLater code (cond test (person ∷ one ∷ others) (one ∷ more))
later_case true code person one others more before later = before
later_case false code person one others more before later = later

placed_later : (code : List ℕ) (person : Person) (list : List Person)
    → comes_before code person.code ≡ true → IsFirstLater code list
    → IsFirstLater code (placed (comes_later person) person list)
placed_later code person [] before later = before
placed_later code person (one ∷ others) before later =
    later_case (comes_later person one) code person one others
    (placed (comes_later person) person others) before later

nobody : (test : Bool) (one : Person) (others : Option Person)
    → cond test (Some one) others ≡ None → (test ≡ false) × (others ≡ None)
nobody true one others none = absurd (cc)
nobody false one others none = (refl, none)

swapped_by : (same : Bool) (one other : List ℕ) → bytes_eq other one ≡ same
    → bytes_eq one other ≡ false → bytes_eq other one ≡ false
swapped_by false one other is differ = is
swapped_by true one other is differ =
    let equal : other ≡ one = (bytes_eq-Decides other one).0 is in
    let yes : bytes_eq one other ≡ true = (bytes_eq-Decides one other).1 (sym equal) in
    absurd (cc (yes, differ))

swapped : (one other : List ℕ) → bytes_eq one other ≡ false → bytes_eq other one ≡ false
swapped one other differ = swapped_by (bytes_eq other one) one other refl differ

order_case : (test : Bool) (person one : Person) (others : List Person)
    → comes_later person one ≡ test → bytes_eq one.code person.code ≡ false
    → AreInOrder (one ∷ others)
    → AreInOrder (placed (comes_later person) person others)
    → AreInOrder (cond test (person ∷ one ∷ others)
    (one ∷ placed (comes_later person) person others))
order_case true person one others tested differ ordered next = (tested, ordered)
order_case false person one others tested differ ordered next =
    let before : comes_before one.code person.code ≡ true =
    else_before person.code one.code tested (swapped one.code person.code differ) in
    ordered_more one (placed (comes_later person) person others)
    (placed_later one.code person others before (first_later one others ordered)) next

placed_ordered : (person : Person) (persons : List Person)
    → person_of persons person.code ≡ None → AreInOrder persons
    → AreInOrder (placed (comes_later person) person persons)
placed_ordered person [] none ordered = record {}
placed_ordered person (one ∷ others) none ordered =
    let parts = nobody (bytes_eq one.code person.code) one (person_of others person.code) none in
    order_case (comes_later person one) person one others refl parts.0 ordered
    (placed_ordered person others parts.1 (rest_ordered one others ordered))

-- persons with one more, of a code that nobody has, stand in order
pub added_ordered : (person : Person) (persons : List Person)
    → person_of persons person.code ≡ None → AreInOrder persons
    → AreInOrder (added_person person persons)
added_ordered person persons none ordered =
    subst (λ l. AreInOrder l) (sym (is_placed (comes_later person) person persons))
    (placed_ordered person persons none ordered)

pub added_length : (person : Person) (persons : List Person)
    → length (added_person person persons) ≡ length persons + 1
added_length person persons =
    ap (λ l. length l) (is_placed (comes_later person) person persons)
    ∙ length_placed (comes_later person) person persons
