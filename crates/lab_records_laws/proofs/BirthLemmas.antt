-- A laboratory as it is born: three persons in order, one row of the trail, and nothing else.
use Rattle.std.proofs.Common.{◌≡◌, ℕ, ◌+◌, Bool, true, false, cond, not, ◌||◌, List, [], ◌∷◌, length, None, Some, Ok, Err, ◌≢◌, refl, sym, ◌∙◌, ap, subst, arith}
use Rattle.std.specs.Prelude.{bytes_eq, IsTrue, All}
use Rattle.std.specs.List.{position_or_len}
use Rattle.std.specs.Ordering.{nat_cmp, match_ordering, ordering_reverse, is_eq}
use Rattle.std.proofs.Common.{Ordering, Less, Equal, Greater}
use Rattle.std.specs.Cmp.Lexicographic.{slice_cmp, nat_list_cmp_total, nat_list_eq_equiv}
use Rattle.std.proofs.lemmas.Map.Text.{is_eq-slice_cmp}
use Rattle.std.proofs.lemmas.List.Elements.{All-nil}
use Rattle.lab_forms_texts.specs.declared.tick.Tick.{Tick}
use Rattle.lab_people_access.specs.declared.persons.Person.{Person}
use Rattle.lab_seal_hashes.specs.Words.{salt_at}
use Rattle.lab_records_kept.specs.declared.labs.Lab.{Lab}
use Rattle.lab_records_kept.specs.Lookups.{comes_before}
use Rattle.lab_records_kept.specs.Changes.{added_person}
use Rattle.lab_records_kept.specs.Limits.{AreInOrder, IsWithin, IsOrderly, IsByForm, IsSmallForm}
use Rattle.lab_records_kept.specs.Bound.{IsBound, IsBoundRecord}
use Rattle.lab_records_kept.specs.Dual.{IsDual, IsDualRecord}
use Rattle.lab_records_machine.specs.declared.births.Founding.{Founding}
use Rattle.lab_records_machine.specs.declared.births.BirthRefusal.TheVariants.{CodeTaken, BadPassword, LabExists}
use Rattle.lab_records_machine.specs.Births.{founder_person, founders_of, newborn, is_code_shared, are_passwords, born}
use Rattle.lab_records_laws.specs.Births.{IsAdministrator, IsFounded}
use Rattle.lab_records_laws.proofs.LimitOrder.{all_placed}
use Rattle.lab_records_laws.proofs.KeepLists.{placed, inserted_is, length_placed}

-- ---- the order of codes

before_by : (there back : Ordering) → there ≡ ordering_reverse back → is_eq back ≡ false
    → match_ordering back true false false ≡ false → IsTrue (match_ordering there true false false)
before_by there Less is differs h = absurd (cc)
before_by there Equal is differs h = absurd (cc)
before_by there Greater is differs h =
    subst (λ one. IsTrue (match_ordering one true false false)) (sym is) refl

-- of two different codes, one comes before the other
pub comes_otherwise : (one other : List ℕ) → bytes_eq one other ≡ false
    → comes_before one other ≡ false
    → IsTrue (comes_before other one)
comes_otherwise one other differs h =
    before_by (slice_cmp nat_cmp other one) (slice_cmp nat_cmp one other)
    (nat_list_cmp_total.antisymm other one) (is_eq-slice_cmp one other ∙ differs) h

-- ---- a person among others

-- a person of the code comes after a test
abbrev later : Person → Person → Bool
later person one = comes_before person.code one.code

added_is : (person : Person) (persons : List Person)
    → added_person person persons ≡ placed (later person) person persons
added_is person persons = inserted_is (later person) person persons

next_in_order : (before after : Bool) (person one other : Person) (rest : List Person)
    → comes_before person.code one.code ≡ before → comes_before person.code other.code ≡ after
    → bytes_eq person.code one.code ≡ false
    → IsTrue (comes_before one.code other.code) → (others : List Person)
    → AreInOrder (other ∷ others)
    → AreInOrder (cond after (person ∷ other ∷ others) (other ∷ rest))
    → AreInOrder (cond before (person ∷ one ∷ other ∷ others)
    (one ∷ cond after (person ∷ other ∷ others) (other ∷ rest)))
next_in_order true after person one other rest is later_is differs order others more ordered =
    (is, (order, more))
next_in_order false true person one other rest is later_is differs order others more ordered =
    (comes_otherwise person.code one.code differs is, ordered)
next_in_order false false person one other rest is later_is differs order others more ordered =
    (order, ordered)

first_in_order : (before : Bool) (person one : Person) → comes_before person.code one.code ≡ before
    → bytes_eq person.code one.code ≡ false
    → AreInOrder (cond before (person ∷ one ∷ []) (one ∷ person ∷ []))
first_in_order true person one is differs = (is, tt)
first_in_order false person one is differs = (comes_otherwise person.code one.code differs is, tt)

-- nobody of a list has the code
abbrev Differs : Person → List Person → Type 0
Differs person [] = Unit {0}
Differs person (one ∷ others) = (bytes_eq person.code one.code ≡ false) × Differs person others

placed_in_order : (person : Person) (persons : List Person) → Differs person persons
    → AreInOrder persons → AreInOrder (placed (later person) person persons)
placed_in_order person [] differs order = tt
placed_in_order person (one ∷ []) differs order =
    first_in_order (later person one) person one refl differs.0
placed_in_order person (one ∷ other ∷ others) differs order =
    next_in_order (later person one) (later person other) person one other
    (placed (later person) person others) refl refl differs.0 order.0 others order.1
    (placed_in_order person (other ∷ others) differs.1 order.1)

differs_by : (before : Bool) (another person one : Person) (others rest : List Person)
    → bytes_eq another.code person.code ≡ false → bytes_eq another.code one.code ≡ false
    → Differs another others → Differs another rest
    → Differs another (cond before (person ∷ one ∷ others) (one ∷ rest))
differs_by true another person one others rest differs first more ones = (differs, (first, more))
differs_by false another person one others rest differs first more ones = (first, ones)

differs_placed : (another person : Person) (persons : List Person)
    → bytes_eq another.code person.code ≡ false → Differs another persons
    → Differs another (placed (later person) person persons)
differs_placed another person [] differs more = (differs, tt)
differs_placed another person (one ∷ others) differs more =
    differs_by (later person one) another person one others (placed (later person) person others)
    differs more.0 more.1 (differs_placed another person others differs more.1)

-- ---- the founders

-- three persons of different codes, one put among the others after the other
record AreThree (persons : List Person) : Type 0 where
  pub long : length persons ≡ 3
  pub order : AreInOrder persons

three_placed : (one two three : Person) → bytes_eq two.code one.code ≡ false
    → bytes_eq three.code one.code ≡ false → bytes_eq three.code two.code ≡ false
    → AreThree (placed (later three) three (placed (later two) two (placed (later one) one [])))
three_placed one two three second third last =
    let more : Differs two (one ∷ []) = (second, tt) in
    let most : Differs three (one ∷ []) = (third, tt) in
    let two_order = placed_in_order two (one ∷ []) more tt in
    let pair = placed (later two) two (one ∷ []) in
    record {
      long = length_placed (later three) three pair
          ∙ ap (λ n. n + 1) (length_placed (later two) two (one ∷ []));
      order = placed_in_order three pair (differs_placed three two (one ∷ []) last most) two_order;
    }

none_shared : (one two three : Bool) → (one || two || three) ≡ false
    → (one ≡ false) × (two ≡ false) × (three ≡ false)
none_shared true two three h = absurd (cc)
none_shared false true three h = absurd (cc)
none_shared false false true h = absurd (cc)
none_shared false false false h = (refl, refl, refl)

turned : (one other : List ℕ) → bytes_eq one other ≡ false → bytes_eq other one ≡ false
turned one other h = nat_list_eq_equiv.symm other one ∙ h

-- the founders, put among each other as they are
founders_are : (one two three : Person)
    → added_person three (added_person two (added_person one []))
    ≡ placed (later three) three (placed (later two) two (placed (later one) one []))
founders_are one two three =
    added_is three (added_person two (added_person one []))
    ∙ ap (placed (later three) three) (added_is two (added_person one [])
    ∙ ap (placed (later two) two) (added_is one []))

founders_three : (tick : Tick) (founding : Founding) → is_code_shared founding ≡ false
    → AreThree (founders_of tick founding)
founders_three tick founding h =
    let apart = none_shared (bytes_eq founding.first.code founding.second.code)
    (bytes_eq founding.first.code founding.third.code)
    (bytes_eq founding.second.code founding.third.code) h in
    let one = founder_person founding.first (salt_at tick.words 0) tick.moment in
    let two = founder_person founding.second (salt_at tick.words 1) tick.moment in
    let three = founder_person founding.third (salt_at tick.words 2) tick.moment in
    subst AreThree (sym (founders_are one two three))
    (three_placed one two three (turned founding.first.code founding.second.code apart.0)
    (turned founding.first.code founding.third.code apart.1)
    (turned founding.second.code founding.third.code apart.2))

-- ---- the laboratory

within : (code : List ℕ) (tick : Tick) (founding : Founding) → AreThree (founders_of tick founding)
    → IsWithin (newborn code tick founding)
within code tick founding three = record {
  persons = omega (arith, three.long);
  sessions = omega arith;
  trail = omega arith;
  records = omega arith;
  strays = omega arith;
  forms = All-nil IsSmallForm;
  orderly = All-nil IsOrderly;
  by_form = All-nil (IsByForm []);
  persons_ordered = three.order;
  forms_ordered = tt;
  forms_numbered = tt;
  sessions_numbered = tt;
  records_numbered = tt;
  trail_numbered = (refl, tt);
}

abbrev IsRight : Lab → Type 0
IsRight lab = IsWithin lab × IsBound lab × IsDual lab

newborn_right : (code : List ℕ) (tick : Tick) (founding : Founding)
    → AreThree (founders_of tick founding) → IsRight (newborn code tick founding)
newborn_right code tick founding three =
    (within code tick founding three, All-nil (IsBoundRecord code), All-nil IsDualRecord)

born_by : (shared bad : Bool) (newborn lab : Lab)
    → cond shared (Err CodeTaken) (cond bad (Err BadPassword) (Ok newborn)) ≡ Ok lab
    → (shared ≡ false) × (newborn ≡ lab)
born_by true bad newborn lab h = absurd (cc)
born_by false true newborn lab h = absurd (cc)
born_by false false newborn lab h = (refl, cc)

-- a laboratory is born right
pub born_right : (code : List ℕ) (tick : Tick) (founding : Founding) (lab : Lab)
    → born None code tick founding ≡ Ok lab → IsWithin lab × IsBound lab × IsDual lab
born_right code tick founding lab h =
    let is = born_by (is_code_shared founding) (not (are_passwords founding))
    (newborn code tick founding) lab h in
    subst IsRight is.1 (newborn_right code tick founding (founders_three tick founding is.0))

-- three administrators
rule_added : (person : Person) (persons : List Person) → IsAdministrator person
    → All IsAdministrator persons → All IsAdministrator (added_person person persons)
rule_added person persons one all =
    all_placed IsAdministrator
    (position_or_len (λ other. comes_before person.code other.code) persons) person persons one all

founders_rule : (tick : Tick) (founding : Founding)
    → All IsAdministrator (founders_of tick founding)
founders_rule tick founding =
    let first = founder_person founding.first (salt_at tick.words 0) tick.moment in
    let second = founder_person founding.second (salt_at tick.words 1) tick.moment in
    let third = founder_person founding.third (salt_at tick.words 2) tick.moment in
    let one = rule_added first [] refl (All-nil IsAdministrator) in
    let two = rule_added second (added_person first []) refl one in
    rule_added third (added_person second (added_person first [])) refl two

-- what a laboratory is born with
pub born_founded : (code : List ℕ) (tick : Tick) (founding : Founding) (lab : Lab)
    → born None code tick founding ≡ Ok lab → IsFounded lab
born_founded code tick founding lab h =
    let is = born_by (is_code_shared founding) (not (are_passwords founding))
    (newborn code tick founding) lab h in
    subst IsFounded is.1 (record {
      three = (founders_three tick founding is.0).long;
      administrators = founders_rule tick founding;
      told = refl;
      no_sessions = refl;
      no_forms = refl;
      no_records = refl;
    })

-- where nothing is wrong with a founding, a laboratory is born
taken_by : (shared fine : Bool) (newborn : Lab) → shared ≡ false → fine ≡ true
    → cond shared (Err CodeTaken) (cond (not fine) (Err BadPassword) (Ok newborn)) ≡ Ok newborn
taken_by true fine newborn apart may = absurd (cc)
taken_by false false newborn apart may = absurd (cc)
taken_by false true newborn apart may = refl

pub born_taken : (code : List ℕ) (tick : Tick) (founding : Founding)
    → is_code_shared founding ≡ false → are_passwords founding ≡ true
    → born None code tick founding ≡ Ok (newborn code tick founding)
born_taken code tick founding apart may =
    taken_by (is_code_shared founding) (are_passwords founding) (newborn code tick founding) apart may

-- none is born where there is one
again_by : (shared bad : Bool) (other : Lab)
    → cond shared (Err CodeTaken) (cond bad (Err BadPassword) (Err LabExists)) ≢ Ok other
again_by true bad other = λ h. absurd (cc)
again_by false true other = λ h. absurd (cc)
again_by false false other = λ h. absurd (cc)

pub not_again : (lab other : Lab) (code : List ℕ) (tick : Tick) (founding : Founding)
    → born (Some lab) code tick founding ≢ Ok other
not_again lab other code tick founding =
    again_by (is_code_shared founding) (not (are_passwords founding)) other
