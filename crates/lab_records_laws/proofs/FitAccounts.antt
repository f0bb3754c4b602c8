-- Accounts that administrators change are set under their own codes, and by whom is known.
use Rattle.std.proofs.Common.{◌≡◌, inl, inr, ℕ, Bool, true, false, cond, List, [], ◌∷◌, Option, Some, None, Result, Ok, Err, refl, sym, ◌∙◌, ap, subst}
use Rattle.std.specs.Prelude.{MatchOption, bytes_eq}
use Rattle.std.proofs.lemmas.Slice.Eq.{bytes_eq-Decides}
use Rattle.lab_forms_texts.specs.declared.tick.Tick.{Tick}
use Rattle.lab_people_access.specs.declared.persons.Person.{Person}
use Rattle.lab_people_access.specs.declared.persons.Ask.{Ask}
use Rattle.lab_people_access.specs.declared.roles.Roles.{Roles}
use Rattle.lab_people_access.specs.declared.refusals.PeopleRefusal.{PeopleRefusal}
use Rattle.lab_people_access.specs.Persons.{person_of, standing_ask, unlocked_person}
use Rattle.lab_people.specs.declared.accounts.Effect.{Effect}
use Rattle.lab_people.specs.declared.issues.Issued.{Issued}
use Rattle.lab_people.specs.Accounts.{person_meant, meant_then, setting_roles, retiring, unlocking}
use Rattle.lab_people.specs.Issues.{is_anothers, with_ask, with_one_time_word, asking, confirming, confirming_of}
use Rattle.lab_records_kept.specs.declared.labs.Lab.{Lab}
use Rattle.lab_records_kept.specs.declared.changes.Change.TheVariants.{PersonSet}
use Rattle.lab_records_kept.specs.Changes.{Fits, IsKnown, SamePerson, IsAskKnown}
use Rattle.lab_records_kept.specs.Lookups.{person_at}
use Rattle.lab_records_laws.proofs.LimitRules.{not_refused, given}

-- a person is found by the code
code_case : (test : Bool) (code : List ℕ) (person one : Person) (others : Option Person)
    → (test ≡ true → one.code ≡ code) → cond test (Some one) others ≡ Some person
    → (others ≡ Some person → person.code ≡ code) → person.code ≡ code
code_case true code person one others is found next =
    let same : person ≡ one = cc in ap (λ p. p.code) same ∙ is refl
code_case false code person one others is found next = next found

pub person_code_is : (code : List ℕ) (person : Person) (persons : List Person)
    → person_of persons code ≡ Some person → person.code ≡ code
person_code_is code person [] found = absurd (cc)
person_code_is code person (one ∷ others) found =
    code_case (bytes_eq one.code code) code person one (person_of others code)
    (bytes_eq-Decides one.code code).0 found (person_code_is code person others)

-- an account that is set
pub person_fits : (lab : Lab) (new old : Person) → person_of lab.persons new.code ≡ Some old
    → SamePerson old new → IsAskKnown lab old.ask new.ask → Fits lab (PersonSet new)
person_fits lab new old found same asked =
    subst (λ o. MatchOption o ⊥ (λ one. SamePerson one new × IsAskKnown lab one.ask new.ask))
    (sym found) (same, asked)

-- the person of a code, under the own code
pub own_code : (lab : Lab) (code : List ℕ) (person : Person) → person_at lab code ≡ Some person
    → person_of lab.persons person.code ≡ Some person
own_code lab code person found =
    subst (λ c. person_of lab.persons c ≡ Some person)
    (sym (person_code_is code person lab.persons found)) found

-- whom a command means was found
record IsMeant {A : Type 0} (found : Option Person) (next : Person → Result A PeopleRefusal)
    (value : A) : Type 0 where
  pub person : Person
  pub is_found : found ≡ Some person
  pub is : next person ≡ Ok value

meant_case : {A : Type 0} (retired own : Bool) (person : Person) (one other : PeopleRefusal)
    (next : Person → Result A PeopleRefusal) (value : A)
    → meant_then (cond retired (Err one) (cond own (Err other) (Ok person))) next ≡ Ok value
    → IsMeant (Some person) next value
meant_case true own person one other next value is = absurd (cc)
meant_case false true person one other next value is = absurd (cc)
meant_case false false person one other next value is =
    record { person = person; is_found = refl; is = is }

meant_gives : {A : Type 0} (caller : List ℕ) (found : Option Person)
    (next : Person → Result A PeopleRefusal) (value : A)
    → meant_then (person_meant caller found) next ≡ Ok value → IsMeant found next value
meant_gives caller None next value is = absurd (cc)
meant_gives caller (Some person) next value is =
    meant_case person.retired (bytes_eq person.code caller) person _ _ next value is

-- roles, retirement and unlocking
pub roles_fit : (lab : Lab) (caller code : List ℕ) (roles : Roles) (made : Effect)
    → setting_roles caller (person_at lab code) roles ≡ Ok made → Fits lab (PersonSet made.person)
unfolding setting_roles
roles_fit lab caller code roles made is =
    let by = meant_gives caller (person_at lab code) _ made is in
    let same = given _ _ by.is in
    subst (λ one. Fits lab (PersonSet one.person)) (sym same)
    (person_fits lab (record by.person { roles = roles }) by.person
    (own_code lab code by.person by.is_found) (record { code = refl; name = refl }) (inl refl))

pub retired_fits : (lab : Lab) (caller code : List ℕ) (made : Effect)
    → retiring caller (person_at lab code) ≡ Ok made → Fits lab (PersonSet made.person)
unfolding retiring
retired_fits lab caller code made is =
    let by = meant_gives caller (person_at lab code) _ made is in
    let same = given _ _ by.is in
    subst (λ one. Fits lab (PersonSet one.person)) (sym same)
    (person_fits lab (record by.person { retired = true }) by.person
    (own_code lab code by.person by.is_found) (record { code = refl; name = refl }) (inl refl))

pub unlocked_fits : (lab : Lab) (caller code : List ℕ) (made : Effect)
    → unlocking caller (person_at lab code) ≡ Ok made → Fits lab (PersonSet made.person)
unfolding unlocking
unlocked_fits lab caller code made is =
    let by = meant_gives caller (person_at lab code) _ made is in
    let same = given _ _ by.is in
    subst (λ one. Fits lab (PersonSet one.person)) (sym same)
    (person_fits lab (unlocked_person by.person) by.person
    (own_code lab code by.person by.is_found) (record { code = refl; name = refl }) (inl refl))

-- a one-time word that is asked for by somebody of the laboratory, and one that is confirmed
pub asked_fits : (lab : Lab) (caller code : List ℕ) (tick : Tick) (made : Issued)
    → asking caller (person_at lab code) tick ≡ Ok made → IsKnown lab caller
    → Fits lab (PersonSet made.person)
unfolding asking
asked_fits lab caller code tick made is known =
    let by = meant_gives caller (person_at lab code) _ made is in
    let free = not_refused (is_anothers caller (standing_ask by.person.ask tick.moment)) _ _ made
    by.is in
    let same = given _ _ free.1 in
    subst (λ one. Fits lab (PersonSet one.person)) (sym same)
    (person_fits lab (with_ask caller tick by.person).person by.person
    (own_code lab code by.person by.is_found) (record { code = refl; name = refl }) (inr known))

confirmed_by : (lab : Lab) (caller code : List ℕ) (tick : Tick) (person : Person)
    (ask : Option Ask) (made : Issued) → person_at lab code ≡ Some person
    → confirming_of caller tick person ask ≡ Ok made → Fits lab (PersonSet made.person)
confirmed_by lab caller code tick person None made found is = absurd (cc)
confirmed_by lab caller code tick person (Some ask) made found is =
    let free = not_refused (bytes_eq ask.asker caller) _ _ made is in
    let same = given _ _ free.1 in
    subst (λ one. Fits lab (PersonSet one.person)) (sym same)
    (person_fits lab (with_one_time_word tick ask person).person person
    (own_code lab code person found) (record { code = refl; name = refl }) (inr (record {})))

pub confirmed_fits : (lab : Lab) (caller code : List ℕ) (tick : Tick) (made : Issued)
    → confirming caller (person_at lab code) tick ≡ Ok made → Fits lab (PersonSet made.person)
unfolding confirming
confirmed_fits lab caller code tick made is =
    let by = meant_gives caller (person_at lab code) _ made is in
    confirmed_by lab caller code tick by.person (standing_ask by.person.ask tick.moment) made
    by.is_found by.is
