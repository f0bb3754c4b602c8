-- A count that is cut at the greatest number of 32 bits is refused, and numbered, as the count
-- itself: each limit is below.
use Rattle.std.proofs.Common.{◌≡◌, ℕ, ◌+◌, Bool, true, false, arith, List, refl, ap, Option, Some, None}
use Rattle.std.specs.Prelude.{min, nat_le, Result, Ok, Err, if◌then◌else◌}
use Rattle.std.proofs.lemmas.Bool.Decides.{nat_tests}
use Rattle.lab_forms_texts.specs.declared.tick.Tick.{Tick}
use Rattle.lab_forms_texts.specs.Ordinals.{ordinal_of}
use Rattle.lab_people_access.specs.declared.persons.Person.{Person}
use Rattle.lab_people_access.specs.declared.roles.Roles.{Roles}
use Rattle.lab_people_access.specs.declared.sessions.Session.{Session}
use Rattle.lab_people_access.specs.declared.refusals.Failure.{Failure}
use Rattle.lab_people_access.specs.declared.refusals.PeopleRefusal.TheVariants.{LabFull}
use Rattle.lab_people_access.specs.Attempts.{attempt_of}
use Rattle.lab_people_access.specs.Openings.{opening, opening_by, numbered_opening}
use Rattle.lab_people_access.specs.Persons.{newcomer}
use Rattle.lab_people.specs.Accounts.{enrolling}

-- by whether there is a next number
number_by : (count : ℕ) (few : Bool) → nat_le (count + 1) 1000000000 ≡ few
    → ordinal_of (min count 4294967295 + 1) ≡ ordinal_of (count + 1)
number_by count true is = grind (arith, nat_tests)
number_by count false is = grind (arith, nat_tests)

same_number : (count : ℕ) → ordinal_of (min count 4294967295 + 1) ≡ ordinal_of (count + 1)
same_number count = number_by count (nat_le (count + 1) 1000000000) refl

opening_of : (outcome : Result Person Failure) (code : List ℕ) (tick : Tick) (count : ℕ)
    (repeated : Option Session)
    → opening_by outcome code tick (min count 4294967295) repeated
    ≡ opening_by outcome code tick count repeated
opening_of (Err failure) code tick count repeated = refl
opening_of (Ok person) code tick count (Some session) = refl
opening_of (Ok person) code tick count None =
    ap (λ (number : Option ℕ). numbered_opening number code tick person) (same_number count)

-- an opening, where the count of sessions is cut
pub opening_cut : (code : List ℕ) (person : Option Person) (text : List ℕ) (tick : Tick)
    (count : ℕ) (repeated : Option Session)
    → opening code person text tick (min count 4294967295) repeated
    ≡ opening code person text tick count repeated
unfolding opening
opening_cut code person text tick count repeated =
    opening_of (attempt_of person text tick.moment) code tick count repeated

-- by whether the laboratory is full
test_by : (count : ℕ) (full : Bool) → nat_le 500 count ≡ full
    → nat_le 500 (min count 4294967295) ≡ full
test_by count true is = grind (arith, nat_tests)
test_by count false is = grind (arith, nat_tests)

-- an enrolment, where the count of persons is cut
pub enrolling_cut : (code name : List ℕ) (roles : Roles) (holder : Option Person) (count : ℕ)
    → enrolling code name roles holder (min count 4294967295)
    ≡ enrolling code name roles holder count
unfolding enrolling
enrolling_cut code name roles (Some person) count = refl
enrolling_cut code name roles None count =
    ap (λ (full : Bool). if full then Err LabFull else Ok (newcomer code name roles))
    (test_by count (nat_le 500 count) refl)
