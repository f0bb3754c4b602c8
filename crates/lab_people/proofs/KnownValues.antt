-- Values from outside, so that a wrong rule in the definitions does not check: enrolments, and asks to the second.
use Rattle.std.proofs.Common.{◌≡◌, ℕ, List, refl, true, false, Option, Some, None, Err}
use Rattle.std.specs.Prelude.{codes}
use Rattle.lab_forms_texts.specs.declared.tick.Tick.{Tick}
use Rattle.lab_people_access.specs.declared.persons.Person.{Person}
use Rattle.lab_people_access.specs.declared.persons.Ask.{Ask}
use Rattle.lab_people_access.specs.declared.roles.Roles.{Roles}
use Rattle.lab_people_access.specs.declared.refusals.PeopleRefusal.TheVariants.{CodeTaken, LabFull, OwnIssue, IssueOpen, SamePerson, NoIssue, NoSuchPerson}
use Rattle.lab_people.specs.Accounts.{enrolling, retiring}
use Rattle.lab_people.specs.Issues.{asking, confirming}

-- the 501st person, and a code that is taken in a full laboratory
pub known_enrolments : (name : List ℕ) (roles : Roles) (holder : Person)
    → (enrolling (codes "dan") name roles None 500 ≡ Err LabFull)
    × (enrolling (codes "dan") name roles (Some holder) 500 ≡ Err CodeTaken)
unfolding enrolling
known_enrolments name roles holder = (refl, refl)

-- dan, for whom somebody asked at second 100
abbrev asked_for : Person → Ask → List ℕ → Person
asked_for person ask asker =
    record person { code = codes "dan"; retired = false; ask = Some (record ask { asker = asker; asked = 100 }) }

abbrev at : Tick → ℕ → Tick
at tick moment = record tick { moment = moment }

-- what ann asked for at 100 bars bob until 604,900, and she never confirms it
pub known_asks : (person : Person) (ask : Ask) (tick : Tick)
    → (asking (codes "bob") (Some (asked_for person ask (codes "ann"))) (at tick 604900) ≡ Err IssueOpen)
    × (confirming (codes "ann") (Some (asked_for person ask (codes "ann"))) (at tick 604900) ≡ Err SamePerson)
    × (confirming (codes "bob") (Some (asked_for person ask (codes "ann"))) (at tick 604901) ≡ Err NoIssue)
    × (confirming (codes "dan") (Some (asked_for person ask (codes "ann"))) (at tick 604900) ≡ Err OwnIssue)
unfolding asking confirming
known_asks person ask tick = (refl, refl, refl, refl)

-- nobody is retired who isn't there
pub known_missing : retiring (codes "ann") None ≡ Err NoSuchPerson
unfolding retiring
known_missing = refl
