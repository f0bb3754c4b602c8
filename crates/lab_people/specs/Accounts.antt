-- What is done to persons' accounts, by themselves and by administrators (21 CFR 11.100(a), a code
-- "shall not be reused by, or reassigned to, anyone else", and 11.300(a)).
use Rattle.std.specs.Prelude.{ℕ, Bool, true, false, not, nat_le, List, Option, Some, None, is_some, Result, Ok, Err, bytes_eq, if◌then◌else◌}
use Rattle.lab_forms_texts.specs.declared.tick.Tick.{Tick}
use Rattle.lab_seal_hashes.specs.Words.{salt_of}
use Rattle.lab_people_access.specs.declared.roles.Roles.{Roles}
use Rattle.lab_people_access.specs.declared.persons.Person.{Person}
use Rattle.lab_people_access.specs.declared.sessions.Session.{Session}
use Rattle.lab_people_access.specs.declared.sessions.Closing.TheVariants.{Nothing, All, Others}
use Rattle.lab_people_access.specs.declared.refusals.Failure.{Failure}
use Rattle.lab_people_access.specs.declared.refusals.PeopleFault.{PeopleFault}
use Rattle.lab_people_access.specs.declared.refusals.PeopleFault.TheVariants.{Failed, Refused}
use Rattle.lab_people_access.specs.declared.refusals.PeopleRefusal.{PeopleRefusal}
use Rattle.lab_people_access.specs.declared.refusals.PeopleRefusal.TheVariants.{BadPassword, SamePassword, CodeTaken, LabFull, OwnIssue, NoSuchPerson}
use Rattle.lab_people_access.specs.Attempts.{attempt_of}
use Rattle.lab_people_access.specs.Passwords.{is_password, chosen_password}
use Rattle.lab_people_access.specs.Persons.{newcomer, person_limit, unlocked_person}
use Rattle.lab_people.specs.declared.accounts.PasswordChanged.{PasswordChanged}
use Rattle.lab_people.specs.declared.accounts.Effect.{Effect}

-- The own password.

-- what a change of the password gives: the session is as before its first signature, and the
-- person's others are closed
abbrev pub with_new_password : Person → Session → List ℕ → Tick → PasswordChanged
with_new_password person session new tick = record {
  person = record person { password = chosen_password new (salt_of tick.words) tick.moment };
  session = record session { signed = false };
  closing = Others session.number;
}

-- what follows on the old password that was given
abbrev pub changing_by : Result Person Failure → Session → List ℕ → List ℕ → Tick
    → Result PasswordChanged PeopleFault
changing_by (Err failure) session old new tick = Err (Failed failure)
changing_by (Ok person) session old new tick =
    if not (is_password new) then Err (Refused BadPassword)
    else (if bytes_eq new old then Err (Refused SamePassword)
    else Ok (with_new_password person session new tick))

-- a person changes the own password in a session, by the old one
unfoldable pub changing : Person → Session → List ℕ → List ℕ → Tick
    → Result PasswordChanged PeopleFault
changing person session old new tick =
    changing_by (attempt_of (Some person) old tick.moment) session old new tick

-- Enrolment.

-- a person is enrolled, where somebody has or had the code or nobody, and where the laboratory has
-- so many persons
unfoldable pub enrolling : List ℕ → List ℕ → Roles → Option Person → ℕ → Result Person PeopleRefusal
enrolling code name roles holder persons =
    if is_some holder then Err CodeTaken
    else (if nat_le person_limit persons then Err LabFull
    else Ok (newcomer code name roles))

-- Commands about others.

-- whom a command of the caller is about: somebody who is there, and isn't the caller
abbrev pub person_meant : List ℕ → Option Person → Result Person PeopleRefusal
person_meant caller None = Err NoSuchPerson
person_meant caller (Some person) =
    if person.retired then Err NoSuchPerson
    else (if bytes_eq person.code caller then Err OwnIssue
    else Ok person)

-- what follows where somebody is meant
abbrev pub meant_then : {A : Type 0} → Result Person PeopleRefusal
    → (Person → Result A PeopleRefusal) → Result A PeopleRefusal
meant_then (Ok person) next = next person
meant_then (Err refusal) next = Err refusal

-- an administrator sets a person's roles
unfoldable pub setting_roles : List ℕ → Option Person → Roles → Result Effect PeopleRefusal
setting_roles caller person roles =
    meant_then (person_meant caller person)
    (λ found. Ok (record { person = record found { roles = roles }; closing = Nothing }))

-- an administrator retires a person, for good
unfoldable pub retiring : List ℕ → Option Person → Result Effect PeopleRefusal
retiring caller person =
    meant_then (person_meant caller person)
    (λ found. Ok (record { person = record found { retired = true }; closing = All }))

-- an administrator unlocks a person
unfoldable pub unlocking : List ℕ → Option Person → Result Effect PeopleRefusal
unlocking caller person =
    meant_then (person_meant caller person)
    (λ found. Ok (record { person = unlocked_person found; closing = Nothing }))
