-- What users rely on, said of the definitions: runs of failed passwords, codes and one-time words
-- that were given, refusals, and sessions that are closed.
use Rattle.std.specs.Prelude.{◌≡◌, ◌≢◌, ℕ, true, false, List, [], ◌∷◌, length, Option, Some, None, option_and_then, Result, Ok, Err, if◌then◌else◌}
use Rattle.std.specs.List.{AllByRecursion}
use Rattle.lab_forms_texts.specs.declared.tick.Tick.{Tick}
use Rattle.lab_people_access.specs.declared.persons.Person.{Person}
use Rattle.lab_people_access.specs.declared.sessions.Session.{Session}
use Rattle.lab_people_access.specs.declared.refusals.Failure.{Failure}
use Rattle.lab_people_access.specs.declared.refusals.PeopleRefusal.{PeopleRefusal}
use Rattle.lab_people_access.specs.declared.refusals.PeopleRefusal.TheVariants.{OwnIssue, NoSuchPerson}
use Rattle.lab_people_access.specs.declared.refusals.Failure.TheVariants.{Stray}
use Rattle.lab_people_access.specs.declared.refusals.PeopleFault.TheVariants.{Failed}
use Rattle.lab_people_access.specs.declared.roles.Roles.{Roles}
use Rattle.lab_people_access.specs.declared.sessions.Closing.{Closing}
use Rattle.lab_people_access.specs.Passwords.{is_set, accepts}
use Rattle.lab_people_access.specs.Attempts.{attempt_of, signing_attempt}
use Rattle.lab_people_access.specs.Openings.{opening}
use Rattle.lab_people_access.specs.Sessions.{is_live, session_after, touched_session, signed_session}
use Rattle.lab_people_access.specs.Refusals.{failure_person}
use Rattle.lab_people.specs.Accounts.{changing, with_new_password, setting_roles, retiring, unlocking}
use Rattle.lab_people.specs.Issues.{asking, confirming}
use Rattle.lab_people.specs.declared.issues.Issued.{Issued}

-- a text that is given as a password, and when
pub record Try : Type 0 where
  pub text : List ℕ
  pub moment : ℕ

-- the person that a failed password leaves; none where it didn't fail, or was nobody's
abbrev pub person_left : Result Person Failure → Option Person
person_left (Ok person) = None
person_left (Err failure) = failure_person failure

-- the person after texts that were given one after the other, where each of them failed and was
-- counted
abbrev pub person_after : Person → List Try → Option Person
person_after person [] = Some person
person_after person (one ∷ others) =
    option_and_then (λ left. person_after left others)
    (person_left (attempt_of (Some person) one.text one.moment))

-- a person who has a password and isn't retired
pub record HasAccount (person : Person) : Type 0 where
  pub here : person.retired ≡ false
  pub set : is_set person.password ≡ true

-- the person's password doesn't accept the text at its moment
abbrev pub IsWrong : Person → Try → Type 0
IsWrong person one = accepts person.password one.text one.moment ≡ false

-- nor any of these
abbrev pub AreWrong : Person → List Try → Type 0
AreWrong person tries = AllByRecursion (IsWrong person) tries

-- nobody has or had the code
abbrev pub IsNewCode : List ℕ → List Person → Type 0
IsNewCode code persons = AllByRecursion (λ person. person.code ≢ code) persons

-- no session, open or closed, has the token of that digest
abbrev pub IsNewToken : List ℕ → List Session → Type 0
IsNewToken digest sessions = AllByRecursion (λ session. session.token ≢ digest) sessions

-- One administrator asked for a one-time word for somebody, and another confirmed it for the person
-- whom this left. A tick has eight random words.
pub record IsWordGiven (person : Option Person) (caller other : List ℕ) (tick later : Tick)
    (asked confirmed : Issued) : Type 0 where
  pub asks : asking caller person tick ≡ Ok asked
  pub eight_words : length tick.words ≡ 8
  pub confirms : confirming other (Some asked.person) later ≡ Ok confirmed
  pub eight_later_words : length later.words ≡ 8

-- why a command about the own account is refused
abbrev pub own_refusal : Person → PeopleRefusal
own_refusal person = if person.retired then NoSuchPerson else OwnIssue

-- a rule on persons refuses
abbrev pub IsRuleRefusal : {A : Type 0} → Result A PeopleRefusal → Type 0
IsRuleRefusal (Ok value) = ⊥
IsRuleRefusal (Err refusal) = Unit {0}

-- all of the person's sessions are closed
abbrev pub AreClosed : List ℕ → List Session → Type 0
AreClosed person sessions =
    AllByRecursion (λ session. session.person ≡ person → session.closed ≡ true) sessions

-- each command that one person gives about another's account is refused, for this reason
pub record AreRefused (caller : List ℕ) (person : Person) (tick : Tick) (roles : Roles)
    (why : PeopleRefusal) : Type 0 where
  pub asks : asking caller (Some person) tick ≡ Err why
  pub confirms : confirming caller (Some person) tick ≡ Err why
  pub sets_roles : setting_roles caller (Some person) roles ≡ Err why
  pub retires : retiring caller (Some person) ≡ Err why
  pub unlocks : unlocking caller (Some person) ≡ Err why

-- no password of the person is accepted, whichever was given: not in a session, nor at an opening, nor
-- where a new one is to take its place
pub record AcceptsNone (person : Person) (session : Session) (code text new : List ℕ)
    (given : Option (List ℕ)) (tick : Tick) (sessions : ℕ) (repeated : Option Session)
    : Type 0 where
  pub signs : signing_attempt person given text tick.moment ≡ Err Stray
  pub opens : opening code (Some person) text tick sessions repeated ≡ Err (Failed Stray)
  pub changes : changing person session text new tick ≡ Err (Failed Stray)

-- the session doesn't live, and is closed still after each thing that befalls sessions
pub record StaysClosed (session : Session) (closing : Closing) (code new : List ℕ)
    (person : Person) (tick : Tick) (moment : ℕ) : Type 0 where
  pub rests : is_live session moment ≡ false
  pub closing_again : (session_after closing code session).closed ≡ true
  pub request : (touched_session moment session).closed ≡ true
  pub signing : (signed_session session).closed ≡ true
  pub new_password : (with_new_password person session new tick).session.closed ≡ true
