-- The numbers and words of refusals of persons, and what a failed password leaves.
use Rattle.std.specs.Prelude.{Option, Some, None, codes}
use Rattle.lab_forms_texts.specs.Faults.{Entry}
use Rattle.lab_people_access.specs.declared.persons.Person.{Person}
use Rattle.lab_people_access.specs.declared.sessions.Closing.{Closing}
use Rattle.lab_people_access.specs.declared.sessions.Closing.TheVariants.{Nothing, All}
use Rattle.lab_people_access.specs.declared.refusals.Failure.{Failure}
use Rattle.lab_people_access.specs.declared.refusals.Failure.TheVariants.{Counted, Locking, AlreadyLocked, Stray}
use Rattle.lab_people_access.specs.declared.refusals.PeopleRefusal.{PeopleRefusal}
use Rattle.lab_people_access.specs.declared.refusals.PeopleRefusal.TheVariants.{Credentials, RandomRepeated, NoSession, PasswordDue, RoleWanted, BadPassword, SamePassword, CodeTaken, LabFull, OwnIssue, IssueOpen, SamePerson, NoIssue, NoSuchPerson}
use Rattle.lab_people_access.specs.declared.refusals.PeopleFault.{PeopleFault}
use Rattle.lab_people_access.specs.declared.refusals.PeopleFault.TheVariants.{Failed, Refused}

-- the number and the word of a refusal
abbrev pub people_refusal_entry : PeopleRefusal → Entry
people_refusal_entry Credentials = record { number = 20; word = codes "credentials" }
people_refusal_entry RandomRepeated = record { number = 21; word = codes "random_repeated" }
people_refusal_entry NoSession = record { number = 22; word = codes "no_session" }
people_refusal_entry PasswordDue = record { number = 23; word = codes "password_due" }
people_refusal_entry (RoleWanted rule) = record { number = 24; word = codes "role_wanted" }
people_refusal_entry BadPassword = record { number = 25; word = codes "bad_password" }
people_refusal_entry SamePassword = record { number = 26; word = codes "same_password" }
people_refusal_entry CodeTaken = record { number = 27; word = codes "code_taken" }
people_refusal_entry LabFull = record { number = 28; word = codes "lab_full" }
people_refusal_entry OwnIssue = record { number = 29; word = codes "own_issue" }
people_refusal_entry IssueOpen = record { number = 30; word = codes "issue_open" }
people_refusal_entry SamePerson = record { number = 31; word = codes "same_person" }
people_refusal_entry NoIssue = record { number = 32; word = codes "no_issue" }
people_refusal_entry NoSuchPerson = record { number = 33; word = codes "no_such_person" }

-- the refusal as which a fault is told: whoever fails by a password is told the same in every case
abbrev pub fault_refusal : PeopleFault → PeopleRefusal
fault_refusal (Failed failure) = Credentials
fault_refusal (Refused refusal) = refusal

-- the person as a failed password leaves them, if it is anybody's
abbrev pub failure_person : Failure → Option Person
failure_person (Counted person) = Some person
failure_person (Locking person) = Some person
failure_person (AlreadyLocked person) = Some person
failure_person Stray = None

-- the lock of the fifth failed password closes the person's sessions
abbrev pub failure_closing : Failure → Closing
failure_closing (Counted person) = Nothing
failure_closing (Locking person) = All
failure_closing (AlreadyLocked person) = Nothing
failure_closing Stray = Nothing
