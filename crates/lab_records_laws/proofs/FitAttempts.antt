-- A password that is given leaves its person's code, name and what was asked for as they were.
use Rattle.std.proofs.Common.{◌≡◌, ℕ, ◌+◌, Bool, true, false, not, cond, ◌&&◌, ◌||◌, List, Some, Result, Ok, Err, refl, inl, nat_lt}
use Rattle.lab_people_access.specs.declared.persons.Person.{Person}
use Rattle.lab_people_access.specs.declared.refusals.Failure.{Failure}
use Rattle.lab_people_access.specs.declared.refusals.Failure.TheVariants.{Counted, Locking, AlreadyLocked, Stray}
use Rattle.lab_people_access.specs.Attempts.{attempt_by, failure_of, failure_count, failures_to_lock, counted_person, locked_person}
use Rattle.lab_people_access.specs.Passwords.{is_set, accepts}
use Rattle.lab_people_access.specs.Persons.{is_locked, unlocked_person}
use Rattle.lab_records_kept.specs.declared.labs.Lab.{Lab}
use Rattle.lab_records_kept.specs.declared.changes.Change.TheVariants.{PersonSet}
use Rattle.lab_records_kept.specs.Changes.{Fits}
use Rattle.lab_records_kept.specs.Lookups.{person_at}
use Rattle.lab_records_laws.proofs.FitAccounts.{person_fits, own_code}

-- the person whom an attempt leaves can be set in the laboratory
abbrev pub FitsAttempt : Lab → Result Person Failure → Type 0
FitsAttempt lab (Ok person) = Fits lab (PersonSet person)
FitsAttempt lab (Err (Counted person)) = Fits lab (PersonSet person)
FitsAttempt lab (Err (Locking person)) = Fits lab (PersonSet person)
FitsAttempt lab (Err (AlreadyLocked person)) = Fits lab (PersonSet person)
FitsAttempt lab (Err Stray) = Unit {0}

failure_fits : (few : Bool) (lab : Lab) (code : List ℕ) (person : Person) (count moment : ℕ)
    → person_at lab code ≡ Some person
    → FitsAttempt lab (Err (cond few (Counted (counted_person count person))
    (Locking (locked_person moment person))))
failure_fits true lab code person count moment found =
    person_fits lab (counted_person count person) person (own_code lab code person found)
    (record { code = refl; name = refl }) (inl refl)
failure_fits false lab code person count moment found =
    person_fits lab (locked_person moment person) person (own_code lab code person found)
    (record { code = refl; name = refl }) (inl refl)

attempt_case : (out locked right : Bool) (lab : Lab) (code : List ℕ) (person : Person) (moment : ℕ)
    → person_at lab code ≡ Some person
    → FitsAttempt lab (cond out (Err Stray) (cond locked (Err (AlreadyLocked person))
    (cond right (Ok (unlocked_person person)) (Err (failure_of person moment)))))
attempt_case true locked right lab code person moment found = record {}
attempt_case false true right lab code person moment found =
    person_fits lab person person (own_code lab code person found)
    (record { code = refl; name = refl }) (inl refl)
attempt_case false false true lab code person moment found =
    person_fits lab (unlocked_person person) person (own_code lab code person found)
    (record { code = refl; name = refl }) (inl refl)
attempt_case false false false lab code person moment found =
    failure_fits (nat_lt (failure_count person.locked person.failures + 1) failures_to_lock) lab
    code person (failure_count person.locked person.failures + 1) moment found

-- whoever gives it, and whatever comes of it
pub attempt_fits : (lab : Lab) (code : List ℕ) (person : Person) (is_own : Bool) (text : List ℕ)
    (moment : ℕ) → person_at lab code ≡ Some person
    → FitsAttempt lab (attempt_by person is_own text moment)
unfolding attempt_by
attempt_fits lab code person is_own text moment found =
    attempt_case (person.retired || not (is_set person.password)) (is_locked person.locked moment)
    (is_own && accepts person.password text moment) lab code person moment found
