-- What comes of a password that is given: for a code at an opening, and by a person in a session at
-- a signing and at a change of the password (the guard against attempts at unauthorized use that 21
-- CFR 11.300(d) asks for; who is told of them, and where they are written down, isn't said here).
use Rattle.std.specs.Prelude.{ℕ, ◌+◌, Bool, true, not, ◌&&◌, ◌||◌, nat_lt, List, Option, Some, None, Result, Ok, Err, bytes_eq, if◌then◌else◌}
use Rattle.lab_people_access.specs.declared.persons.Person.{Person}
use Rattle.lab_people_access.specs.declared.refusals.Failure.{Failure}
use Rattle.lab_people_access.specs.declared.refusals.Failure.TheVariants.{Counted, Locking, AlreadyLocked, Stray}
use Rattle.lab_people_access.specs.Passwords.{is_set, accepts}
use Rattle.lab_people_access.specs.Persons.{is_locked, unlocked_person}
use Rattle.lab_people_access.specs.declared.attempts.TheConstants.{FAILURES_TO_LOCK}

-- the failed passwords that count: none where there was a lock, which has expired
abbrev pub failure_count : Option ℕ → ℕ → ℕ
failure_count None failures = failures
failure_count (Some since) failures = 0

-- the failed passwords of which the last locks
abbrev pub failures_to_lock : ℕ
failures_to_lock = FAILURES_TO_LOCK

-- a person with so many failed passwords, and no lock
abbrev pub counted_person : ℕ → Person → Person
counted_person count person = record person { failures = count; locked = None }

-- a person who is locked from the moment on
abbrev pub locked_person : ℕ → Person → Person
locked_person moment person = record person { failures = failures_to_lock; locked = Some moment }

-- one failed password more; the fifth locks
abbrev pub failure_of : Person → ℕ → Failure
failure_of person moment =
    if nat_lt (failure_count person.locked person.failures + 1) failures_to_lock
    then Counted (counted_person (failure_count person.locked person.failures + 1) person)
    else Locking (locked_person moment person)

-- A text is given as a person's password, and a code that may be wrong: the person with no
-- failures, or what comes of it. Nobody is counted where the person is retired or never had a
-- password. A lock stays as it is, whatever is given.
unfoldable pub attempt_by : Person → Bool → List ℕ → ℕ → Result Person Failure
attempt_by person is_own text moment =
    if person.retired || not (is_set person.password) then Err Stray
    else (if is_locked person.locked moment then Err (AlreadyLocked person)
    else (if is_own && accepts person.password text moment then Ok (unlocked_person person)
    else Err (failure_of person moment)))

-- by a code, of which there may be no person
abbrev pub attempt_of : Option Person → List ℕ → ℕ → Result Person Failure
attempt_of None text moment = Err Stray
attempt_of (Some person) text moment = attempt_by person true text moment

-- a code that may be left out is the person's, if it is given
abbrev pub is_own_code : Option (List ℕ) → Person → Bool
is_own_code None person = true
is_own_code (Some code) person = bytes_eq code person.code

-- by a person who signs; another's code counts as a failed password of the one who signs
abbrev pub signing_attempt : Person → Option (List ℕ) → List ℕ → ℕ → Result Person Failure
signing_attempt person code text moment = attempt_by person (is_own_code code person) text moment
