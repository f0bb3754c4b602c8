-- Values from outside, so that a wrong rule in the definitions does not check: what a trail of a
-- thousand million rows has no room for, and which changes a request's note begins.
use Rattle.std.proofs.Common.{◌≡◌, ℕ, true, false, [], ◌∷◌, codes, refl, Some, Ok}
use Rattle.std.specs.Prelude.{⊤}
use Rattle.lab_people_access.specs.declared.persons.Person.{Person}
use Rattle.lab_people_access.specs.declared.refusals.Failure.TheVariants.{Counted, Locking, AlreadyLocked, Stray}
use Rattle.lab_people_access.specs.declared.refusals.PeopleRefusal.TheVariants.{LabFull}
use Rattle.lab_people_access.specs.declared.sessions.Session.{Session}
use Rattle.lab_people_access.specs.declared.sessions.Closing.TheVariants.{All, Others}
use Rattle.lab_people_access.specs.Sessions.{touched_session}
use Rattle.lab_seal_versions.specs.declared.states.State.TheVariants.{Signed as IsSigned}
use Rattle.lab_records_kept.specs.declared.changes.Change.{Change}
use Rattle.lab_records_kept.specs.declared.changes.Change.TheVariants.{Last, Strays, PersonSet, SessionSet, SessionsClosed, SignatureAdded, TrailAdded}
use Rattle.lab_records_kept.specs.declared.records.Signature.{Signature}
use Rattle.lab_records_kept.specs.declared.trails.Deed.{Deed}
use Rattle.lab_records_kept.specs.declared.trails.Deed.TheVariants.{Open, Close, Password, Refuse, Lock, Sign}
use Rattle.lab_records_kept.specs.declared.trails.Occasion.TheVariants.{Opening}
use Rattle.lab_records_kept.specs.Trails.{trail_row_of}
use Rattle.lab_records_rules.specs.declared.refusals.Refusal.TheVariants.{People}
use Rattle.lab_records_machine.specs.declared.replies.Reply.TheVariants.{Refused, Closed, PasswordChanged, Signed}
use Rattle.lab_records_machine.specs.declared.done.Done.{Done}
use Rattle.lab_records_machine.specs.Done.{closed_done, changed_done, signature_done}
use Rattle.lab_records_laws.specs.declared.outcome.Outcome.{Outcome}
use Rattle.lab_records_laws.specs.Deciding.{IsFailureWritten, failure_changes, outcome, made_end, end_by, noted_changes, noted_end}

-- the row of that number, that the person's password was refused, or that the account was locked
abbrev refused_row : ℕ → Person → Change
refused_row number person = TrailAdded (trail_row_of number 500 (Some person.code) (Refuse Opening))

abbrev locked_row : ℕ → Person → Change
locked_row number person = TrailAdded (trail_row_of number 500 (Some person.code) (Lock person.code))

-- a password that locks: with room for two rows, for one, and for none
pub known_locks : (person : Person)
    → (failure_changes 999999998 0 500 Opening (Locking person)
    ≡ PersonSet person ∷ SessionsClosed person.code All ∷ refused_row 999999999 person
    ∷ locked_row 1000000000 person ∷ [])
    × (failure_changes 999999999 0 500 Opening (Locking person)
    ≡ PersonSet person ∷ SessionsClosed person.code All ∷ refused_row 1000000000 person ∷ [])
    × (failure_changes 1000000000 0 500 Opening (Locking person)
    ≡ PersonSet person ∷ SessionsClosed person.code All ∷ [])
known_locks person = (refl, refl, refl)

-- one that is counted, one that meets a lock, and one that is nobody's
pub known_failures : (person : Person)
    → (failure_changes 999999999 0 500 Opening (Counted person)
    ≡ PersonSet person ∷ refused_row 1000000000 person ∷ [])
    × (failure_changes 1000000000 0 500 Opening (Counted person) ≡ PersonSet person ∷ [])
    × (failure_changes 0 0 500 Opening (AlreadyLocked person) ≡ refused_row 1 person ∷ [])
    × (failure_changes 1000000000 0 500 Opening (AlreadyLocked person) ≡ [])
    × (failure_changes 0 7 500 Opening Stray ≡ Strays 8 ∷ [])
known_failures person = (refl, refl, refl, refl, refl)

-- memory may run out of a password that meets a lock as long as there is room for its row, and of one that is counted in any case
pub known_writings : (person : Person)
    → (IsFailureWritten 999999999 (AlreadyLocked person) ≡ (false ≡ false))
    × (IsFailureWritten 1000000000 (AlreadyLocked person) ≡ (true ≡ false))
    × (IsFailureWritten 1000000000 (Counted person) ≡ ⊤)
known_writings person = (refl, refl, refl)

-- what is made is told, and refused where the trail is full
pub known_ends : (own : Change)
    → (made_end 999999999 500 (codes "dan") (Closed 3) (Open 3) (own ∷ [])
    ≡ outcome (Closed 3)
    (own ∷ TrailAdded (trail_row_of 1000000000 500 (Some (codes "dan")) (Open 3)) ∷ []))
    × (made_end 1000000000 500 (codes "dan") (Closed 3) (Open 3) (own ∷ [])
    ≡ outcome (Refused (People LabFull)) [])
known_ends own = (refl, refl)

-- that a request came is noted before what it changes; not where laboratory and session have the moment and it changes nothing
pub known_notes : (session : Session) (person : Person)
    → (noted_changes 499 500 session [] ≡ Last 500 ∷ SessionSet (record session { last = 500 }) ∷ [])
    × (noted_changes 500 500 (record session { last = 499 }) []
    ≡ Last 500 ∷ SessionSet (record session { last = 500 }) ∷ [])
    × (noted_changes 500 500 (record session { last = 500 }) [] ≡ [])
    × (noted_changes 500 500 (record session { last = 500 }) (PersonSet person ∷ [])
    ≡ Last 500 ∷ SessionSet (record session { last = 500 }) ∷ PersonSet person ∷ [])
known_notes session person = (refl, refl, refl, refl)

-- what a command of dan's comes to in a session whose last request was before, with its note
abbrev noted_of : Session → Done → Outcome
noted_of session done = noted_end 499 500 session (end_by 0 0 500 (codes "dan") done)

-- the first row of the trail
abbrev first_row : Deed → Change
first_row deed = TrailAdded (trail_row_of 1 500 (Some (codes "dan")) deed)

-- a signature, a new password and a closing set the session themselves: it is set once, and has the moment
pub known_once : (session : Session) (person : Person) (signature : Signature)
    → (noted_of session (signature_done (touched_session 500 session) person
    (record { number = 1; version = 1; signature = signature; state = Some IsSigned }))
    ≡ outcome (Signed signature (Some IsSigned))
    (Last 500 ∷ PersonSet person ∷ SessionSet (record session { last = 500; signed = true })
    ∷ SignatureAdded 1 1 signature ∷ first_row (Sign 1 1 signature.meaning) ∷ []))
    × (noted_of session (changed_done 500 (Ok (record {
      person = person;
      session = record session { last = 500; signed = false };
      closing = Others 7;
    })))
    ≡ outcome (PasswordChanged 500)
    (Last 500 ∷ PersonSet person ∷ SessionSet (record session { last = 500; signed = false })
    ∷ SessionsClosed person.code (Others 7) ∷ first_row (Password person.code) ∷ []))
    × (noted_of session (closed_done (touched_session 500 session))
    ≡ outcome (Closed session.number)
    (Last 500 ∷ SessionSet (record session { last = 500; closed = true })
    ∷ first_row (Close session.number) ∷ []))
known_once session person signature = (refl, refl, refl)
