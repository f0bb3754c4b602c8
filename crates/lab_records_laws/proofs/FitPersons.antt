-- Persons and sessions that are added and set fit.
use Rattle.std.proofs.Common.{◌≡◌, ℕ, ◌+◌, Bool, true, false, cond, List, length, Option, Some, None, Result, Ok, Err, refl, sym, subst, nat_le}
use Rattle.std.specs.Prelude.{MatchOption, is_some}
use Rattle.lab_forms_texts.specs.declared.tick.Tick.{Tick}
use Rattle.lab_forms_texts.specs.Ordinals.{is_ordinal}
use Rattle.lab_people_access.specs.declared.persons.Person.{Person}
use Rattle.lab_people_access.specs.declared.roles.Roles.{Roles}
use Rattle.lab_people_access.specs.declared.sessions.Session.{Session}
use Rattle.lab_people_access.specs.declared.openings.Opened.{Opened}
use Rattle.lab_people_access.specs.declared.refusals.Failure.{Failure}
use Rattle.lab_people_access.specs.Attempts.{attempt_of}
use Rattle.lab_people_access.specs.Openings.{opening, opening_by, numbered_opening, new_opening, token_digest}
use Rattle.lab_people_access.specs.Sessions.{session_of, touched_session, closed_session, signed_session}
use Rattle.lab_people.specs.Accounts.{enrolling}
use Rattle.lab_records_kept.specs.declared.labs.Lab.{Lab}
use Rattle.lab_records_kept.specs.declared.changes.Change.TheVariants.{PersonAdded, SessionAdded, SessionSet}
use Rattle.lab_records_kept.specs.Changes.{Fits, IsKnown, SameSession}
use Rattle.lab_people_access.specs.Persons.{newcomer, person_limit}
use Rattle.lab_records_kept.specs.Lookups.{person_at, session_at}
use Rattle.lab_records_laws.proofs.LimitRules.{not_refused, given}

is_nobody : {A : Type 0} (holder : Option A) → is_some holder ≡ false → holder ≡ None
is_nobody None none = refl
is_nobody (Some one) none = absurd (cc)

-- a person who is enrolled
pub enrolled_fits : (lab : Lab) (code name : List ℕ) (roles : Roles) (made : Person)
    → enrolling code name roles (person_at lab code) (length lab.persons) ≡ Ok made
    → Fits lab (PersonAdded made)
unfolding enrolling
enrolled_fits lab code name roles made is =
    let free = not_refused (is_some (person_at lab code)) _ _ made is in
    let room = not_refused (nat_le person_limit (length lab.persons)) _ _ made free.1 in
    let same : made ≡ newcomer code name roles = given _ _ room.1 in
    subst (λ one. Fits lab (PersonAdded one)) (sym same)
    (is_nobody (person_at lab code) free.0, record {})

-- what an opening gives: a session under the next number
numbered_gives : (ordinal : Bool) (number : ℕ) (code : List ℕ) (tick : Tick) (person : Person)
    (made : Opened) → numbered_opening (cond ordinal (Some number) None) code tick person ≡ Ok made
    → made ≡ new_opening number code tick person
numbered_gives false number code tick person made is = absurd (cc)
numbered_gives true number code tick person made is = given _ _ is

opening_gives : (lab : Lab) (attempt : Result Person Failure) (code : List ℕ) (tick : Tick)
    (made : Opened) → opening_by attempt code tick (length lab.sessions)
    (session_at lab (token_digest tick)) ≡ Ok made → IsKnown lab code
    → Fits lab (SessionAdded made.session)
opening_gives lab (Err failure) code tick made is known = absurd (cc)
opening_gives lab (Ok person) code tick made is known =
    let free = not_refused (is_some (session_at lab (token_digest tick))) _ _ made is in
    let number : ℕ = length lab.sessions + 1 in
    let same : made ≡ new_opening number code tick person =
    numbered_gives (is_ordinal number) number code tick person made free.1 in
    subst (λ one. Fits lab (SessionAdded one.session)) (sym same)
    (refl, is_nobody (session_at lab (token_digest tick)) free.0, known)

-- a session that somebody of the laboratory opens
pub opened_fits : (lab : Lab) (code : List ℕ) (person : Option Person) (text : List ℕ) (tick : Tick)
    (made : Opened) → opening code person text tick (length lab.sessions)
    (session_at lab (token_digest tick)) ≡ Ok made → IsKnown lab code
    → Fits lab (SessionAdded made.session)
unfolding opening
opened_fits lab code person text tick made is known =
    opening_gives lab (attempt_of person text tick.moment) code tick made is known

-- a session that is set keeps what it was opened with
pub session_fits : (lab : Lab) (new old : Session) → session_of lab.sessions new.token ≡ Some old
    → SameSession old new → Fits lab (SessionSet new)
session_fits lab new old found same =
    subst (λ o. MatchOption o ⊥ (λ one. SameSession one new)) (sym found) same

-- after a request, when it is closed, and when something is signed in it
pub touched_fits : (lab : Lab) (moment : ℕ) (session : Session)
    → session_of lab.sessions session.token ≡ Some session
    → Fits lab (SessionSet (touched_session moment session))
touched_fits lab moment session found = session_fits lab (touched_session moment session) session
    found (record { number = refl; person = refl; token = refl; opened = refl })

pub closed_fits : (lab : Lab) (session : Session)
    → session_of lab.sessions session.token ≡ Some session
    → Fits lab (SessionSet (closed_session session))
closed_fits lab session found = session_fits lab (closed_session session) session found
    (record { number = refl; person = refl; token = refl; opened = refl })

pub signed_fits : (lab : Lab) (session : Session)
    → session_of lab.sessions session.token ≡ Some session
    → Fits lab (SessionSet (signed_session session))
signed_fits lab session found = session_fits lab (signed_session session) session found
    (record { number = refl; person = refl; token = refl; opened = refl })
