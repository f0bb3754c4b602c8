-- An opening: the changes that it comes to fit, and the moment may be noted before them.
use Rattle.std.proofs.Common.{◌≡◌, ℕ, ◌+◌, Bool, true, false, cond, List, length, Option, Some, None, Result, Ok, Err, refl, ap}
use Rattle.std.specs.Prelude.{is_some}
use Rattle.lab_forms_texts.specs.declared.tick.Tick.{Tick}
use Rattle.lab_forms_texts.specs.Ordinals.{is_ordinal}
use Rattle.lab_people_access.specs.declared.persons.Person.{Person}
use Rattle.lab_people_access.specs.declared.openings.Opened.{Opened}
use Rattle.lab_people_access.specs.declared.refusals.Failure.{Failure}
use Rattle.lab_people_access.specs.declared.refusals.PeopleFault.{PeopleFault}
use Rattle.lab_people_access.specs.declared.refusals.PeopleFault.TheVariants.{Failed as HasFailed, Refused as IsRefused}
use Rattle.lab_people_access.specs.declared.refusals.PeopleRefusal.TheVariants.{RandomRepeated}
use Rattle.lab_people_access.specs.Attempts.{attempt_by, attempt_of}
use Rattle.lab_people_access.specs.Openings.{opening, opening_by, numbered_opening, token_digest}
use Rattle.lab_people_access.specs.Persons.{person_of}
use Rattle.lab_people_access.specs.Sessions.{session_of}
use Rattle.lab_records_kept.specs.declared.labs.Lab.{Lab}
use Rattle.lab_records_kept.specs.declared.changes.Change.TheVariants.{PersonSet}
use Rattle.lab_records_kept.specs.Changes.{IsKnown, Fits, changed}
use Rattle.lab_records_kept.specs.Lookups.{person_at, session_at}
use Rattle.lab_records_machine.specs.Machine.{at_moment}
use Rattle.lab_records_laws.proofs.FitAttempts.{FitsAttempt, attempt_fits}
use Rattle.lab_records_machine.specs.declared.done.Done.{Done}
use Rattle.lab_records_machine.specs.declared.done.Done.TheVariants.{Made}
use Rattle.lab_records_machine.specs.Done.{opened_done}
use Rattle.lab_records_laws.proofs.Joining.{change_knows}
use Rattle.lab_records_laws.proofs.CaseFits.{FitsDone}

none_there : {A : Type 0} (found : Option A) → is_some found ≡ false → found ≡ None
none_there None none = refl
none_there (Some one) none = absurd (cc)

open_tests : (repeated ordinal : Bool) (Premise : Type 0) (lab : Lab) (code : List ℕ) (tick : Tick)
    (one : Person)
    → (repeated ≡ false → session_of lab.sessions (token_digest tick) ≡ None)
    → Fits lab (PersonSet one) → IsKnown lab code
    → FitsDone Premise lab code (opened_done (cond repeated (Err (IsRefused RandomRepeated))
    (numbered_opening (cond ordinal (Some (length lab.sessions + 1)) None) code tick one)))
open_tests true ordinal Premise lab code tick one free fits known = tt
open_tests false false Premise lab code tick one free fits known = tt
open_tests false true Premise lab code tick one free fits known = record {
  fits = λ given.
      (fits, ((refl, free refl, change_knows lab (PersonSet one) code fits known), tt));
  trail = refl;
  known = known;
}

open_by : (Premise : Type 0) (lab : Lab) (code : List ℕ) (tick : Tick)
    (result : Result Person Failure) → FitsAttempt lab result → IsKnown lab code
    → FitsDone Premise lab code (opened_done (opening_by result code tick (length lab.sessions)
    (session_at lab (token_digest tick))))
open_by Premise lab code tick (Err failure) fits known = fits
open_by Premise lab code tick (Ok one) fits known =
    open_tests (is_some (session_at lab (token_digest tick)))
    (is_ordinal (length lab.sessions + 1)) Premise lab code tick one
    (λ free. none_there (session_at lab (token_digest tick)) free) fits known

open_found : (Premise : Type 0) (lab : Lab) (code password : List ℕ) (tick : Tick)
    (found : Option Person) → person_of lab.persons code ≡ found
    → FitsDone Premise lab code
    (opened_done (opening_by (attempt_of found password tick.moment) code tick
    (length lab.sessions) (session_at lab (token_digest tick))))
open_found Premise lab code password tick None there = tt
open_found Premise lab code password tick (Some person) there =
    open_by Premise lab code tick (attempt_by person true password tick.moment)
    (attempt_fits lab code person true password tick.moment there) (ap is_some there)

pub open_fits : (Premise : Type 0) (lab : Lab) (code password : List ℕ) (tick : Tick)
    → FitsDone Premise lab code
    (opened_done (opening code (person_at lab code) password tick (length lab.sessions)
    (session_at lab (token_digest tick))))
unfolding opening
open_fits Premise lab code password tick =
    open_found Premise lab code password tick (person_at lab code) refl

-- ---- the moment

-- the laboratory comes to the same, whether the moment is noted before the changes or after
abbrev pub TakesMoment : Lab → ℕ → Done → Type 0
TakesMoment lab moment (Made reply deed changes) =
    changed (at_moment moment lab) changes ≡ at_moment moment (changed lab changes)
TakesMoment lab moment _ = Unit {0}

pub opened_takes : (lab : Lab) (moment : ℕ) (result : Result Opened PeopleFault)
    → TakesMoment lab moment (opened_done result)
opened_takes lab moment (Err (HasFailed failure)) = tt
opened_takes lab moment (Err (IsRefused refusal)) = tt
opened_takes lab moment (Ok opened) = refl
