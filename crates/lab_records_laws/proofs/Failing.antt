-- What a failed password changes fits, and makes of the laboratory what the step makes.
use Rattle.std.proofs.Common.{◌≡◌, ◌≤◌, ◌<◌, ℕ, ◌+◌, Bool, true, false, cond, List, [], ◌∷◌, length, Some, Err, refl, sym, ap, subst, arith, nat_le}
use Rattle.std.proofs.lemmas.Bool.{leb-false}
use Rattle.lab_people_access.specs.declared.persons.Person.{Person}
use Rattle.lab_people_access.specs.declared.sessions.Closing.TheVariants.{All}
use Rattle.lab_people_access.specs.declared.refusals.Failure.{Failure}
use Rattle.lab_people_access.specs.declared.refusals.Failure.TheVariants.{Counted, Locking, AlreadyLocked, Stray}
use Rattle.lab_records_kept.specs.declared.labs.Lab.{Lab}
use Rattle.lab_records_kept.specs.declared.changes.Change.{Change}
use Rattle.lab_records_kept.specs.declared.changes.Change.TheVariants.{PersonSet, SessionsClosed}
use Rattle.lab_records_kept.specs.declared.trails.Deed.{Deed}
use Rattle.lab_records_kept.specs.declared.trails.Deed.TheVariants.{Refuse, Lock}
use Rattle.lab_records_kept.specs.declared.trails.Occasion.{Occasion}
use Rattle.lab_records_kept.specs.Limits.{count_limit, stray_limit}
use Rattle.lab_records_kept.specs.Trails.{trail_row_of}
use Rattle.lab_records_kept.specs.Changes.{IsKnown, Fits, AllFit, change, changed}
use Rattle.lab_records_machine.specs.Cases.{told, told_if_room, failed}
use Rattle.lab_records_laws.proofs.FitAttempts.{FitsAttempt}
use Rattle.lab_records_laws.proofs.LimitLists.{longer}
use Rattle.lab_records_laws.specs.Deciding.{trail_row, trail_row_if_room, trail_rows_if_room, failure_changes}
use Rattle.lab_records_laws.proofs.Joining.{set_known, change_knows}

-- changes make another laboratory of one, and fit on a premise
pub record BecomesWhere (Premise : Type 0) (lab : Lab) (changes : List Change) (after : Lab)
    : Type 0 where
  pub fits : Premise → AllFit lab changes
  pub comes : changed lab changes ≡ after

-- or without one
record Becomes (lab : Lab) (changes : List Change) (after : Lab) : Type 0 where
  pub fits : AllFit lab changes
  pub comes : changed lab changes ≡ after

-- ---- rows of the trail

noted_case : (full : Bool) (lab : Lab) (moment : ℕ) (person : List ℕ) (deed : Deed)
    → IsKnown lab person
    → Becomes lab (cond full [] (trail_row (length lab.trail) moment person deed ∷ []))
    (cond full lab (told moment (Some person) deed lab))
noted_case true lab moment person deed known = record { fits = tt; comes = refl }
noted_case false lab moment person deed known =
    record { fits = ((refl, known), tt); comes = refl }

noted_is : (lab : Lab) (moment : ℕ) (person : List ℕ) (deed : Deed) → IsKnown lab person
    → Becomes lab (trail_row_if_room (length lab.trail) moment person deed)
    (told_if_room moment person deed lab)
noted_is lab moment person deed known =
    noted_case (nat_le count_limit (length lab.trail)) lab moment person deed known

two_case : (full : Bool) (lab : Lab) (moment : ℕ) (person : List ℕ) (first second : Deed)
    → nat_le count_limit (length lab.trail) ≡ full → IsKnown lab person
    → Becomes lab (cond full [] (trail_row (length lab.trail) moment person first
    ∷ trail_row_if_room (length lab.trail + 1) moment person second))
    (told_if_room moment person second (cond full lab (told moment (Some person) first lab)))
two_case true lab moment person first second is known = record {
  fits = tt;
  comes = sym (ap (λ full. cond full lab (told moment (Some person) second lab)) is);
}
two_case false lab moment person first second is known =
    let next = told moment (Some person) first lab in
    let after = told_if_room moment person second next in
    let row = trail_row_of (length lab.trail + 1) moment (Some person) first in
    let rest : Becomes next (trail_row_if_room (length lab.trail + 1) moment person second) after =
    subst (λ rows. Becomes next (trail_row_if_room rows moment person second) after)
    (longer lab.trail row) (noted_is next moment person second known) in
    record { fits = ((refl, known), rest.fits); comes = rest.comes }

two_are : (lab : Lab) (moment : ℕ) (person : List ℕ) (first second : Deed) → IsKnown lab person
    → Becomes lab (trail_rows_if_room (length lab.trail) moment person first second)
    (told_if_room moment person second (told_if_room moment person first lab))
two_are lab moment person first second known =
    two_case (nat_le count_limit (length lab.trail)) lab moment person first second refl known

-- ---- one change before

after_one : (lab : Lab) (one : Change) (changes : List Change) (after : Lab) → Fits lab one
    → Becomes (change lab one) changes after → Becomes lab (one ∷ changes) after
after_one lab one changes after fits rest =
    record { fits = (fits, rest.fits); comes = rest.comes }

-- ---- a password more that was nobody's

few_strays : (full : Bool) (strays : ℕ) → nat_le stray_limit strays ≡ full → strays ≤ stray_limit
    → cond full strays (strays + 1) ≤ stray_limit
few_strays true strays is few = few
few_strays false strays is few =
    let room : strays < stray_limit = leb-false stray_limit strays is in omega arith

-- ---- what a failed password changes

counted_is : (lab : Lab) (moment : ℕ) (occasion : Occasion) (person : Person)
    → FitsAttempt lab (Err (Counted person))
    → Becomes lab (failure_changes (length lab.trail) lab.strays moment occasion (Counted person))
    (failed lab moment occasion (Counted person))
counted_is lab moment occasion person fits =
    let known : IsKnown (change lab (PersonSet person)) person.code =
    change_knows lab (PersonSet person) person.code fits (set_known lab person fits) in
    after_one lab (PersonSet person)
    (trail_row_if_room (length lab.trail) moment person.code (Refuse occasion))
    (failed lab moment occasion (Counted person)) fits
    (noted_is (change lab (PersonSet person)) moment person.code (Refuse occasion) known)

locking_is : (lab : Lab) (moment : ℕ) (occasion : Occasion) (person : Person)
    → FitsAttempt lab (Err (Locking person))
    → Becomes lab (failure_changes (length lab.trail) lab.strays moment occasion (Locking person))
    (failed lab moment occasion (Locking person))
locking_is lab moment occasion person fits =
    let known : IsKnown (change lab (PersonSet person)) person.code =
    change_knows lab (PersonSet person) person.code fits (set_known lab person fits) in
    let next = change lab (PersonSet person) in
    let last = change next (SessionsClosed person.code All) in
    let rows = trail_rows_if_room (length lab.trail) moment person.code (Refuse occasion)
    (Lock person.code) in
    let after = failed lab moment occasion (Locking person) in
    after_one lab (PersonSet person) (SessionsClosed person.code All ∷ rows) after fits
    (after_one next (SessionsClosed person.code All) rows after tt
    (two_are last moment person.code (Refuse occasion) (Lock person.code) known))

pub failing_is : (Premise : Type 0) (lab : Lab) (moment : ℕ) (occasion : Occasion)
    (failure : Failure) → (Premise → lab.strays ≤ stray_limit) → FitsAttempt lab (Err failure)
    → BecomesWhere Premise lab (failure_changes (length lab.trail) lab.strays moment occasion failure)
    (failed lab moment occasion failure)
failing_is Premise lab moment occasion (Counted person) few fits =
    let is = counted_is lab moment occasion person fits in
    record { fits = λ given. is.fits; comes = is.comes }
failing_is Premise lab moment occasion (Locking person) few fits =
    let is = locking_is lab moment occasion person fits in
    record { fits = λ given. is.fits; comes = is.comes }
failing_is Premise lab moment occasion (AlreadyLocked person) few fits =
    let is = noted_is lab moment person.code (Refuse occasion) (set_known lab person fits) in
    record { fits = λ given. is.fits; comes = is.comes }
failing_is Premise lab moment occasion Stray few fits = record {
  fits = λ given.
      (few_strays (nat_le stray_limit lab.strays) lab.strays refl (few given), tt);
  comes = refl;
}
