-- The changes that a command comes to fit the laboratory.
use Rattle.std.proofs.Common.{◌≡◌, ℕ, Bool, true, false, cond, List, Option, Some, None, MatchOption, Result, Ok, Err, refl}
use Rattle.lab_people_access.specs.declared.passwords.Password.{Password}
use Rattle.lab_people_access.specs.declared.persons.Person.{Person}
use Rattle.lab_people_access.specs.declared.sessions.Closing.{Closing}
use Rattle.lab_people_access.specs.declared.sessions.Closing.TheVariants.{Nothing, All, Others}
use Rattle.lab_people_access.specs.declared.refusals.PeopleRefusal.{PeopleRefusal}
use Rattle.lab_people_access.specs.Persons.{person_of}
use Rattle.lab_records_kept.specs.declared.labs.Lab.{Lab}
use Rattle.lab_records_kept.specs.declared.changes.Change.{Change}
use Rattle.lab_records_kept.specs.declared.changes.Change.TheVariants.{PersonSet}
use Rattle.lab_records_kept.specs.Changes.{SamePerson, IsAskKnown, IsKnown, Fits, AllFit, changed}
use Rattle.lab_records_rules.specs.declared.refusals.Refusal.{Refusal}
use Rattle.lab_records_machine.specs.declared.replies.Reply.{Reply}
use Rattle.lab_records_laws.proofs.FitAttempts.{FitsAttempt}
use Rattle.lab_records_machine.specs.declared.done.Done.{Done}
use Rattle.lab_records_machine.specs.declared.done.Done.TheVariants.{Refused, Failed, Read, Made}
use Rattle.lab_records_machine.specs.Done.{then_done, then_person_done, then_read_done, person_changes}

-- the changes fit, none is to the trail, and the person is known
pub record Adds (Premise : Type 0) (lab : Lab) (person : List ℕ) (changes : List Change)
    : Type 0 where
  pub fits : Premise → AllFit lab changes
  pub trail : (changed lab changes).trail ≡ lab.trail
  pub known : IsKnown lab person

-- and so does what a command comes to; a failed password is counted
abbrev pub FitsDone : Type 0 → Lab → List ℕ → Done → Type 0
FitsDone Premise lab person (Refused refusal) = Unit {0}
FitsDone Premise lab person (Failed occasion failure) = FitsAttempt lab (Err failure)
FitsDone Premise lab person (Read reply) = Unit {0}
FitsDone Premise lab person (Made reply deed changes) = Adds Premise lab person changes

-- ---- what follows a rule

pub then_done_fits : {A : Type 0} (Premise : Type 0) (lab : Lab) (person : List ℕ)
    (result : Result A Refusal)
    (next : A → Done)
    → ((value : A) → result ≡ Ok value → FitsDone Premise lab person (next value))
    → FitsDone Premise lab person (then_done result next)
then_done_fits Premise lab person (Err refusal) next fits = tt
then_done_fits Premise lab person (Ok value) next fits = fits value refl

pub then_person_fits : {A : Type 0} (Premise : Type 0) (lab : Lab) (person : List ℕ)
    (result : Result A PeopleRefusal) (next : A → Done)
    → ((value : A) → result ≡ Ok value → FitsDone Premise lab person (next value))
    → FitsDone Premise lab person (then_person_done result next)
then_person_fits Premise lab person (Err refusal) next fits = tt
then_person_fits Premise lab person (Ok value) next fits = fits value refl

pub then_read_fits : {A : Type 0} (Premise : Type 0) (lab : Lab) (person : List ℕ)
    (result : Result A Refusal)
    (reply : A → Reply) → FitsDone Premise lab person (then_read_done result reply)
then_read_fits Premise lab person (Err refusal) reply = tt
then_read_fits Premise lab person (Ok value) reply = tt

pub wanted_fits : (wanted : Bool) (Premise : Type 0) (lab : Lab) (person : List ℕ)
    (refusal : Refusal)
    (done : Done) → FitsDone Premise lab person done
    → FitsDone Premise lab person (cond wanted (Refused refusal) done)
wanted_fits true Premise lab person refusal done fits = tt
wanted_fits false Premise lab person refusal done fits = fits

-- ---- an account that is set

-- with none of its sessions closed, or some
pub person_adds : (Premise : Type 0) (lab : Lab) (caller : List ℕ) (person : Person)
    (closing : Closing) → Fits lab (PersonSet person) → IsKnown lab caller
    → Adds Premise lab caller (person_changes person closing)
person_adds Premise lab caller person Nothing fits known =
    record { fits = λ given. (fits, tt); trail = refl; known = known }
person_adds Premise lab caller person All fits known =
    record { fits = λ given. (fits, (tt, tt)); trail = refl; known = known }
person_adds Premise lab caller person (Others number) fits known =
    record { fits = λ given. (fits, (tt, tt)); trail = refl; known = known }

renewed_case : (found : Option Person) (lab : Lab) (person : Person) (password : Password)
    → MatchOption found ⊥ (λ old. SamePerson old person × IsAskKnown lab old.ask person.ask)
    → MatchOption found ⊥ (λ old. SamePerson old (record person { password = password })
    × IsAskKnown lab old.ask person.ask)
renewed_case None lab person password fits = absurd fits
renewed_case (Some old) lab person password fits =
    (record { code = fits.0.code; name = fits.0.name }, fits.1)

-- with another password
pub renewed_fits : (lab : Lab) (person : Person) (password : Password)
    → Fits lab (PersonSet person)
    → Fits lab (PersonSet (record person { password = password }))
renewed_fits lab person password fits =
    renewed_case (person_of lab.persons person.code) lab person password fits
