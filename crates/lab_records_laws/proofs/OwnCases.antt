-- What a command comes to on a part is its own case on the whole laboratory.
use Rattle.std.proofs.Common.{◌≡◌, ℕ, Bool, true, false, cond, List, [], ◌∷◌, Option, Result, Ok, Err, refl, ap}
use Rattle.lab_people_access.specs.declared.persons.Person.{Person}
use Rattle.lab_people_access.specs.declared.sessions.Session.{Session}
use Rattle.lab_people_access.specs.declared.sessions.Closing.{Closing}
use Rattle.lab_people_access.specs.declared.sessions.Closing.TheVariants.{Nothing, All, Others}
use Rattle.lab_people_access.specs.declared.openings.Opened.{Opened}
use Rattle.lab_people_access.specs.declared.refusals.PeopleFault.{PeopleFault}
use Rattle.lab_people_access.specs.declared.refusals.PeopleFault.TheVariants.{Failed as HasFailed, Refused as IsRefused}
use Rattle.lab_people_access.specs.declared.refusals.PeopleRefusal.{PeopleRefusal}
use Rattle.lab_people_access.specs.Sessions.{sessions_after}
use Rattle.lab_people.specs.declared.accounts.PasswordChanged.{PasswordChanged}
use Rattle.lab_records_kept.specs.declared.labs.Lab.{Lab}
use Rattle.lab_records_kept.specs.declared.needs.Slice.{Slice}
use Rattle.lab_records_kept.specs.declared.trails.Deed.{Deed}
use Rattle.lab_records_kept.specs.Changes.{changed, with_person}
use Rattle.lab_records_kept.specs.Parts.{part}
use Rattle.lab_records_rules.specs.declared.refusals.Refusal.{Refusal}
use Rattle.lab_records_machine.specs.declared.commands.Command.{Command}
use Rattle.lab_records_machine.specs.declared.replies.Reply.{Reply}
use Rattle.lab_records_machine.specs.Cases.{Case, Refuses, Fails, Reads, Makes}
use Rattle.lab_records_machine.specs.Needs.{person_in, form_in, record_in, list_in}
use Rattle.lab_records_machine.specs.Own.{then_case, then_person, then_read, opened_case, changed_case, with_person_closed}
use Rattle.lab_records_machine.specs.declared.done.Done.{Done}
use Rattle.lab_records_machine.specs.declared.done.Done.TheVariants.{Refused, Failed, Read, Made}
use Rattle.lab_records_machine.specs.Done.{then_done, then_person_done, then_read_done, opened_done, changed_done, person_changes}

-- the case, with the changes made
abbrev pub case_of : Lab → Done → Case
case_of lab (Refused refusal) = Refuses refusal
case_of lab (Failed occasion failure) = Fails occasion failure
case_of lab (Read reply) = Reads reply
case_of lab (Made reply deed changes) = Makes reply deed (changed lab changes)

-- the part that a command needs, with the session of a digest
abbrev pub slice_for : Lab → Option (List ℕ) → Command → Slice
slice_for lab digest command =
    part (record {
      token = digest;
      person = person_in command;
      form = form_in command;
      filed = record_in command;
      list = list_in command;
    }) lab

-- ---- what follows a rule

pub then_case_is : {A : Type 0} (lab : Lab) (result : Result A Refusal) (next : A → Case)
    (done : A → Done) → ((value : A) → next value ≡ case_of lab (done value))
    → then_case result next ≡ case_of lab (then_done result done)
then_case_is lab (Err refusal) next done is = refl
then_case_is lab (Ok value) next done is = is value

pub then_person_is : {A : Type 0} (lab : Lab) (result : Result A PeopleRefusal) (next : A → Case)
    (done : A → Done) → ((value : A) → next value ≡ case_of lab (done value))
    → then_person result next ≡ case_of lab (then_person_done result done)
then_person_is lab (Err refusal) next done is = refl
then_person_is lab (Ok value) next done is = is value

pub then_read_is : {A : Type 0} (lab : Lab) (result : Result A Refusal) (reply : A → Reply)
    → then_read result reply ≡ case_of lab (then_read_done result reply)
then_read_is lab (Err refusal) reply = refl
then_read_is lab (Ok value) reply = refl

-- a code that is wanted refuses
pub wanted_is : (wanted : Bool) (lab : Lab) (refusal : Refusal) (next : Case) (done : Done)
    → next ≡ case_of lab done
    → cond wanted (Refuses refusal) next ≡ case_of lab (cond wanted (Refused refusal) done)
wanted_is true lab refusal next done is = refl
wanted_is false lab refusal next done is = is

-- ---- an account that is set

-- closing none leaves the sessions
none_closed : (person : List ℕ) (sessions : List Session)
    → sessions_after Nothing person sessions ≡ sessions
none_closed person [] = refl
none_closed person (one ∷ others) = ap (λ rest. one ∷ rest) (none_closed person others)

pub person_is : (lab : Lab) (reply : Reply) (deed : Deed) (person : Person) (closing : Closing)
    → Makes reply deed (with_person_closed lab person closing)
    ≡ case_of lab (Made reply deed (person_changes person closing))
person_is lab reply deed person Nothing =
    ap (λ sessions. Makes reply deed (record lab {
      persons = with_person person lab.persons;
      sessions = sessions;
    })) (none_closed person.code lab.sessions)
person_is lab reply deed person All = refl
person_is lab reply deed person (Others number) = refl

-- ---- what follows a password

pub opened_is : (lab : Lab) (result : Result Opened PeopleFault)
    → opened_case lab result ≡ case_of lab (opened_done result)
opened_is lab (Err (HasFailed failure)) = refl
opened_is lab (Err (IsRefused refusal)) = refl
opened_is lab (Ok opened) = refl

pub changed_is : (lab : Lab) (moment : ℕ) (result : Result PasswordChanged PeopleFault)
    → changed_case lab moment result ≡ case_of lab (changed_done moment result)
changed_is lab moment (Err (HasFailed failure)) = refl
changed_is lab moment (Err (IsRefused refusal)) = refl
changed_is lab moment (Ok value) = refl
