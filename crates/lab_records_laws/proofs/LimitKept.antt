-- Changes of a laboratory's parts that leave it within its limits.
use Rattle.std.proofs.Common.{◌≡◌, ◌≤◌, ◌<◌, ◌+◌, ℕ, Bool, true, false, cond, List, [], ◌∷◌, ◌++◌, length, Option, Some, refl, sym, subst, arith, nat_le}
use Rattle.std.specs.Prelude.{All, map}
use Rattle.std.proofs.lemmas.Bool.{leb-false}
use Rattle.lab_people_access.specs.declared.persons.Person.{Person}
use Rattle.lab_people_access.specs.declared.sessions.Session.{Session}
use Rattle.lab_people_access.specs.declared.sessions.Closing.{Closing}
use Rattle.lab_people_access.specs.declared.sessions.Closing.TheVariants.{All as Everything}
use Rattle.lab_people_access.specs.declared.refusals.Failure.{Failure}
use Rattle.lab_people_access.specs.declared.refusals.Failure.TheVariants.{Counted, Locking, AlreadyLocked, Stray}
use Rattle.lab_people_access.specs.Sessions.{session_of, sessions_after}
use Rattle.lab_records_kept.specs.declared.records.Record.{Record}
use Rattle.lab_records_kept.specs.declared.trails.Deed.{Deed}
use Rattle.lab_records_kept.specs.declared.trails.Deed.TheVariants.{Refuse, Lock}
use Rattle.lab_records_kept.specs.declared.trails.Occasion.{Occasion}
use Rattle.lab_records_kept.specs.declared.labs.Lab.{Lab}
use Rattle.lab_records_kept.specs.Changes.{with_person, with_session, in_record}
use Rattle.lab_records_kept.specs.Lookups.{record_of}
use Rattle.lab_people_access.specs.Persons.{person_limit}
use Rattle.lab_records_kept.specs.Limits.{IsWithin, IsOrderly, IsByForm, AreInOrder, AreNumbered, count_limit, record_limit, stray_limit}
use Rattle.lab_records_kept.specs.Trails.{trail_row_of}
use Rattle.lab_records_machine.specs.Cases.{told, told_if_room, failed, more_strays}
use Rattle.lab_records_laws.proofs.LimitLists.{numbered_same, numbered_more, same_length, longer}
use Rattle.lab_records_laws.proofs.LimitParts.{session_number, session_numbers, closed_numbers, person_code, person_codes, order_same}
use Rattle.lab_records_laws.proofs.LimitRecords.{record_number, record_numbers, all_in_record}

-- ---- the last moment and the stray count

pub moment_within : (lab : Lab) (moment : ℕ) → IsWithin lab
    → IsWithin (record lab { last = moment })
moment_within lab moment within = record {
  persons = within.persons;
  sessions = within.sessions;
  trail = within.trail;
  records = within.records;
  strays = within.strays;
  forms = within.forms;
  orderly = within.orderly;
  by_form = within.by_form;
  persons_ordered = within.persons_ordered;
  forms_ordered = within.forms_ordered;
  forms_numbered = within.forms_numbered;
  sessions_numbered = within.sessions_numbered;
  records_numbered = within.records_numbered;
  trail_numbered = within.trail_numbered;
}

pub strays_within : (lab : Lab) (strays : ℕ) → strays ≤ stray_limit → IsWithin lab
    → IsWithin (record lab { strays = strays })
strays_within lab strays few within = record {
  persons = within.persons;
  sessions = within.sessions;
  trail = within.trail;
  records = within.records;
  strays = few;
  forms = within.forms;
  orderly = within.orderly;
  by_form = within.by_form;
  persons_ordered = within.persons_ordered;
  forms_ordered = within.forms_ordered;
  forms_numbered = within.forms_numbered;
  sessions_numbered = within.sessions_numbered;
  records_numbered = within.records_numbered;
  trail_numbered = within.trail_numbered;
}

-- ---- persons

pub persons_within : (lab : Lab) (persons : List Person) → length persons ≤ person_limit
    → AreInOrder persons → IsWithin lab → IsWithin (record lab { persons = persons })
persons_within lab persons few ordered within = record {
  persons = few;
  sessions = within.sessions;
  trail = within.trail;
  records = within.records;
  strays = within.strays;
  forms = within.forms;
  orderly = within.orderly;
  by_form = within.by_form;
  persons_ordered = ordered;
  forms_ordered = within.forms_ordered;
  forms_numbered = within.forms_numbered;
  sessions_numbered = within.sessions_numbered;
  records_numbered = within.records_numbered;
  trail_numbered = within.trail_numbered;
}

-- a person is set
pub person_within : (lab : Lab) (person : Person) → IsWithin lab
    → IsWithin (record lab { persons = with_person person lab.persons })
person_within lab person within =
    let codes : map person_code (with_person person lab.persons) ≡ map person_code lab.persons =
    person_codes person lab.persons in
    let long : length (with_person person lab.persons) ≡ length lab.persons =
    same_length person_code lab.persons (with_person person lab.persons) codes in
    persons_within lab (with_person person lab.persons)
    (subst (λ n. n ≤ person_limit) (sym long) within.persons)
    (order_same lab.persons (with_person person lab.persons) codes within.persons_ordered) within

-- ---- sessions

pub sessions_within : (lab : Lab) (sessions : List Session) → length sessions ≤ count_limit
    → AreNumbered session_number sessions → IsWithin lab
    → IsWithin (record lab { sessions = sessions })
sessions_within lab sessions few numbered within = record {
  persons = within.persons;
  sessions = few;
  trail = within.trail;
  records = within.records;
  strays = within.strays;
  forms = within.forms;
  orderly = within.orderly;
  by_form = within.by_form;
  persons_ordered = within.persons_ordered;
  forms_ordered = within.forms_ordered;
  forms_numbered = within.forms_numbered;
  sessions_numbered = numbered;
  records_numbered = within.records_numbered;
  trail_numbered = within.trail_numbered;
}

-- sessions of the same numbers
pub same_sessions_within : (lab : Lab) (sessions : List Session)
    → map session_number sessions ≡ map session_number lab.sessions → IsWithin lab
    → IsWithin (record lab { sessions = sessions })
same_sessions_within lab sessions same within =
    let long : length sessions ≡ length lab.sessions =
    same_length session_number lab.sessions sessions same in
    sessions_within lab sessions (subst (λ n. n ≤ count_limit) (sym long) within.sessions)
    (numbered_same session_number 0 lab.sessions sessions same within.sessions_numbered) within

-- a session is set, and sessions are closed
pub session_within : (lab : Lab) (new old : Session) → session_of lab.sessions new.token ≡ Some old
    → new.number ≡ old.number → IsWithin lab
    → IsWithin (record lab { sessions = with_session new lab.sessions })
session_within lab new old found same within =
    same_sessions_within lab (with_session new lab.sessions)
    (session_numbers new old lab.sessions found same) within

pub closed_within : (lab : Lab) (closing : Closing) (person : List ℕ) → IsWithin lab
    → IsWithin (record lab { sessions = sessions_after closing person lab.sessions })
closed_within lab closing person within =
    same_sessions_within lab (sessions_after closing person lab.sessions)
    (closed_numbers closing person lab.sessions) within

-- ---- records

pub records_within : (lab : Lab) (records : List Record) → length records ≤ record_limit
    → All IsOrderly records → All (IsByForm lab.forms) records
    → AreNumbered record_number records → IsWithin lab
    → IsWithin (record lab { records = records })
records_within lab records few orderly by_form numbered within = record {
  persons = within.persons;
  sessions = within.sessions;
  trail = within.trail;
  records = few;
  strays = within.strays;
  forms = within.forms;
  orderly = orderly;
  by_form = by_form;
  persons_ordered = within.persons_ordered;
  forms_ordered = within.forms_ordered;
  forms_numbered = within.forms_numbered;
  sessions_numbered = within.sessions_numbered;
  records_numbered = numbered;
  trail_numbered = within.trail_numbered;
}

-- a record is changed: it keeps its number and its form, and is orderly
pub record_within : (lab : Lab) (number : ℕ) (next : Record → Record) (kept : Record)
    → record_of lab.records number ≡ Some kept
    → ((one : Record) → (next one).number ≡ one.number) → IsOrderly (next kept)
    → IsByForm lab.forms (next kept) → IsWithin lab
    → IsWithin (record lab { records = in_record number next lab.records })
record_within lab number next kept found same orderly by_form within =
    let numbers : map record_number (in_record number next lab.records)
    ≡ map record_number lab.records = record_numbers next number lab.records same in
    let long : length (in_record number next lab.records) ≡ length lab.records =
    same_length record_number lab.records (in_record number next lab.records) numbers in
    records_within lab (in_record number next lab.records)
    (subst (λ n. n ≤ record_limit) (sym long) within.records)
    (all_in_record IsOrderly next number kept lab.records found orderly within.orderly)
    (all_in_record (IsByForm lab.forms) next number kept lab.records found by_form within.by_form)
    (numbered_same record_number 0 lab.records (in_record number next lab.records) numbers
    within.records_numbered) within

-- ---- the trail

-- a row more
pub told_within : (lab : Lab) (moment : ℕ) (person : Option (List ℕ)) (deed : Deed)
    → length lab.trail < count_limit → IsWithin lab → IsWithin (told moment person deed lab)
told_within lab moment person deed room within =
    let row = trail_row_of (length lab.trail + 1) moment person deed in
    let long : length (lab.trail ++ row ∷ []) ≡ length lab.trail + 1 = longer lab.trail row in
    record {
      persons = within.persons;
      sessions = within.sessions;
      trail = omega arith;
      records = within.records;
      strays = within.strays;
      forms = within.forms;
      orderly = within.orderly;
      by_form = within.by_form;
      persons_ordered = within.persons_ordered;
      forms_ordered = within.forms_ordered;
      forms_numbered = within.forms_numbered;
      sessions_numbered = within.sessions_numbered;
      records_numbered = within.records_numbered;
      trail_numbered = numbered_more (λ one. one.number) lab.trail row refl within.trail_numbered;
    }

noted_case : (full : Bool) (lab : Lab) (moment : ℕ) (person : List ℕ) (deed : Deed)
    → nat_le count_limit (length lab.trail) ≡ full → IsWithin lab
    → IsWithin (cond full lab (told moment (Some person) deed lab))
noted_case true lab moment person deed is within = within
noted_case false lab moment person deed is within =
    told_within lab moment (Some person) deed (leb-false count_limit (length lab.trail) is) within

pub noted_within : (lab : Lab) (moment : ℕ) (person : List ℕ) (deed : Deed) → IsWithin lab
    → IsWithin (told_if_room moment person deed lab)
noted_within lab moment person deed within =
    noted_case (nat_le count_limit (length lab.trail)) lab moment person deed refl within

-- ---- a failed password

strays_case : (full : Bool) (strays : ℕ) → nat_le stray_limit strays ≡ full
    → strays ≤ stray_limit → cond full strays (strays + 1) ≤ stray_limit
strays_case true strays is few = few
strays_case false strays is few =
    let room : strays < stray_limit = leb-false stray_limit strays is in omega arith

pub failed_within : (lab : Lab) (moment : ℕ) (occasion : Occasion) (failure : Failure)
    → IsWithin lab → IsWithin (failed lab moment occasion failure)
failed_within lab moment occasion (Counted person) within =
    noted_within (record lab { persons = with_person person lab.persons }) moment person.code
    (Refuse occasion) (person_within lab person within)
failed_within lab moment occasion (Locking person) within =
    let after : Lab = record lab {
      persons = with_person person lab.persons;
      sessions = sessions_after Everything person.code lab.sessions;
    } in
    noted_within (told_if_room moment person.code (Refuse occasion) after) moment person.code
    (Lock person.code) (noted_within after moment person.code (Refuse occasion)
    (closed_within (record lab { persons = with_person person lab.persons }) Everything person.code
    (person_within lab person within)))
failed_within lab moment occasion (AlreadyLocked person) within =
    noted_within lab moment person.code (Refuse occasion) within
failed_within lab moment occasion Stray within =
    strays_within lab (more_strays lab.strays)
    (strays_case (nat_le stray_limit lab.strays) lab.strays refl within.strays) within
