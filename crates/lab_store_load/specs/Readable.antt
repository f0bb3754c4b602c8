-- Which rows are readable, for each part of a laboratory that is read. What isn't readable is told
-- of as the store.
use Rattle.std.specs.Prelude.{ℕ, ℤ, List, find, Option, option_and_then, option_map, All, IfSome}
use Rattle.lab_people_access.specs.declared.sessions.Session.{Session}
use Rattle.lab_records_kept.specs.declared.needs.FormWanted.{FormWanted}
use Rattle.lab_records_kept.specs.declared.needs.FormWanted.TheVariants.{Last, Exact}
use Rattle.lab_records_kept.specs.declared.needs.ListWanted.{ListWanted}
use Rattle.lab_records_kept.specs.declared.needs.ListWanted.TheVariants.{Persons, Records, Trail}
use Rattle.lab_records_kept.specs.declared.needs.Need.{Need}
use Rattle.lab_records_kept.specs.declared.needs.RecordWanted.{RecordWanted}
use Rattle.lab_records_kept.specs.declared.needs.RecordWanted.TheVariants.{Numbered, About}
use Rattle.lab_records_kept.specs.Lookups.{last_of, session_at}
use Rattle.lab_store_tables.specs.Rows.{Tables}
use Rattle.lab_store_tables.specs.Meaning.{has_code}
use Rattle.lab_store_read.specs.Causes.{HasFirst}
use Rattle.lab_store_read_people.specs.PersonsReadable.{HasWholePerson}
use Rattle.lab_store_read_people.specs.PersonsShown.{person_shown_by, persons_shown}
use Rattle.lab_store_read_people.specs.SessionsShown.{sessions_shown, HasSession}
use Rattle.lab_store_read_records.specs.declared.heads.LabHead.{LabHead}
use Rattle.lab_store_read_records.specs.Heads.{lab_head}
use Rattle.lab_store_read_records.specs.Laboratories.{lab_by}
use Rattle.lab_store_read_records.specs.Readable.{HasLab}
use Rattle.lab_store_read_records.specs.Retrieved.{abouts_shown, within_shown}
use Rattle.lab_store_read_records.specs.Shown.{labs_shown, records_shown}
use Rattle.lab_store_read_forms.specs.FormsByCode.{exact_shown, form_versions_shown}
use Rattle.lab_store_read_forms.specs.Readable.{HasWholeForm, HasWholeRecord}
use Rattle.lab_store_read_trail.specs.Readable.{HasWholeTold}
use Rattle.lab_store_read_trail.specs.Shown.{told_shown_within}

-- ---- who is meant, in the laboratory with the id

-- the session of a token
abbrev pub HasSessionOf : Tables → ℤ → Option (List ℕ) → Type 0
HasSessionOf t lab token = IfSome token (λ one. HasFirst HasSession (sessions_shown t lab one))

-- the person of a code
abbrev pub HasPersonOf : Tables → ℤ → Option (List ℕ) → Type 0
HasPersonOf t lab code =
    IfSome code (λ one. HasFirst (HasWholePerson t) (person_shown_by t lab one))

-- whose session it is
abbrev pub HasCallerOf : Tables → ℤ → Option Session → Type 0
HasCallerOf t lab session =
    IfSome session (λ one. HasFirst (HasWholePerson t) (person_shown_by t lab one.person))

pub record HasCallers (t : Tables) (head : LabHead) (token : Option (List ℕ)) : Type 0 where
  pub session : HasSessionOf t head.id token
  pub caller : HasCallerOf t head.id (option_and_then (session_at (lab_by t head)) token)

pub record HasPeople (t : Tables) (head : LabHead) (need : Need) : Type 0 where
  pub callers : HasCallers t head need.token
  pub person : HasPersonOf t head.id need.person

-- ---- what is meant, in the laboratory with the id

-- a version of a form
abbrev pub HasFormOf : Tables → ℤ → FormWanted → Type 0
HasFormOf t lab (Last code) = IfSome (last_of (form_versions_shown t lab code)) (HasWholeForm t)
HasFormOf t lab (Exact code version) =
    HasFirst (HasWholeForm t) (exact_shown t lab code version)

-- a record
abbrev pub HasFiledOf : Tables → ℤ → RecordWanted → Type 0
HasFiledOf t lab (Numbered number) = HasFirst (HasWholeRecord t) (records_shown t lab number)
HasFiledOf t lab (About form sample) =
    HasFirst (HasWholeRecord t) (abouts_shown t lab form sample)

pub record HasThings (t : Tables) (head : LabHead) (need : Need) : Type 0 where
  pub form : IfSome need.form (HasFormOf t head.id)
  pub filed : IfSome need.filed (HasFiledOf t head.id)

-- a list
abbrev pub HasListOf : Tables → ℤ → ListWanted → Type 0
HasListOf t lab Persons = All (HasWholePerson t) (persons_shown t lab)
HasListOf t lab (Records from to) = All (HasWholeRecord t) (within_shown t lab from to)
HasListOf t lab (Trail from to) = All (HasWholeTold t) (told_shown_within t lab from to)

-- ---- the part that is needed

-- by the laboratory's own row
pub record HasSlice (t : Tables) (head : LabHead) (need : Need) : Type 0 where
  pub list : IfSome need.list (HasListOf t head.id)
  pub people : HasPeople t head need
  pub things : HasThings t head need

pub record HasPart (t : Tables) (code : List ℕ) (need : Need) : Type 0 where
  pub lab : HasFirst HasLab (labs_shown t code)
  pub parts : IfSome (option_map lab_head (find (has_code code) t.labs))
      (λ head. HasSlice t head need)
