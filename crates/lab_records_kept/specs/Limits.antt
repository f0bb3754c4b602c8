-- How much a laboratory holds at the most; and that what is numbered in it is numbered from 1 on
-- without gaps. How many persons it has is said in lab_people_access, and how many fields a form has in
-- lab_forms; every other limit stands here. The number of each is the constant of src/limits.rt, and
-- is this system's own.
use Rattle.std.specs.Prelude.{◌≡◌, ◌≤◌, ℕ, ◌+◌, IsTrue, false, List, [], ◌∷◌, ◌++◌, length, Some, All}
use Rattle.lab_forms_texts.specs.Ordinals.{last_ordinal}
use Rattle.lab_records_kept.specs.declared.records.FormVersion.{FormVersion}
use Rattle.lab_records_kept.specs.declared.records.Record.{Record}
use Rattle.lab_records_kept.specs.declared.records.Version.{Version}
use Rattle.lab_people_access.specs.declared.persons.Person.{Person}
use Rattle.lab_people_access.specs.Persons.{person_limit}
use Rattle.lab_forms.specs.Forms.{field_limit}
use Rattle.lab_records_kept.specs.declared.labs.Lab.{Lab}
use Rattle.lab_records_kept.specs.Lookups.{last_form, exact_form, next_form_version, comes_before}
use Rattle.lab_records_kept.specs.declared.limits.TheConstants.{FORM_VERSIONS_LIMIT, RECORDS_LIMIT, VERSIONS_LIMIT, ROWS_LIMIT, STRAYS_LIMIT}

-- the most versions of a form
abbrev pub form_version_limit : ℕ
form_version_limit = FORM_VERSIONS_LIMIT

-- the most records
abbrev pub record_limit : ℕ
record_limit = RECORDS_LIMIT

-- the most versions of a record
abbrev pub version_limit : ℕ
version_limit = VERSIONS_LIMIT

-- the most rows of a version
abbrev pub row_limit : ℕ
row_limit = ROWS_LIMIT

-- the most sessions, and the most rows of the trail
abbrev pub count_limit : ℕ
count_limit = last_ordinal

-- the count at which passwords that were given for nobody's account are counted no further
abbrev pub stray_limit : ℕ
stray_limit = STRAYS_LIMIT

-- the items bear the numbers from the one after `before` on, in order
abbrev pub AreNumberedAfter : {A : Type 0} → (A → ℕ) → ℕ → List A → Type 0
AreNumberedAfter number before [] = Unit {0}
AreNumberedAfter number before (one ∷ others) =
    (number one ≡ before + 1) × AreNumberedAfter number (before + 1) others

-- the items bear the numbers from 1 on, in order
abbrev pub AreNumbered : {A : Type 0} → (A → ℕ) → List A → Type 0
AreNumbered number list = AreNumberedAfter number 0 list

-- a version has no more rows than it may
abbrev pub HasFewRows : Version → Type 0
HasFewRows version = length version.rows ≤ row_limit

-- a record has at least one version, its versions are numbered, and there are no more of them, and
-- of their rows, than there may be
pub record IsOrderly (kept : Record) : Type 0 where
  pub some : 1 ≤ length kept.versions
  pub few : length kept.versions ≤ version_limit
  pub numbered : AreNumbered (λ version. version.origin.number) kept.versions
  pub rows : All HasFewRows kept.versions

-- a version of a form has no greater number, and no more fields, than it may
pub record IsSmallForm (form : FormVersion) : Type 0 where
  pub version : form.version ≤ form_version_limit
  pub fields : length form.form.fields ≤ field_limit

-- the versions of each form, among the others, bear the numbers from 1 on, in order
abbrev pub AreFormsNumbered : List FormVersion → List FormVersion → Type 0
AreFormsNumbered before [] = Unit {0}
AreFormsNumbered before (one ∷ others) =
    (one.version ≡ next_form_version (last_form before one.code))
    × AreFormsNumbered (before ++ one ∷ []) others

-- no two persons have one code, and they stand in the order of their codes
abbrev pub AreInOrder : List Person → Type 0
AreInOrder (one ∷ other ∷ others) =
    IsTrue (comes_before one.code other.code) × AreInOrder (other ∷ others)
AreInOrder _ = Unit {0}

-- versions of forms stand in the order of their forms' codes
abbrev pub AreFormsInOrder : List FormVersion → Type 0
AreFormsInOrder (one ∷ other ∷ others) =
    (comes_before other.code one.code ≡ false) × AreFormsInOrder (other ∷ others)
AreFormsInOrder _ = Unit {0}

-- the form of a record is one of its laboratory's
abbrev pub IsByForm : List FormVersion → Record → Type 0
IsByForm forms kept = exact_form forms kept.form.code kept.form.version ≡ Some kept.form

-- a laboratory is within its limits
pub record IsWithin (lab : Lab) : Type 0 where
  pub persons : length lab.persons ≤ person_limit
  pub sessions : length lab.sessions ≤ count_limit
  pub trail : length lab.trail ≤ count_limit
  pub records : length lab.records ≤ record_limit
  pub strays : lab.strays ≤ stray_limit
  pub forms : All IsSmallForm lab.forms
  pub orderly : All IsOrderly lab.records
  pub by_form : All (IsByForm lab.forms) lab.records
  pub persons_ordered : AreInOrder lab.persons
  pub forms_ordered : AreFormsInOrder lab.forms
  pub forms_numbered : AreFormsNumbered [] lab.forms
  pub sessions_numbered : AreNumbered (λ session. session.number) lab.sessions
  pub records_numbered : AreNumbered (λ kept. kept.number) lab.records
  pub trail_numbered : AreNumbered (λ row. row.number) lab.trail
