-- What a laboratory keeps from one event to the next (21 CFR 11.10(e), "record changes shall not
-- obscure previously recorded information", and 11.100(a), a signature is not reassigned), and what
-- the trail tells where its records differ.
use Rattle.std.specs.Prelude.{◌≡◌, ◌≢◌, ◌⊎◌, ℕ, ◌+◌, true, List, [], ◌∷◌, ◌++◌, length, Option, Some, IsSome, MatchOption, All, option_map, option_and_then}
use Rattle.lab_people_access.specs.declared.persons.Person.{Person}
use Rattle.lab_people_access.specs.declared.sessions.Session.{Session}
use Rattle.lab_people_access.specs.Persons.{person_of}
use Rattle.lab_seal_versions.specs.declared.rows.EntryRow.{EntryRow}
use Rattle.lab_seal_versions.specs.declared.seals.Meaning.{Meaning}
use Rattle.lab_records_kept.specs.declared.records.FormVersion.{FormVersion}
use Rattle.lab_records_kept.specs.declared.records.Record.{Record as KeptRecord}
use Rattle.lab_records_kept.specs.declared.records.Version.{Version}
use Rattle.lab_records_kept.specs.declared.records.Signature.{Signature}
use Rattle.lab_records_kept.specs.declared.trails.Deed.{Deed}
use Rattle.lab_records_kept.specs.declared.trails.Deed.TheVariants.{Record, Entry, Amend, Sign}
use Rattle.lab_records_kept.specs.declared.labs.Lab.{Lab}
use Rattle.lab_records_kept.specs.Trails.{trail_row_of}
use Rattle.lab_records_kept.specs.Lookups.{exact_form, record_of, last_of, version_of}
use Rattle.lab_records_kept.specs.Changes.{SamePerson, SameSession, IsKnown, in_record, entered_in, opened_in, signed_in}

-- each item of the old list stands in its place in the new one, related to it so; the new one may
-- have more
abbrev pub Extends : {A : Type 0} → (A → A → Type 0) → List A → List A → Type 0
Extends Same [] new = Unit {0}
Extends Same (one ∷ others) [] = ⊥
Extends Same (one ∷ others) (other ∷ more) = Same one other × Extends Same others more

-- each item of the old list is the one in its place in the new one
abbrev pub IsPrefix : {A : Type 0} → List A → List A → Type 0
IsPrefix old new = Extends (λ one other. other ≡ one) old new

-- the rows stay; where nothing was signed yet there may be more
abbrev pub KeepsRows : List Signature → List EntryRow → List EntryRow → Type 0
KeepsRows [] old new = IsPrefix old new
KeepsRows (one ∷ others) old new = new ≡ old

-- a version keeps what it says and its signatures, and takes rows only while it has no signature
pub record KeepsVersion (old new : Version) : Type 0 where
  pub format : new.format ≡ old.format
  pub origin : new.origin ≡ old.origin
  pub opener : new.opener ≡ old.opener
  pub opened : new.opened ≡ old.opened
  pub rows : KeepsRows old.signatures old.rows new.rows
  pub signatures : IsPrefix old.signatures new.signatures

-- a record keeps what it is about and its versions
pub record KeepsRecord (old new : KeptRecord) : Type 0 where
  pub number : new.number ≡ old.number
  pub form : new.form ≡ old.form
  pub sample : new.sample ≡ old.sample
  pub versions : Extends KeepsVersion old.versions new.versions

-- an account keeps its code and its printed name, and one who was retired stays retired
pub record KeepsPerson (old new : Person) : Type 0 where
  pub same : SamePerson old new
  pub retired : old.retired ≡ true → new.retired ≡ true

-- whoever had a code has it, under the same printed name, and retired, if it was
abbrev pub KeepsPersons : List Person → List Person → Type 0
KeepsPersons old new =
    (code : List ℕ) (person : Person) → person_of old code ≡ Some person
    → MatchOption (person_of new code) ⊥ (KeepsPerson person)

-- a session keeps what it was opened with, and one that was closed stays closed
pub record KeepsSession (old new : Session) : Type 0 where
  pub same : SameSession old new
  pub closed : old.closed ≡ true → new.closed ≡ true

-- a version of a form stays as it is
abbrev pub KeepsForms : List FormVersion → List FormVersion → Type 0
KeepsForms old new =
    (code : List ℕ) (version : ℕ) (form : FormVersion) → exact_form old code version ≡ Some form
    → exact_form new code version ≡ Some form

-- ---- what the trail tells

-- a record was opened by the person at the moment: it has one version, without rows and signatures
pub record IsOpenedBy (kept : KeptRecord) (number moment : ℕ) (person : List ℕ) : Type 0 where
  pub numbered : kept.number ≡ number
  pub first : Version
  pub versions : kept.versions ≡ first ∷ []
  pub opener : first.opener ≡ person
  pub opened : first.opened ≡ moment
  pub no_rows : first.rows ≡ []
  pub no_signatures : first.signatures ≡ []

-- the number of a record's last version
abbrev pub last_number : List KeptRecord → ℕ → Option ℕ
last_number records number =
    option_map (λ version. version.origin.number)
    (option_and_then (λ kept. last_of kept.versions) (record_of records number))

-- a record's version of a number is there
abbrev pub HasVersion : List KeptRecord → ℕ → ℕ → Type 0
HasVersion records number version =
    IsSome (option_and_then (λ kept. version_of kept.versions version) (record_of records number))

-- a row of an amendment bears its person, its moment and its reason
pub record IsAmended (opened : Version) (moment : ℕ) (person : List ℕ) (row : EntryRow)
    : Type 0 where
  pub by : row.person ≡ person
  pub at : row.moment ≡ moment
  pub why : row.reason ≡ option_map (λ amendment. amendment.reason) opened.origin.amendment

-- a record was opened by the person at the moment, and stands behind the others
pub record IsRecordAdded (old new : List KeptRecord) (number moment : ℕ) (person : List ℕ)
    : Type 0 where
  pub kept : KeptRecord
  pub added : new ≡ old ++ kept ∷ []
  pub opened : IsOpenedBy kept number moment person

-- a row was entered into the record's last version, whose number is `version`: under the key, by
-- the person at the moment
pub record IsRowAdded (old new : List KeptRecord) (number version : ℕ) (key : List ℕ)
    (moment : ℕ) (person : List ℕ) : Type 0 where
  pub row : EntryRow
  pub last : last_number old number ≡ Some version
  pub added : new ≡ in_record number (entered_in row) old
  pub under : row.key ≡ key
  pub by : row.person ≡ person
  pub at : row.moment ≡ moment

-- a version was opened by an amendment of the person at the moment, and stands behind those of its
-- record, which has some, under the number after the last: it has rows, all of them the
-- amendment's, and no signatures
pub record IsVersionAdded (old new : List KeptRecord) (number version moment : ℕ)
    (person : List ℕ) : Type 0 where
  pub opened : Version
  pub last : ℕ
  pub before : last_number old number ≡ Some last
  pub next : version ≡ last + 1
  pub added : new ≡ in_record number (opened_in opened) old
  pub numbered : opened.origin.number ≡ version
  pub by : opened.opener ≡ person
  pub at : opened.opened ≡ moment
  pub some : opened.rows ≢ []
  pub rows : All (IsAmended opened moment person) opened.rows
  pub no_signatures : opened.signatures ≡ []

-- somebody has the code, under this printed name
abbrev pub IsNamed : List Person → List ℕ → List ℕ → Type 0
IsNamed persons code name = MatchOption (person_of persons code) ⊥ (λ one. name ≡ one.name)

-- a signature of the person at the moment was added to the version, which was there; it bears the
-- printed name of its signer, its moment and its meaning (21 CFR 11.50(a))
pub record IsSignatureAdded (persons : List Person) (old new : List KeptRecord)
    (number version : ℕ) (meaning : Meaning) (moment : ℕ) (person : List ℕ) : Type 0 where
  pub signature : Signature
  pub there : HasVersion old number version
  pub added : new ≡ in_record number (signed_in version signature) old
  pub meant : signature.meaning ≡ meaning
  pub by : signature.person ≡ person
  pub named : IsNamed persons person signature.name
  pub at : signature.moment ≡ moment

-- what the deed did to the records; any deed but these four left them as they were
abbrev pub IsDoneTo : Deed → List Person → List KeptRecord → List KeptRecord → ℕ → List ℕ → Type 0
IsDoneTo (Record number) persons old new moment person =
    IsRecordAdded old new number moment person
IsDoneTo (Entry number version key) persons old new moment person =
    IsRowAdded old new number version key moment person
IsDoneTo (Amend number version) persons old new moment person =
    IsVersionAdded old new number version moment person
IsDoneTo (Sign number version meaning) persons old new moment person =
    IsSignatureAdded persons old new number version meaning moment person
IsDoneTo _ persons old new moment person = new ≡ old

-- the trail has one row more, which tells of a deed, by whom of the laboratory and when; by it the
-- records became others, or they stayed, where it isn't a deed on records
pub record IsToldOnce (old new : Lab) : Type 0 where
  pub deed : Deed
  pub moment : ℕ
  pub person : List ℕ
  pub told : new.trail ≡ old.trail ++ trail_row_of (length old.trail + 1) moment (Some person) deed ∷ []
  pub at : moment ≡ new.last
  pub by : IsKnown old person
  pub done : IsDoneTo deed old.persons old.records new.records moment person

-- ---- a laboratory keeps the one before

pub record Keeps (old new : Lab) : Type 0 where
  pub code : new.code ≡ old.code
  pub name : new.name ≡ old.name
  pub persons : KeepsPersons old.persons new.persons
  pub sessions : Extends KeepsSession old.sessions new.sessions
  pub forms : KeepsForms old.forms new.forms
  pub records : Extends KeepsRecord old.records new.records
  pub trail : IsPrefix old.trail new.trail
  pub told : (new.records ≡ old.records) ⊎ IsToldOnce old new
