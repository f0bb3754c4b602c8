-- Changes of a laboratory: what each makes of it, and which fit it. Each adds something under its
-- next number, or sets what is there; none takes anything away (21 CFR 11.10(e), "record changes
-- shall not obscure previously recorded information").
use Rattle.std.specs.Prelude.{◌≡◌, ◌≢◌, ◌⊎◌, ◌≤◌, ℕ, ◌+◌, All, option_map, List, [], ◌∷◌, ◌++◌, length, Option, Some, None, IsSome, IsTrue, MatchOption, bytes_eq, if◌then◌else◌}
use Rattle.std.specs.List.{insert, position_or_len}
use Rattle.lab_forms.specs.Forms.{is_form}
use Rattle.lab_people_access.specs.declared.persons.Person.{Person}
use Rattle.lab_people_access.specs.declared.sessions.Session.{Session}
use Rattle.lab_people_access.specs.Persons.{person_of}
use Rattle.lab_people_access.specs.Sessions.{session_of, sessions_after}
use Rattle.lab_people_access.specs.declared.persons.Ask.{Ask}
use Rattle.lab_seal_versions.specs.declared.rows.EntryRow.{EntryRow}
use Rattle.lab_seal_versions.specs.declared.versions.Format.TheVariants.{Two}
use Rattle.lab_seal_versions.specs.declared.seals.Meaning.{Meaning}
use Rattle.lab_seal_versions.specs.Seals.{meaning_word}
use Rattle.lab_records_kept.specs.declared.records.FormVersion.{FormVersion}
use Rattle.lab_records_kept.specs.declared.records.Record.{Record}
use Rattle.lab_records_kept.specs.declared.records.Version.{Version}
use Rattle.lab_records_kept.specs.declared.records.Signature.{Signature}
use Rattle.lab_records_kept.specs.declared.labs.Lab.{Lab}
use Rattle.lab_records_kept.specs.declared.changes.Change.{Change}
use Rattle.lab_records_kept.specs.declared.changes.Change.TheVariants.{Last, Strays, PersonAdded, PersonSet, SessionAdded, SessionSet, SessionsClosed, FormAdded, RecordAdded, RowAdded, VersionOpened, SignatureAdded, TrailAdded}
use Rattle.lab_records_kept.specs.Limits.{stray_limit}
use Rattle.lab_records_kept.specs.Lookups.{comes_before, last_form, next_form_version, has_number, is_numbered, record_of, record_about, last_of, last_version, numbered_version}
use Rattle.lab_records_kept.specs.Digests.{previous_of, digest_of}

-- a person is added before the first of a later code, or as the last: persons stand in the order of
-- their codes
abbrev pub added_person : Person → List Person → List Person
added_person person persons =
    insert persons (position_or_len (λ one. comes_before person.code one.code) persons) person

-- and so is a version of a form, after all of its own code
abbrev pub added_form : FormVersion → List FormVersion → List FormVersion
added_form form forms =
    insert forms (position_or_len (λ one. comes_before form.code one.code) forms) form

-- the person takes the place of the one of the same code
abbrev pub with_person : Person → List Person → List Person
with_person person [] = []
with_person person (one ∷ others) =
    if bytes_eq one.code person.code then person ∷ others else one ∷ with_person person others

-- the session takes the place of the one of the same token
abbrev pub with_session : Session → List Session → List Session
with_session session [] = []
with_session session (one ∷ others) =
    if bytes_eq one.token session.token then session ∷ others
    else one ∷ with_session session others

-- what is done to the record of a number, all others staying as they are
abbrev pub in_record : ℕ → (Record → Record) → List Record → List Record
in_record number next [] = []
in_record number next (one ∷ others) =
    if has_number number one then next one ∷ others else one ∷ in_record number next others

-- what is done to the version of a number
abbrev pub in_version : ℕ → (Version → Version) → List Version → List Version
in_version number next [] = []
in_version number next (one ∷ others) =
    if is_numbered number one then next one ∷ others else one ∷ in_version number next others

-- what is done to the last of a record's versions
abbrev pub in_last : (Version → Version) → List Version → List Version
in_last next [] = []
in_last next (one ∷ []) = next one ∷ []
in_last next (one ∷ other ∷ others) = one ∷ in_last next (other ∷ others)

-- a version with a row more, or with a signature more
abbrev pub with_row : EntryRow → Version → Version
with_row row version = record version { rows = version.rows ++ row ∷ [] }

abbrev pub with_signature : Signature → Version → Version
with_signature signature version =
    record version { signatures = version.signatures ++ signature ∷ [] }

-- a record with a row in its last version, with a signature of the version of a number, and with a
-- version more
abbrev pub entered_in : EntryRow → Record → Record
entered_in row kept = record kept { versions = in_last (with_row row) kept.versions }

abbrev pub signed_in : ℕ → Signature → Record → Record
signed_in number signature kept =
    record kept { versions = in_version number (with_signature signature) kept.versions }

abbrev pub opened_in : Version → Record → Record
opened_in version kept = record kept { versions = kept.versions ++ version ∷ [] }

-- a laboratory after one change
abbrev pub change : Lab → Change → Lab
change lab (Last moment) = record lab { last = moment }
change lab (Strays count) = record lab { strays = count }
change lab (PersonAdded person) = record lab { persons = added_person person lab.persons }
change lab (PersonSet person) = record lab { persons = with_person person lab.persons }
change lab (SessionAdded session) = record lab { sessions = lab.sessions ++ session ∷ [] }
change lab (SessionSet session) = record lab { sessions = with_session session lab.sessions }
change lab (SessionsClosed person closing) =
    record lab { sessions = sessions_after closing person lab.sessions }
change lab (FormAdded form) = record lab { forms = added_form form lab.forms }
change lab (RecordAdded kept) = record lab { records = lab.records ++ kept ∷ [] }
change lab (RowAdded number row) =
    record lab { records = in_record number (entered_in row) lab.records }
change lab (VersionOpened number version) =
    record lab { records = in_record number (opened_in version) lab.records }
change lab (SignatureAdded number version signature) =
    record lab { records = in_record number (signed_in version signature) lab.records }
change lab (TrailAdded row) = record lab { trail = lab.trail ++ row ∷ [] }

-- a laboratory after the changes, the first of them first
abbrev pub changed : Lab → List Change → Lab
changed lab [] = lab
changed lab (one ∷ others) = changed (change lab one) others

-- a laboratory after the changes, where there is one
abbrev pub changed_in : Option Lab → List Change → Option Lab
changed_in None changes = None
changed_in (Some lab) changes = Some (changed lab changes)

-- ---- which changes fit

-- an account keeps its code and its printed name (21 CFR 11.100(a))
pub record SamePerson (old new : Person) : Type 0 where
  pub code : new.code ≡ old.code
  pub name : new.name ≡ old.name

-- a session keeps its number, its person, its token and its opening
pub record SameSession (old new : Session) : Type 0 where
  pub number : new.number ≡ old.number
  pub person : new.person ≡ old.person
  pub token : new.token ≡ old.token
  pub opened : new.opened ≡ old.opened

-- somebody of the laboratory has the code, or had it
abbrev pub IsKnown : Lab → List ℕ → Type 0
IsKnown lab code = IsSome (person_of lab.persons code)

-- nobody, or somebody of the laboratory
abbrev pub IsKnownIfAny : Lab → Option (List ℕ) → Type 0
IsKnownIfAny lab None = Unit {0}
IsKnownIfAny lab (Some code) = IsKnown lab code

-- a version that is opened: its text is of the newer format, and says whether its form wants an
-- approval
abbrev pub IsOfForm : Version → Record → Type 0
IsOfForm version kept = version.format ≡ Two kept.form.form.approval

-- a new record: it is filled in by the last version of its form, and has one version, the first,
-- without rows and signatures
pub record IsNewRecord (lab : Lab) (kept : Record) : Type 0 where
  pub number : kept.number ≡ length lab.records + 1
  pub alone : record_about lab.records kept.form.code kept.sample ≡ None
  pub form : last_form lab.forms kept.form.code ≡ Some kept.form
  pub first : Version
  pub versions : kept.versions ≡ first ∷ []
  pub format : IsOfForm first kept
  pub origin : first.origin ≡ record { number = 1; amendment = None }
  pub opener : IsKnown lab first.opener
  pub no_rows : first.rows ≡ []
  pub no_signatures : first.signatures ≡ []

-- a new version of a record: it has the next number, amends the last version as it is now, and has
-- no signatures
pub record IsNewVersion (lab : Lab) (version : Version) (kept : Record) : Type 0 where
  pub last : Version
  pub before : last_of kept.versions ≡ Some last
  pub next : version.origin.number ≡ last.origin.number + 1
  pub previous : previous_of version ≡ Some (digest_of lab.code kept last)
  pub format : IsOfForm version kept
  pub opener : IsKnown lab version.opener
  pub persons : All (λ row. IsKnown lab row.person) version.rows
  pub no_signatures : version.signatures ≡ []

-- no signature of a version has the meaning
abbrev pub IsNewMeaning : Meaning → Version → Type 0
IsNewMeaning meaning version =
    All (λ one. meaning_word one.meaning ≢ meaning_word meaning) version.signatures

-- what was asked for by the account's administrators is as before, or by somebody of the laboratory
abbrev pub IsAskKnown : Lab → Option Ask → Option Ask → Type 0
IsAskKnown lab old new =
    (new ≡ old) ⊎ IsKnownIfAny lab (option_map (λ ask. ask.asker) new)

-- what is added comes under its next number and brings no key twice, nor does a form among its
-- fields; who asked for something is known, and what is set is there
abbrev pub Fits : Lab → Change → Type 0
Fits lab (Last moment) = Unit {0}
Fits lab (Strays count) = count ≤ stray_limit
Fits lab (PersonAdded person) =
    (person_of lab.persons person.code ≡ None)
    × IsKnownIfAny lab (option_map (λ ask. ask.asker) person.ask)
Fits lab (PersonSet person) =
    MatchOption (person_of lab.persons person.code) ⊥
    (λ old. SamePerson old person × IsAskKnown lab old.ask person.ask)
Fits lab (SessionAdded session) =
    (session.number ≡ length lab.sessions + 1) × (session_of lab.sessions session.token ≡ None)
    × IsKnown lab session.person
Fits lab (SessionSet session) =
    MatchOption (session_of lab.sessions session.token) ⊥ (λ old. SameSession old session)
Fits lab (SessionsClosed person closing) = Unit {0}
Fits lab (FormAdded form) =
    (form.version ≡ next_form_version (last_form lab.forms form.code))
    × IsTrue (is_form form.form.fields)
Fits lab (RecordAdded kept) = IsNewRecord lab kept
Fits lab (RowAdded number row) =
    IsSome (last_version lab number) × IsKnown lab row.person
Fits lab (VersionOpened number version) =
    MatchOption (record_of lab.records number) ⊥ (IsNewVersion lab version)
Fits lab (SignatureAdded number version signature) =
    MatchOption (numbered_version lab number version) ⊥ (IsNewMeaning signature.meaning)
    × IsKnown lab signature.person
Fits lab (TrailAdded row) = (row.number ≡ length lab.trail + 1) × IsKnownIfAny lab row.person

-- changes fit one after the other
abbrev pub AllFit : Lab → List Change → Type 0
AllFit lab [] = Unit {0}
AllFit lab (one ∷ others) = Fits lab one × AllFit (change lab one) others

-- none fits where there is no laboratory
abbrev pub ChangesFit : Option Lab → List Change → Type 0
ChangesFit (Some lab) changes = AllFit lab changes
ChangesFit None [] = Unit {0}
ChangesFit None (one ∷ others) = ⊥
