-- What each kind of change of a laboratory makes of the tables: rows that are added, under any ids
-- that no row of their tables has, and rows that are set. Counters and `current` follow; every
-- other row stays as it is, and none is taken away (21 CFR 11.10(e), "record changes shall not
-- obscure previously recorded information"). Whose the rows are is said once, by the row of the
-- laboratory with the code: each added row has that row's id, or an arrow to a row that was found
-- under it. A change that names somebody or something which isn't found there makes nothing of the
-- tables: it is related to none.
use Rattle.std.specs.Prelude.{◌≡◌, ℕ, ℤ, ◌+◌, Bool, false, true, ◌&&◌, ◌==◌, List, [], ◌∷◌, length, filter, find, Option, Some, None, option_map, bytes_eq}
use Rattle.std.specs.Ordering.{int_eq}
use Rattle.sqlite_keyed.specs.Keyed.{has_key, insert_by}
use Rattle.sqlite_keyed.specs.Lists.{update_where}
use Rattle.lab_people_access.specs.declared.persons.Person.{Person}
use Rattle.lab_people_access.specs.declared.persons.Ask.{Ask}
use Rattle.lab_people_access.specs.declared.sessions.Session.{Session}
use Rattle.lab_people_access.specs.declared.sessions.Closing.{Closing}
use Rattle.lab_people_access.specs.Sessions.{is_closed_by}
use Rattle.lab_forms.specs.declared.forms.Field.{Field}
use Rattle.lab_seal_versions.specs.declared.rows.EntryRow.{EntryRow as Entry}
use Rattle.lab_seal_versions.specs.Seals.{meaning_word}
use Rattle.lab_records_kept.specs.declared.records.FormVersion.{FormVersion}
use Rattle.lab_records_kept.specs.declared.records.Record.{Record}
use Rattle.lab_records_kept.specs.declared.records.Version.{Version}
use Rattle.lab_records_kept.specs.declared.records.Signature.{Signature}
use Rattle.lab_records_kept.specs.declared.trails.TrailRow.{TrailRow as Told}
use Rattle.lab_records_kept.specs.declared.changes.Change.{Change}
use Rattle.lab_records_kept.specs.declared.changes.Change.TheVariants.{Last, Strays, PersonAdded, PersonSet, SessionAdded, SessionSet, SessionsClosed, FormAdded, RecordAdded, RowAdded, VersionOpened, SignatureAdded, TrailAdded}
use Rattle.lab_records_kept.specs.Trails.{action_word}
use Rattle.lab_store_tables.specs.Rows.{LabRow, PersonRow, SessionRow, FormRow, FieldRow, ChoiceRow, RecordRow, VersionRow, EntryRow, SignatureRow, TrailRow, Tables, person_id, session_id, form_id, field_id, choice_id, record_id, version_id, entry_id, signature_id, trail_id}
use Rattle.lab_store_tables.specs.Columns.{roles_sum, password_columns, ask_columns, kind_columns, kind_names, format_number, reason_column}
use Rattle.lab_store_tables.specs.Meaning.{session_in, has_code}

-- ---- rows that are named by codes and numbers, among those of the laboratory of an id

abbrev pub is_person : ℤ → List ℕ → PersonRow → Bool
is_person lab code one = int_eq one.lab lab && bytes_eq one.code code

abbrev pub person_named : Tables → ℤ → List ℕ → Option ℤ
person_named t lab code = option_map person_id (find (is_person lab code) t.persons)

abbrev pub is_session : ℤ → List ℕ → SessionRow → Bool
is_session lab token one = int_eq one.lab lab && bytes_eq one.token token

abbrev pub is_form_row : ℤ → List ℕ → ℕ → FormRow → Bool
is_form_row lab code version one =
    int_eq one.lab lab && bytes_eq one.code code && (one.version == version)

abbrev pub form_named : Tables → ℤ → List ℕ → ℕ → Option ℤ
form_named t lab code version = option_map form_id (find (is_form_row lab code version) t.forms)

abbrev pub is_record_row : ℤ → ℕ → RecordRow → Bool
is_record_row lab number one = int_eq one.lab lab && (one.number == number)

abbrev pub record_named : Tables → ℤ → ℕ → Option RecordRow
record_named t lab number = find (is_record_row lab number) t.records

abbrev pub is_version_row : ℤ → ℕ → VersionRow → Bool
is_version_row kept number one = int_eq one.kept kept && (one.number == number)

abbrev pub version_named : Tables → ℤ → ℕ → Option ℤ
version_named t kept number =
    option_map version_id (find (is_version_row kept number) t.versions)

-- who is named, where somebody is, is one of the laboratory, by this id
abbrev pub IsNamedIfAny : Tables → ℤ → Option (List ℕ) → Option ℤ → Type 0
IsNamedIfAny t lab None person = person ≡ None
IsNamedIfAny t lab (Some code) person =
    (id : ℤ) × (person_named t lab code ≡ Some id) × (person ≡ Some id)

-- no row has the id
abbrev pub IsFree : {X : Type 0} → (X → ℤ) → List X → ℤ → Type 0
IsFree id rows new = has_key id rows new ≡ false

-- one step after the other, for each item
abbrev pub InTurn : {A : Type 0} → (A → Tables → Tables → Type 0) → List A → Tables → Tables
    → Type 0
InTurn step [] old new = new ≡ old
InTurn step (one ∷ others) old new =
    (middle : Tables) × step one old middle × InTurn step others middle new

-- ---- tables into which a row is put, at the place of its id

abbrev pub put_person : PersonRow → Tables → Tables
put_person row t = record t { persons = insert_by person_id t.persons row }

abbrev pub put_session : SessionRow → Tables → Tables
put_session row t = record t { sessions = insert_by session_id t.sessions row }

abbrev pub put_form : FormRow → Tables → Tables
put_form row t = record t { forms = insert_by form_id t.forms row }

abbrev pub put_field : FieldRow → Tables → Tables
put_field row t = record t { fields = insert_by field_id t.fields row }

abbrev pub put_choice : ChoiceRow → Tables → Tables
put_choice row t = record t { choices = insert_by choice_id t.choices row }

abbrev pub put_record : RecordRow → Tables → Tables
put_record row t = record t { records = insert_by record_id t.records row }

abbrev pub put_version : VersionRow → Tables → Tables
put_version row t = record t { versions = insert_by version_id t.versions row }

abbrev pub put_entry : EntryRow → Tables → Tables
put_entry row t = record t { entries = insert_by entry_id t.entries row }

abbrev pub put_signature : SignatureRow → Tables → Tables
put_signature row t = record t { signatures = insert_by signature_id t.signatures row }

abbrev pub put_told : TrailRow → Tables → Tables
put_told row t = record t { trail = insert_by trail_id t.trail row }

-- ---- tables with a row set

abbrev pub in_lab : ℤ → (LabRow → LabRow) → Tables → Tables
in_lab id next t = record t { labs = update_where (λ (one : LabRow). int_eq one.id id) next t.labs }

-- the row with the same id becomes this one
abbrev pub set_person : PersonRow → Tables → Tables
set_person row t = record t {
  persons = update_where (λ (one : PersonRow). int_eq one.id row.id)
      (λ (one : PersonRow). row) t.persons;
}

abbrev pub set_session : SessionRow → Tables → Tables
set_session row t = record t {
  sessions = update_where (λ (one : SessionRow). int_eq one.id row.id)
      (λ (one : SessionRow). row) t.sessions;
}

abbrev pub set_current : ℤ → ℕ → Tables → Tables
set_current id number t = record t {
  records = update_where (λ (one : RecordRow). int_eq one.id id)
      (λ (one : RecordRow). record one { current = number }) t.records;
}

-- the sessions of a laboratory that are closed
abbrev pub is_to_close : Tables → ℤ → List ℕ → Closing → SessionRow → Bool
is_to_close t lab person closing one =
    int_eq one.lab lab && is_closed_by closing person (session_in t one)

abbrev pub close_sessions : ℤ → List ℕ → Closing → Tables → Tables
close_sessions lab person closing t = record t {
  sessions = update_where (is_to_close t lab person closing)
      (λ (one : SessionRow). record one { closed = true }) t.sessions;
}

-- ---- persons

-- the code of who asked for a one-time password of the person, where somebody did
abbrev pub asker_of : Person → Option (List ℕ)
asker_of person = option_map (λ (ask : Ask). ask.asker) person.ask

-- the row of a person of a laboratory, under an id; who asked stands as an id too
abbrev pub person_row_of : ℤ → ℤ → Option ℤ → Person → PersonRow
person_row_of lab id asker person = record {
  id = id;
  lab = lab;
  code = person.code;
  name = person.name;
  roles = roles_sum person.roles;
  retired = person.retired;
  failures = person.failures;
  locked = person.locked;
  password = password_columns person.password;
  ask = ask_columns asker person.ask;
}

pub record AddsPerson (lab : ℤ) (person : Person) (old new : Tables) : Type 0 where
  pub id : ℤ
  pub free : IsFree person_id old.persons id
  pub asker : Option ℤ
  pub named : IsNamedIfAny old lab (asker_of person) asker
  pub made : new ≡ put_person (person_row_of lab id asker person) old

pub record SetsPerson (lab : ℤ) (person : Person) (old new : Tables) : Type 0 where
  pub id : ℤ
  pub found : person_named old lab person.code ≡ Some id
  pub asker : Option ℤ
  pub named : IsNamedIfAny old lab (asker_of person) asker
  pub made : new ≡ set_person (person_row_of lab id asker person) old

-- ---- sessions

abbrev pub session_row_of : ℤ → ℤ → ℤ → Session → SessionRow
session_row_of lab id person session = record {
  id = id;
  lab = lab;
  person = person;
  number = session.number;
  token = session.token;
  opened = session.opened;
  last = session.last;
  closed = session.closed;
  signed = session.signed;
}

pub record AddsSession (lab : ℤ) (session : Session) (old new : Tables) : Type 0 where
  pub id : ℤ
  pub free : IsFree session_id old.sessions id
  pub person : ℤ
  pub named : person_named old lab session.person ≡ Some person
  pub made : new ≡ in_lab lab (λ (one : LabRow). record one { sessions = session.number })
      (put_session (session_row_of lab id person session) old)

pub record SetsSession (lab : ℤ) (session : Session) (old new : Tables) : Type 0 where
  pub id : ℤ
  pub found : option_map session_id (find (is_session lab session.token) old.sessions) ≡ Some id
  pub person : ℤ
  pub named : person_named old lab session.person ≡ Some person
  pub made : new ≡ set_session (session_row_of lab id person session) old

-- ---- forms

abbrev pub choice_row_of : Tables → ℤ → ℤ → List ℕ → ChoiceRow
choice_row_of t field id name = record {
  id = id;
  field = field;
  place = length (filter (λ (one : ChoiceRow). int_eq one.field field) t.choices) + 1;
  name = name;
}

pub record AddsChoice (field : ℤ) (name : List ℕ) (old new : Tables) : Type 0 where
  pub id : ℤ
  pub free : IsFree choice_id old.choices id
  pub made : new ≡ put_choice (choice_row_of old field id name) old

abbrev pub field_row_of : Tables → ℤ → ℤ → Field → FieldRow
field_row_of t form id field = record {
  id = id;
  form = form;
  place = length (filter (λ (one : FieldRow). int_eq one.form form) t.fields) + 1;
  key = field.key;
  label = field.label;
  required = field.required;
  kind = kind_columns field.kind;
}

-- a field, and then its choices
pub record AddsField (form : ℤ) (field : Field) (old new : Tables) : Type 0 where
  pub id : ℤ
  pub free : IsFree field_id old.fields id
  pub choices : InTurn (AddsChoice id) (kind_names field.kind)
      (put_field (field_row_of old form id field) old) new

abbrev pub form_row_of : ℤ → ℤ → FormVersion → FormRow
form_row_of lab id form = record {
  id = id;
  lab = lab;
  code = form.code;
  version = form.version;
  approval = form.form.approval;
}

-- a version of a form, and then its fields
pub record AddsForm (lab : ℤ) (form : FormVersion) (old new : Tables) : Type 0 where
  pub id : ℤ
  pub free : IsFree form_id old.forms id
  pub fields : InTurn (AddsField id) form.form.fields (put_form (form_row_of lab id form) old) new

-- ---- entries and signatures, each behind those that its version has

abbrev pub entry_row_of : Tables → ℤ → ℤ → ℤ → Entry → EntryRow
entry_row_of t version id person entry = record {
  id = id;
  version = version;
  place = length (filter (λ (one : EntryRow). int_eq one.version version) t.entries) + 1;
  key = entry.key;
  value = entry.value;
  unit = entry.unit;
  person = person;
  moment = entry.moment;
  reason = entry.reason;
}

pub record AddsEntry (lab version : ℤ) (entry : Entry) (old new : Tables) : Type 0 where
  pub id : ℤ
  pub free : IsFree entry_id old.entries id
  pub person : ℤ
  pub named : person_named old lab entry.person ≡ Some person
  pub made : new ≡ put_entry (entry_row_of old version id person entry) old

abbrev pub signature_row_of : Tables → ℤ → ℤ → ℤ → Signature → SignatureRow
signature_row_of t version id person signature = record {
  id = id;
  version = version;
  place = length (filter (λ (one : SignatureRow). int_eq one.version version) t.signatures) + 1;
  person = person;
  name = signature.name;
  meaning = meaning_word signature.meaning;
  moment = signature.moment;
  reason = reason_column signature.meaning;
  digest = signature.digest;
  seal = signature.seal;
}

pub record AddsSignature (lab version : ℤ) (signature : Signature) (old new : Tables) : Type 0 where
  pub id : ℤ
  pub free : IsFree signature_id old.signatures id
  pub person : ℤ
  pub named : person_named old lab signature.person ≡ Some person
  pub made : new ≡ put_signature (signature_row_of old version id person signature) old

-- ---- versions and records

abbrev pub version_row_of : ℤ → ℤ → ℤ → Version → VersionRow
version_row_of kept id opener version = record {
  id = id;
  kept = kept;
  number = version.origin.number;
  format = format_number version.format;
  opener = opener;
  opened = version.opened;
  reason = option_map (λ amendment. amendment.reason) version.origin.amendment;
}

-- a version of a record, and then its rows and its signatures; no column says that the version
-- amends the one before it as that one is now
pub record AddsVersion (lab kept : ℤ) (version : Version) (old new : Tables) : Type 0 where
  pub id : ℤ
  pub free : IsFree version_id old.versions id
  pub opener : ℤ
  pub named : person_named old lab version.opener ≡ Some opener
  pub entered : Tables
  pub rows : InTurn (AddsEntry lab id) version.rows
      (put_version (version_row_of kept id opener version) old) entered
  pub signatures : InTurn (AddsSignature lab id) version.signatures entered new

abbrev pub record_row_of : ℤ → ℤ → ℤ → Record → RecordRow
record_row_of lab id form kept = record {
  id = id;
  lab = lab;
  number = kept.number;
  form = form;
  form_code = kept.form.code;
  sample = kept.sample;
  current = length kept.versions;
}

-- a record, and then its versions, of which a new one has the first
pub record AddsRecord (lab : ℤ) (kept : Record) (old new : Tables) : Type 0 where
  pub id : ℤ
  pub free : IsFree record_id old.records id
  pub form : ℤ
  pub named : form_named old lab kept.form.code kept.form.version ≡ Some form
  pub versions : InTurn (AddsVersion lab id) kept.versions
      (in_lab lab (λ (one : LabRow). record one { records = kept.number })
      (put_record (record_row_of lab id form kept) old)) new

-- a row in the last version of a record
pub record EntersRow (lab : ℤ) (number : ℕ) (entry : Entry) (old new : Tables) : Type 0 where
  pub kept : RecordRow
  pub found : record_named old lab number ≡ Some kept
  pub version : ℤ
  pub last : version_named old kept.id kept.current ≡ Some version
  pub added : AddsEntry lab version entry old new

-- a version more of a record, which is then the current one
pub record OpensVersion (lab : ℤ) (number : ℕ) (version : Version) (old new : Tables) : Type 0 where
  pub kept : RecordRow
  pub found : record_named old lab number ≡ Some kept
  pub opened : Tables
  pub added : AddsVersion lab kept.id version old opened
  pub current : new ≡ set_current kept.id version.origin.number opened

-- a signature of a version of a record
pub record SignsVersion (lab : ℤ) (number version : ℕ) (signature : Signature) (old new : Tables)
    : Type 0 where
  pub kept : RecordRow
  pub found : record_named old lab number ≡ Some kept
  pub signed : ℤ
  pub there : version_named old kept.id version ≡ Some signed
  pub added : AddsSignature lab signed signature old new

-- ---- the trail

abbrev pub told_row_of : ℤ → ℤ → Option ℤ → Told → TrailRow
told_row_of lab id person told = record {
  id = id;
  lab = lab;
  number = told.number;
  moment = told.moment;
  person = person;
  action = action_word told.action;
  subject = told.subject;
}

pub record AddsTold (lab : ℤ) (told : Told) (old new : Tables) : Type 0 where
  pub id : ℤ
  pub free : IsFree trail_id old.trail id
  pub person : Option ℤ
  pub named : IsNamedIfAny old lab told.person person
  pub made : new ≡ in_lab lab (λ (one : LabRow). record one { trail = told.number })
      (put_told (told_row_of lab id person told) old)

-- ---- changes

-- what a change makes of the tables, where the laboratory's row has the id
abbrev pub AppliesIn : ℤ → Change → Tables → Tables → Type 0
AppliesIn lab (Last moment) old new =
    new ≡ in_lab lab (λ (one : LabRow). record one { last = moment }) old
AppliesIn lab (Strays count) old new =
    new ≡ in_lab lab (λ (one : LabRow). record one { stray = count }) old
AppliesIn lab (PersonAdded person) old new = AddsPerson lab person old new
AppliesIn lab (PersonSet person) old new = SetsPerson lab person old new
AppliesIn lab (SessionAdded session) old new = AddsSession lab session old new
AppliesIn lab (SessionSet session) old new = SetsSession lab session old new
AppliesIn lab (SessionsClosed person closing) old new = new ≡ close_sessions lab person closing old
AppliesIn lab (FormAdded form) old new = AddsForm lab form old new
AppliesIn lab (RecordAdded kept) old new = AddsRecord lab kept old new
AppliesIn lab (RowAdded number row) old new = EntersRow lab number row old new
AppliesIn lab (VersionOpened number version) old new = OpensVersion lab number version old new
AppliesIn lab (SignatureAdded number version signature) old new =
    SignsVersion lab number version signature old new
AppliesIn lab (TrailAdded row) old new = AddsTold lab row old new

-- the change was made of the laboratory of the code
pub record Applies (code : List ℕ) (one : Change) (old new : Tables) : Type 0 where
  pub lab : LabRow
  pub found : find (has_code code) old.labs ≡ Some lab
  pub made : AppliesIn lab.id one old new
