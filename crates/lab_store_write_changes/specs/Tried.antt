-- Which statements changes may try, and over which tables: of one change, the statements of its
-- writer; of several, those of one of them, over the tables that those before it made.
use Rattle.std.specs.Prelude.{◌≡◌, ◌⊎◌, ℕ, ℤ, pos, List, Option, Some, None, Result}
use Rattle.sqlite_keyed.specs.Keyed.{next_key}
use Rattle.sqlite.specs.declared.error.Error.{Error}
use Rattle.sqlite.specs.State.{State}
use Rattle.lab_forms.specs.declared.forms.Field.{Field}
use Rattle.lab_seal_versions.specs.declared.rows.EntryRow.{EntryRow as Entry}
use Rattle.lab_records_kept.specs.declared.records.FormVersion.{FormVersion}
use Rattle.lab_records_kept.specs.declared.records.Record.{Record}
use Rattle.lab_records_kept.specs.declared.records.Signature.{Signature}
use Rattle.lab_records_kept.specs.declared.records.Version.{Version}
use Rattle.lab_records_kept.specs.declared.changes.Change.{Change}
use Rattle.lab_records_kept.specs.declared.changes.Change.TheVariants.{Last, Strays, PersonAdded, PersonSet, SessionAdded, SessionSet, SessionsClosed, FormAdded, RecordAdded, RowAdded, VersionOpened, SignatureAdded, TrailAdded}
use Rattle.lab_records_kept.specs.declared.trails.TrailRow.{TrailRow as Told}
use Rattle.lab_store_tables.specs.Columns.{kind_names}
use Rattle.lab_store_tables.specs.Rows.{LabRow, RecordRow, Tables, form_id, field_id, record_id, version_id}
use Rattle.lab_store_tables.specs.Changes.{person_named, choice_row_of, field_row_of, form_row_of, put_field, entry_row_of, signature_row_of, InTurn, in_lab, form_named, record_named, record_row_of, version_row_of, AddsChoice, AddsField, AddsEntry, AddsSignature, AddsVersion}
use Rattle.lab_store_tables.specs.Steps.{StepsBy}
use Rattle.lab_store_write.specs.declared.named.Giver.{Giver}
use Rattle.lab_store_write.specs.Calls.{WritesTrying, MadeFrom}
use Rattle.lab_store_write.specs.Causes.{Statement, Tries}
use Rattle.lab_store_write.specs.Givers.{Knows}
use Rattle.lab_store_write.specs.Statements.{asking_person, setting_last, setting_strays}
use Rattle.lab_store_write.specs.Tried.{Over, TriesIfAny, TriesInTurn, TriesToAddPerson, TriesToSetPerson, TriesToAddSession, TriesToSetSession, TriesToCloseOf, TriesToAddTold}
pub use Rattle.lab_store_write.specs.Tried.{Only, TriedFrom}
use Rattle.lab_store_write_changes.specs.FormsAdded.{with_form}
use Rattle.lab_store_write_changes.specs.Framed.{IsFramed}
use Rattle.lab_store_write_changes.specs.RecordsAdded.{with_record, with_version}
pub use Rattle.lab_store_write_changes.specs.Private.Statements.{adding_entry_at, adding_signature_at}
pub use Rattle.lab_store_write_changes.specs.Statements.{asking_record, asking_form, adding_record, counting_records, adding_version, setting_current, adding_form, asking_fields, adding_field, asking_choices, adding_choice, asking_current, asking_version, asking_entries, adding_entry, asking_signatures, adding_signature}
use Rattle.lab_store_write_changes.specs.VersionsShown.{current_of, version_in_record}

-- a writer that is given who gives the command, where that person is known
abbrev pub WritesKnowing : {T A : Type 0} → ℤ → Option Giver → Tries
    → (Tables → Tables → Type 0) → (T → ℕ × ℕ) → (T → State) → T → T → Result A Error → Type 0
WritesKnowing lab giver tries step lender state old new result =
    WritesTrying (TriedFrom (Knows lab giver) tries) lender state (MadeFrom (Knows lab giver) step)
    old new result

-- ---- forms

-- the choices of the field are looked up, and then one is added behind them
abbrev pub TriesToAddChoice : ℤ → List ℕ → Tries
TriesToAddChoice field name old tried at =
    Over (asking_choices field) old tried at
    ⊎ Over (adding_choice (choice_row_of old field (pos 0) name)) old tried at

abbrev pub TriesToAddChoices : ℤ → List (List ℕ) → Tries
TriesToAddChoices field names = TriesInTurn (AddsChoice field) (TriesToAddChoice field) names

-- the fields of the form are looked up, one is added behind them, and then its choices
abbrev pub TriesToAddField : ℤ → Field → Tries
TriesToAddField form field old tried at =
    Over (asking_fields form) old tried at
    ⊎ (Over (adding_field (field_row_of old form (pos 0) field)) old tried at
    ⊎ TriesToAddChoices (next_key field_id old.fields) (kind_names field.kind)
    (put_field (field_row_of old form (next_key field_id old.fields) field) old) tried at)

abbrev pub TriesToAddFields : ℤ → List Field → Tries
TriesToAddFields form fields = TriesInTurn (AddsField form) (TriesToAddField form) fields

-- the version of the form is added, and then its fields
abbrev pub TriesToAddForm : ℤ → FormVersion → Tries
TriesToAddForm lab form old tried at =
    Over (adding_form (form_row_of lab (pos 0) form)) old tried at
    ⊎ TriesToAddFields (next_key form_id old.forms) form.form.fields (with_form lab form old)
    tried at

-- ---- entries and signatures

-- the person and the entries of the version are looked up, and then the row is added behind them
abbrev pub TriesToAddEntry : ℤ → ℤ → Entry → Tries
TriesToAddEntry lab version entry old tried at =
    Over (asking_person lab entry.person) old tried at
    ⊎ (Over (asking_entries version) old tried at
    ⊎ ((person : ℤ) × (person_named old lab entry.person ≡ Some person)
    × Over (adding_entry (entry_row_of old version (pos 0) person entry)) old tried at))

-- the current version of the record is looked up first
abbrev pub TriesToEnterRow : ℤ → ℕ → Entry → Tries
TriesToEnterRow lab wanted entry old tried at =
    Over (asking_current lab wanted) old tried at
    ⊎ ((version : ℤ) × (version_in_record current_of old lab wanted ≡ Some version)
    × TriesToAddEntry lab version entry old tried at)

abbrev pub TriesToAddSignature : ℤ → ℤ → Signature → Tries
TriesToAddSignature lab version signature old tried at =
    Over (asking_person lab signature.person) old tried at
    ⊎ (Over (asking_signatures version) old tried at
    ⊎ ((person : ℤ) × (person_named old lab signature.person ≡ Some person)
    × Over (adding_signature (signature_row_of old version (pos 0) person signature)) old tried at))

-- the version is looked up first
abbrev pub TriesToSign : ℤ → ℕ → ℕ → Signature → Tries
TriesToSign lab wanted version signature old tried at =
    Over (asking_version lab wanted version) old tried at
    ⊎ ((signed : ℤ) × (version_in_record (λ _. version) old lab wanted ≡ Some signed)
    × TriesToAddSignature lab signed signature old tried at)

-- ---- versions and records

abbrev pub TriesToAddEntries : ℤ → ℤ → List Entry → Tries
TriesToAddEntries lab version rows =
    TriesInTurn (AddsEntry lab version) (TriesToAddEntry lab version) rows

abbrev pub TriesToAddSignatures : ℤ → ℤ → List Signature → Tries
TriesToAddSignatures lab version signatures =
    TriesInTurn (AddsSignature lab version) (TriesToAddSignature lab version) signatures

-- the rows of a version, and then its signatures
abbrev pub TriesBelowVersion : ℤ → ℤ → Version → Tries
TriesBelowVersion lab id version old tried at =
    TriesToAddEntries lab id version.rows old tried at
    ⊎ ((entered : Tables) × InTurn (AddsEntry lab id) version.rows old entered
    × TriesToAddSignatures lab id version.signatures entered tried at)

-- who opened the version is looked up, the version is added, and then what is below it
abbrev pub TriesToAddVersion : ℤ → ℤ → Version → Tries
TriesToAddVersion lab kept version old tried at =
    Over (asking_person lab version.opener) old tried at
    ⊎ ((opener : ℤ) × (person_named old lab version.opener ≡ Some opener)
    × (Over (adding_version (version_row_of kept (pos 0) opener version)) old tried at
    ⊎ TriesBelowVersion lab (next_key version_id old.versions) version
    (with_version kept opener version old) tried at))

abbrev pub TriesToAddVersions : ℤ → ℤ → List Version → Tries
TriesToAddVersions lab kept versions =
    TriesInTurn (AddsVersion lab kept) (TriesToAddVersion lab kept) versions

abbrev pub with_counted : ℤ → ℤ → Record → Tables → Tables
with_counted lab form kept t =
    in_lab lab (λ (one : LabRow). record one { records = kept.number })
    (with_record lab form kept t)

-- the form is looked up, the record is added and counted, and then its versions are added
abbrev pub TriesToAddRecord : ℤ → Record → Tries
TriesToAddRecord lab kept old tried at =
    Over (asking_form lab kept.form.code kept.form.version) old tried at
    ⊎ ((form : ℤ) × (form_named old lab kept.form.code kept.form.version ≡ Some form)
    × (Over (adding_record (record_row_of lab (pos 0) form kept)) old tried at
    ⊎ (Over (counting_records lab kept.number) (with_record lab form kept old) tried at
    ⊎ TriesToAddVersions lab (next_key record_id old.records) kept.versions
    (with_counted lab form kept old) tried at)))

-- the record is looked up, the version is added, and then it becomes the current one
abbrev pub TriesToOpen : ℤ → ℕ → Version → Tries
TriesToOpen lab wanted version old tried at =
    Over (asking_record lab wanted) old tried at
    ⊎ ((kept : RecordRow) × (record_named old lab wanted ≡ Some kept)
    × (TriesToAddVersion lab kept.id version old tried at
    ⊎ ((opened : Tables) × AddsVersion lab kept.id version old opened
    × Over (setting_current kept.id version.origin.number) opened tried at)))

-- ---- changes

abbrev pub TriesIn : ℤ → Change → Tries
TriesIn lab (Last moment) old tried at = Over (setting_last lab moment) old tried at
TriesIn lab (Strays count) old tried at = Over (setting_strays lab count) old tried at
TriesIn lab (PersonAdded person) old tried at = TriesToAddPerson lab person old tried at
TriesIn lab (PersonSet person) old tried at = TriesToSetPerson lab person old tried at
TriesIn lab (SessionAdded session) old tried at = TriesToAddSession lab session old tried at
TriesIn lab (SessionSet session) old tried at = TriesToSetSession lab session old tried at
TriesIn lab (SessionsClosed person closing) old tried at =
    TriesToCloseOf lab person closing old tried at
TriesIn lab (FormAdded form) old tried at = TriesToAddForm lab form old tried at
TriesIn lab (RecordAdded kept) old tried at = TriesToAddRecord lab kept old tried at
TriesIn lab (RowAdded number row) old tried at = TriesToEnterRow lab number row old tried at
TriesIn lab (VersionOpened number version) old tried at =
    TriesToOpen lab number version old tried at
TriesIn lab (SignatureAdded number version signature) old tried at =
    TriesToSign lab number version signature old tried at
TriesIn lab (TrailAdded told) old tried at = TriesToAddTold lab None told old tried at

-- one change after the other
abbrev pub TriesEach : ℤ → List Change → Tries
TriesEach lab changes = TriesInTurn (StepsBy lab) (TriesIn lab) changes

-- who gives the command is looked up, where somebody is named; then come the changes between, and
-- the row of the trail sets the last moment, too
abbrev pub TriesFramed : ℤ → ℕ → List Change → Told → Tries
TriesFramed lab moment between told old tried at =
    TriesIfAny lab told.person old tried at
    ⊎ (TriesEach lab between old tried at
    ⊎ ((made : Tables) × InTurn (StepsBy lab) between old made
    × TriesToAddTold lab (Some moment) told made tried at))

pub record TriesAsFramed (lab : ℤ) (changes : List Change) (old : Tables) (tried : Statement)
    (at : Tables) : Type 0 where
  pub moment : ℕ
  pub between : List Change
  pub told : Told
  pub frame : IsFramed moment between told changes
  pub own : TriesFramed lab moment between told old tried at

-- in either way
abbrev pub TriesAll : ℤ → List Change → Tries
TriesAll lab changes old tried at =
    TriesEach lab changes old tried at ⊎ TriesAsFramed lab changes old tried at
