-- The row that names the schema of the file: no change touches it, nor does a founding.
use Rattle.std.proofs.Common.{◌≡◌, ℕ, ℤ, List, map, filter, ap, ◌∙◌}
use Rattle.lab_people_access.specs.declared.persons.Person.{Person}
use Rattle.lab_people_access.specs.declared.sessions.Session.{Session}
use Rattle.lab_forms.specs.declared.forms.Field.{Field}
use Rattle.lab_seal_versions.specs.declared.rows.EntryRow.{EntryRow as Entry}
use Rattle.lab_records_kept.specs.declared.records.FormVersion.{FormVersion}
use Rattle.lab_records_kept.specs.declared.records.Record.{Record}
use Rattle.lab_records_kept.specs.declared.records.Version.{Version}
use Rattle.lab_records_kept.specs.declared.records.Signature.{Signature}
use Rattle.lab_records_kept.specs.declared.trails.TrailRow.{TrailRow as Told}
use Rattle.lab_records_kept.specs.declared.labs.Lab.{Lab}
use Rattle.lab_records_kept.specs.declared.changes.Change.{Change}
use Rattle.lab_records_kept.specs.declared.changes.Change.TheVariants.{Last, Strays, PersonAdded, PersonSet, SessionAdded, SessionSet, SessionsClosed, FormAdded, RecordAdded, RowAdded, VersionOpened, SignatureAdded, TrailAdded}
use Rattle.lab_store_tables.specs.Rows.{DeskRow, LabRow, Tables}
use Rattle.lab_store_tables.specs.Columns.{kind_names}
use Rattle.lab_store_tables.specs.Changes.{AddsPerson, SetsPerson, AddsSession, AddsChoice, field_row_of, put_field, AddsField, form_row_of, put_form, AddsForm, AddsEntry, AddsSignature, version_row_of, put_version, AddsVersion, record_row_of, put_record, AddsRecord, AddsTold, in_lab, AppliesIn, Applies}
use Rattle.lab_store_tables.specs.Placing.{lab_row_of, put_lab, unasked, is_asked_for, PlacesLab}
use Rattle.lab_store_tables.proofs.Turns.{turns_leave}

abbrev desk_of : Tables → List DeskRow
desk_of t = t.desk

-- ---- one row more, or one set

person_leaves : (lab : ℤ) (person : Person) (old new : Tables) → AddsPerson lab person old new → new.desk ≡ old.desk
person_leaves lab person old new it = ap desk_of it.made

set_leaves : (lab : ℤ) (person : Person) (old new : Tables) → SetsPerson lab person old new → new.desk ≡ old.desk
set_leaves lab person old new it = ap desk_of it.made

session_leaves : (lab : ℤ) (session : Session) (old new : Tables) → AddsSession lab session old new → new.desk ≡ old.desk
session_leaves lab session old new it = ap desk_of it.made

choice_leaves : (field : ℤ) (name : List ℕ) (old new : Tables) → AddsChoice field name old new → new.desk ≡ old.desk
choice_leaves field name old new it = ap desk_of it.made

entry_leaves : (lab version : ℤ) (entry : Entry) (old new : Tables) → AddsEntry lab version entry old new → new.desk ≡ old.desk
entry_leaves lab version entry old new it = ap desk_of it.made

signature_leaves : (lab version : ℤ) (signature : Signature) (old new : Tables) → AddsSignature lab version signature old new → new.desk ≡ old.desk
signature_leaves lab version signature old new it = ap desk_of it.made

told_leaves : (lab : ℤ) (told : Told) (old new : Tables) → AddsTold lab told old new → new.desk ≡ old.desk
told_leaves lab told old new it = ap desk_of it.made

-- ---- rows with others below them

field_leaves : (form : ℤ) (field : Field) (old new : Tables) → AddsField form field old new → new.desk ≡ old.desk
field_leaves form field old new it =
    turns_leave (AddsChoice it.id) desk_of (choice_leaves it.id) (kind_names field.kind) (put_field (field_row_of old form it.id field) old) new it.choices

form_leaves : (lab : ℤ) (form : FormVersion) (old new : Tables) → AddsForm lab form old new → new.desk ≡ old.desk
form_leaves lab form old new it = turns_leave (AddsField it.id) desk_of (field_leaves it.id) form.form.fields (put_form (form_row_of lab it.id form) old) new it.fields

version_leaves : (lab kept : ℤ) (version : Version) (old new : Tables) → AddsVersion lab kept version old new → new.desk ≡ old.desk
version_leaves lab kept version old new it =
    turns_leave (AddsSignature lab it.id) desk_of (signature_leaves lab it.id) version.signatures it.entered new it.signatures
    ∙ turns_leave (AddsEntry lab it.id) desk_of (entry_leaves lab it.id) version.rows (put_version (version_row_of kept it.id it.opener version) old) it.entered it.rows

record_leaves : (lab : ℤ) (kept : Record) (old new : Tables) → AddsRecord lab kept old new → new.desk ≡ old.desk
record_leaves lab kept old new it =
    turns_leave (AddsVersion lab it.id) desk_of (version_leaves lab it.id) kept.versions
    (in_lab lab (λ (one : LabRow). record one { records = kept.number }) (put_record (record_row_of lab it.id it.form kept) old)) new it.versions

-- ---- each change, and a laboratory that is placed

change_leaves : (lab : ℤ) (one : Change) (old new : Tables) → AppliesIn lab one old new → new.desk ≡ old.desk
change_leaves lab (Last moment) old new it = ap desk_of it
change_leaves lab (Strays count) old new it = ap desk_of it
change_leaves lab (PersonAdded person) old new it = person_leaves lab person old new it
change_leaves lab (PersonSet person) old new it = set_leaves lab person old new it
change_leaves lab (SessionAdded session) old new it = session_leaves lab session old new it
change_leaves lab (SessionSet session) old new it = ap desk_of it.made
change_leaves lab (SessionsClosed person closing) old new it = ap desk_of it
change_leaves lab (FormAdded form) old new it = form_leaves lab form old new it
change_leaves lab (RecordAdded kept) old new it = record_leaves lab kept old new it
change_leaves lab (RowAdded number row) old new it = ap desk_of it.added.made
change_leaves lab (VersionOpened number version) old new it = ap desk_of it.current ∙ version_leaves lab it.kept.id version old it.opened it.added
change_leaves lab (SignatureAdded number version signature) old new it = ap desk_of it.added.made
change_leaves lab (TrailAdded told) old new it = told_leaves lab told old new it

pub desk_stays : (old new : Tables) (code : List ℕ) (one : Change) → Applies code one old new → new.desk ≡ old.desk
desk_stays old new code one it = change_leaves it.lab.id one old new it.made

pub desk_stays_at_placing : (old new : Tables) (lab : Lab) → PlacesLab lab old new → new.desk ≡ old.desk
desk_stays_at_placing old new lab it =
    turns_leave (AddsTold it.id) desk_of (told_leaves it.id) lab.trail it.filed new it.trail
    ∙ turns_leave (AddsRecord it.id) desk_of (record_leaves it.id) lab.records it.formed it.filed it.records
    ∙ turns_leave (AddsForm it.id) desk_of (form_leaves it.id) lab.forms it.opened it.formed it.forms
    ∙ turns_leave (AddsSession it.id) desk_of (session_leaves it.id) lab.sessions it.asked it.opened it.sessions
    ∙ turns_leave (SetsPerson it.id) desk_of (set_leaves it.id) (filter is_asked_for lab.persons) it.enrolled it.asked it.asks
    ∙ turns_leave (AddsPerson it.id) desk_of (person_leaves it.id) (map unasked lab.persons) (put_lab (lab_row_of it.id lab) old) it.enrolled it.persons
