-- No body has a number with a point, so that each has one text.
use Rattle.std.proofs.Common.{◌≡◌, ℕ, List, map, false, refl, Option, Some, None}
use Rattle.serde_json.specs.Written.{has_float, members_have_float}
use Rattle.lab_people_access.specs.declared.refusals.PeopleRefusal.{PeopleRefusal}
use Rattle.lab_people_access.specs.declared.refusals.PeopleRefusal.TheVariants as people
use Rattle.lab_people_access.specs.Refusals.{people_refusal_entry}
use Rattle.lab_people_access.specs.declared.roles.Roles.{Roles}
use Rattle.lab_people_access.specs.Roles.{role_list, role_word}
use Rattle.lab_forms_texts.specs.Faults.{Entry}
use Rattle.lab_forms.specs.declared.kinds.Kind.{Kind}
use Rattle.lab_forms.specs.declared.kinds.Kind.TheVariants.{Number, Text, Choice, Date, YesNo}
use Rattle.lab_forms.specs.declared.forms.Field.{Field}
use Rattle.lab_records_kept.specs.declared.records.FormVersion.{FormVersion}
use Rattle.lab_records_kept.specs.declared.records.Signature.{Signature}
use Rattle.lab_records_kept.specs.declared.trails.TrailRow.{TrailRow}
use Rattle.lab_seal_versions.specs.declared.states.State.{State}
use Rattle.lab_seal_versions.specs.declared.rows.EntryRow.{EntryRow}
use Rattle.lab_records_rules.specs.declared.readings.PersonLine.{PersonLine}
use Rattle.lab_records_rules.specs.declared.readings.RecordRead.{RecordRead}
use Rattle.lab_records_rules.specs.declared.readings.RecordState.{RecordState}
use Rattle.lab_records_rules.specs.declared.readings.VersionRead.{VersionRead}
use Rattle.lab_records_rules.specs.declared.readings.VersionState.{VersionState}
use Rattle.lab_records_rules.specs.declared.refusals.Refusal.{Refusal}
use Rattle.lab_records_rules.specs.declared.refusals.Refusal.TheVariants as refusal
use Rattle.lab_records_machine.specs.declared.replies.Reply.{Reply}
use Rattle.lab_records_machine.specs.declared.replies.Reply.TheVariants as reply
use Rattle.lab_wire_replies.specs.Parts.{text_or_empty, state_data, current_data}
use Rattle.lab_wire_replies.specs.Refusals.{refused_data, people_members, refusal_data}
use Rattle.lab_wire_replies.specs.Persons.{roles_data, person_data}
use Rattle.lab_wire_replies.specs.Forms.{with_kind, field_members, field_data, form_data}
use Rattle.lab_wire_replies.specs.Records.{signed_data, version_state_data, current_of, record_data, row_data, signature_data, value_data, reason_of, version_data, record_state_data}
use Rattle.lab_wire_replies.specs.Trails.{trail_row_data}
use Rattle.lab_wire_replies.specs.Replies.{body_of}
use Rattle.lab_wire_replies.specs.Private.Replies.{HasNoFloat}
use Rattle.lab_wire_replies.proofs.FloatLemmas.{neither, list_floats, texts_floats}

-- ---- parts

empty_floats : (text : Option (List ℕ)) → has_float (text_or_empty text) ≡ false
empty_floats None = refl
empty_floats (Some text) = refl

state_floats : (state : Option State) → has_float (state_data state) ≡ false
state_floats None = refl
state_floats (Some state) = refl

current_floats : (current : Option ℕ) → has_float (current_data current) ≡ false
current_floats None = refl
current_floats (Some version) = refl

roles_floats : (roles : Roles) → has_float (roles_data roles) ≡ false
roles_floats roles = texts_floats (map role_word (role_list roles))

-- ---- what is listed

person_floats : (person : PersonLine) → has_float (person_data person) ≡ false
person_floats person = neither _ _ (roles_floats person.roles) refl

version_state_floats : (version : VersionState) → has_float (version_state_data version) ≡ false
version_state_floats version = neither _ _ (state_floats version.state) refl

row_floats : (row : EntryRow) → has_float (row_data row) ≡ false
row_floats row = neither _ _ (empty_floats row.reason) refl

signature_floats : (signature : Signature) → has_float (signature_data signature) ≡ false
signature_floats signature = refl

value_floats : (row : EntryRow) → has_float (value_data row) ≡ false
value_floats row = refl

record_state_floats : (kept : RecordState) → has_float (record_state_data kept) ≡ false
record_state_floats kept = neither _ _ (current_floats kept.current) (neither _ _ (state_floats kept.state) refl)

trail_row_floats : (row : TrailRow) → has_float (trail_row_data row) ≡ false
trail_row_floats row = neither _ _ (empty_floats row.person) refl

kind_floats : (field : Field) (kind : Kind) → members_have_float (with_kind kind (field_members field)) ≡ false
kind_floats field (Number unit decimals None None) = refl
kind_floats field (Number unit decimals None (Some max)) = refl
kind_floats field (Number unit decimals (Some min) None) = refl
kind_floats field (Number unit decimals (Some min) (Some max)) = refl
kind_floats field (Text size) = refl
kind_floats field (Choice choices) = neither _ _ (texts_floats choices) refl
kind_floats field Date = refl
kind_floats field YesNo = refl

field_floats : (field : Field) → has_float (field_data field) ≡ false
field_floats field = kind_floats field field.kind

-- ---- replies

-- beside the word and the number some tell members: the last line of each lemma is for every other one, and is looked at for each
people_floats : (entry : Entry) (told : PeopleRefusal) → has_float (refused_data entry (people_members told)) ≡ false
people_floats entry (people.RoleWanted rule) = refl
people_floats entry _ = refl

refusal_floats : (told : Refusal) → has_float (refusal_data told) ≡ false
refusal_floats (refusal.People told) = people_floats (people_refusal_entry told) told
refusal_floats _ = refl

form_floats : (form : FormVersion) → has_float (form_data form) ≡ false
form_floats form = neither _ _ (list_floats field_data field_floats form.form.fields) refl

signed_floats : (signature : Signature) (state : Option State) → has_float (signed_data signature state) ≡ false
signed_floats signature state = neither _ _ (state_floats state) refl

record_floats : (read : RecordRead) → has_float (record_data read) ≡ false
record_floats read =
    neither _ _ (current_floats (current_of read.versions))
    (neither _ _ (list_floats version_state_data version_state_floats read.versions) refl)

version_floats : (read : VersionRead) → has_float (version_data read) ≡ false
version_floats read =
    neither _ _ (texts_floats read.altered)
    (neither _ _ (empty_floats (reason_of read.version.origin.amendment))
    (neither _ _ (list_floats row_data row_floats read.version.rows)
    (neither _ _ (list_floats signature_data signature_floats read.version.signatures)
    (neither _ _ (state_floats read.state)
    (neither _ _ (list_floats value_data value_floats read.values) refl)))))

pub reply_floats : (told : Reply) → HasNoFloat (body_of told)
reply_floats (reply.Refused told) = refusal_floats told
reply_floats (reply.Card lab name) = refl
reply_floats (reply.Opened session token due) = refl
reply_floats (reply.Closed session) = refl
reply_floats (reply.PasswordChanged changed) = refl
reply_floats (reply.PersonDone code) = refl
reply_floats (reply.HalfTold half) = refl
reply_floats (reply.RolesSet code roles) = neither _ _ (roles_floats roles) refl
reply_floats (reply.Persons persons) = neither _ _ (list_floats person_data person_floats persons) refl
reply_floats (reply.FormMade code version) = refl
reply_floats (reply.FormRead form) = form_floats form
reply_floats (reply.RecordOpened number version) = refl
reply_floats (reply.Entered number version rows digest) = refl
reply_floats (reply.Amended number version digest) = refl
reply_floats (reply.Signed signature state) = signed_floats signature state
reply_floats (reply.RecordRead read) = record_floats read
reply_floats (reply.VersionRead read) = version_floats read
reply_floats (reply.Records records) = neither _ _ (list_floats record_state_data record_state_floats records) refl
reply_floats (reply.Trail rows) = neither _ _ (list_floats trail_row_data trail_row_floats rows) refl
reply_floats (reply.Copied rows) = tt
