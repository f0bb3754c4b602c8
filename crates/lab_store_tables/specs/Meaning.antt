-- What the tables mean for one laboratory: the laboratory as `lab_records_kept` has it, with numbers and
-- codes and no id of a row. The way leads down the owning arrows, one at a time: a laboratory has
-- the persons, sessions, forms, records and rows of the trail whose `lab` is its row; a form its
-- fields, a field its choices; a record its versions, a version its entries and signatures. Of a
-- person to whom another arrow leads only the code is taken. Lists stand in the order of numbers or
-- places, persons in that of their codes, versions of forms in that of codes and numbers. In
-- well-kept tables these are all the rows whose arrows lead to the laboratory (ISO/IEC 17025:2017,
-- 7.5.1, "the identity of personnel responsible for each laboratory activity and for checking data
-- and results").
use Rattle.std.specs.Prelude.{ℕ, ℤ, Bool, false, List, [], ◌∷◌, map, filter, find, Option, Some, None, option_map, unwrap_or, bytes_eq}
use Rattle.std.specs.declared.cmp.Ordering.{Ordering}
use Rattle.std.specs.Ordering.{int_eq, nat_cmp, ordering_then}
use Rattle.std.specs.Cmp.Lexicographic.{slice_cmp}
use Rattle.sqlite_keyed.specs.Keyed.{get_by}
use Rattle.sqlite_keyed.specs.Lists.{sort_by}
use Rattle.lab_people_access.specs.declared.persons.Person.{Person}
use Rattle.lab_people_access.specs.declared.persons.Ask.{Ask}
use Rattle.lab_people_access.specs.declared.sessions.Session.{Session}
use Rattle.lab_forms.specs.declared.forms.Field.{Field}
use Rattle.lab_seal_versions.specs.declared.rows.EntryRow.{EntryRow as Entry}
use Rattle.lab_seal_versions.specs.declared.origins.Amendment.{Amendment}
use Rattle.lab_records_kept.specs.declared.records.FormVersion.{FormVersion}
use Rattle.lab_records_kept.specs.declared.records.Record.{Record}
use Rattle.lab_records_kept.specs.declared.records.Version.{Version}
use Rattle.lab_records_kept.specs.declared.records.Signature.{Signature}
use Rattle.lab_records_kept.specs.declared.trails.TrailRow.{TrailRow as Told}
use Rattle.lab_records_kept.specs.declared.labs.Lab.{Lab}
use Rattle.lab_records_kept.specs.Digests.{digest_of}
use Rattle.lab_store_tables.specs.Rows.{LabRow, PersonRow, AskColumns, SessionRow, FormRow, FieldRow, ChoiceRow, RecordRow, VersionRow, EntryRow, SignatureRow, TrailRow, Tables, person_id, form_id}
use Rattle.lab_store_tables.specs.Columns.{roles_in, verifier_in, password_in, kind_in, format_in, meaning_in, action_in}

-- ---- persons, and codes in place of their ids

-- the code of the person with the id
abbrev pub code_of : Tables → ℤ → List ℕ
code_of t id =
    unwrap_or (option_map (λ (one : PersonRow). one.code) (get_by person_id t.persons id)) []

abbrev ask_by : Tables → AskColumns → ℤ → Ask
ask_by t columns asker = record {
  asker = code_of t asker;
  asked = unwrap_or columns.asked 0;
  first = verifier_in columns.salt columns.rounds columns.bytes;
}

abbrev pub person_in : Tables → PersonRow → Person
person_in t row = record {
  code = row.code;
  name = row.name;
  roles = roles_in row.roles;
  retired = row.retired;
  failures = row.failures;
  locked = row.locked;
  password = password_in row.password;
  ask = option_map (ask_by t row.ask) row.ask.asker;
}

abbrev pub by_code : PersonRow → PersonRow → Ordering
by_code one other = slice_cmp nat_cmp one.code other.code

abbrev pub persons_of : Tables → ℤ → List Person
persons_of t lab =
    map (person_in t) (sort_by by_code (filter (λ (one : PersonRow). int_eq one.lab lab) t.persons))

-- ---- sessions

abbrev pub session_in : Tables → SessionRow → Session
session_in t row = record {
  number = row.number;
  person = code_of t row.person;
  token = row.token;
  opened = row.opened;
  last = row.last;
  closed = row.closed;
  signed = row.signed;
}

abbrev pub by_session : SessionRow → SessionRow → Ordering
by_session one other = nat_cmp one.number other.number

abbrev pub sessions_of : Tables → ℤ → List Session
sessions_of t lab =
    map (session_in t)
    (sort_by by_session (filter (λ (one : SessionRow). int_eq one.lab lab) t.sessions))

-- ---- forms, with their fields and choices

abbrev name_in : ChoiceRow → List ℕ
name_in row = row.name

abbrev pub by_choice : ChoiceRow → ChoiceRow → Ordering
by_choice one other = nat_cmp one.place other.place

abbrev pub names_of : Tables → ℤ → List (List ℕ)
names_of t field =
    map name_in (sort_by by_choice (filter (λ (one : ChoiceRow). int_eq one.field field) t.choices))

abbrev pub field_in : Tables → FieldRow → Field
field_in t row = record {
  key = row.key;
  label = row.label;
  required = row.required;
  kind = kind_in row.kind (names_of t row.id);
}

abbrev pub by_field : FieldRow → FieldRow → Ordering
by_field one other = nat_cmp one.place other.place

abbrev pub fields_of : Tables → ℤ → List Field
fields_of t form =
    map (field_in t) (sort_by by_field (filter (λ (one : FieldRow). int_eq one.form form) t.fields))

abbrev pub form_in : Tables → FormRow → FormVersion
form_in t row = record {
  code = row.code;
  version = row.version;
  form = record { fields = fields_of t row.id; approval = row.approval };
}

abbrev pub by_form : FormRow → FormRow → Ordering
by_form one other =
    ordering_then (slice_cmp nat_cmp one.code other.code) (nat_cmp one.version other.version)

abbrev pub forms_of : Tables → ℤ → List FormVersion
forms_of t lab =
    map (form_in t) (sort_by by_form (filter (λ (one : FormRow). int_eq one.lab lab) t.forms))

-- what stands for a form where an arrow leads to none, which well-kept tables don't have
abbrev no_form : FormVersion
no_form = record { code = []; version = 0; form = record { fields = []; approval = false } }

abbrev pub form_at : Tables → ℤ → FormVersion
form_at t id = unwrap_or (option_map (form_in t) (get_by form_id t.forms id)) no_form

-- ---- entries and signatures

abbrev pub entry_in : Tables → EntryRow → Entry
entry_in t row = record {
  key = row.key;
  value = row.value;
  unit = row.unit;
  person = code_of t row.person;
  moment = row.moment;
  reason = row.reason;
}

abbrev pub by_entry : EntryRow → EntryRow → Ordering
by_entry one other = nat_cmp one.place other.place

abbrev pub entries_of : Tables → ℤ → List Entry
entries_of t version =
    map (entry_in t)
    (sort_by by_entry (filter (λ (one : EntryRow). int_eq one.version version) t.entries))

abbrev pub signature_in : Tables → SignatureRow → Signature
signature_in t row = record {
  person = code_of t row.person;
  name = row.name;
  meaning = meaning_in row.meaning row.reason;
  moment = row.moment;
  digest = row.digest;
  seal = row.seal;
}

abbrev pub by_signature : SignatureRow → SignatureRow → Ordering
by_signature one other = nat_cmp one.place other.place

abbrev pub signatures_of : Tables → ℤ → List Signature
signatures_of t version =
    map (signature_in t)
    (sort_by by_signature
    (filter (λ (one : SignatureRow). int_eq one.version version) t.signatures))

-- ---- versions

-- a version as its own rows tell it; what it amends they don't tell, as that is the version before
-- it in its record
pub record Leaf : Type 0 where
  pub number : ℕ
  pub format : ℕ
  pub opener : List ℕ
  pub opened : ℕ
  pub reason : Option (List ℕ)
  pub rows : List Entry
  pub signatures : List Signature

abbrev pub leaf_in : Tables → VersionRow → Leaf
leaf_in t row = record {
  number = row.number;
  format = row.format;
  opener = code_of t row.opener;
  opened = row.opened;
  reason = row.reason;
  rows = entries_of t row.id;
  signatures = signatures_of t row.id;
}

abbrev pub by_version : VersionRow → VersionRow → Ordering
by_version one other = nat_cmp one.number other.number

abbrev pub leaves_of : Tables → ℤ → List Leaf
leaves_of t kept =
    map (leaf_in t)
    (sort_by by_version (filter (λ (one : VersionRow). int_eq one.kept kept) t.versions))

-- a version of a record, where the one before it has this digest, or there is none before it
abbrev amending : Leaf → List ℕ → Amendment
amending leaf previous = record { previous = previous; reason = unwrap_or leaf.reason [] }

abbrev pub version_after : Record → Option (List ℕ) → Leaf → Version
version_after kept before leaf = record {
  format = format_in leaf.format kept.form.form.approval;
  origin = record { number = leaf.number; amendment = option_map (amending leaf) before };
  opener = leaf.opener;
  opened = leaf.opened;
  rows = leaf.rows;
  signatures = leaf.signatures;
}

-- versions of a record, each of which amends the one before it as that is now; the first amends
-- what stands before them
abbrev pub chained : List ℕ → Record → Option (List ℕ) → List Leaf → List Version
chained lab kept before [] = []
chained lab kept before (one ∷ others) =
    version_after kept before one
    ∷ chained lab kept (Some (digest_of lab kept (version_after kept before one))) others

-- ---- records

-- a record without its versions, which is all of it that a version's text tells
abbrev pub cover_in : Tables → RecordRow → Record
cover_in t row = record {
  number = row.number;
  form = form_at t row.form;
  sample = row.sample;
  versions = [];
}

abbrev pub record_in : Tables → List ℕ → RecordRow → Record
record_in t lab row =
    record (cover_in t row) { versions = chained lab (cover_in t row) None (leaves_of t row.id) }

abbrev pub by_record : RecordRow → RecordRow → Ordering
by_record one other = nat_cmp one.number other.number

abbrev pub records_of : Tables → List ℕ → ℤ → List Record
records_of t code lab =
    map (record_in t code)
    (sort_by by_record (filter (λ (one : RecordRow). int_eq one.lab lab) t.records))

-- ---- the trail

abbrev pub told_in : Tables → TrailRow → Told
told_in t row = record {
  number = row.number;
  moment = row.moment;
  person = option_map (code_of t) row.person;
  action = action_in row.action;
  subject = row.subject;
}

abbrev pub by_trail : TrailRow → TrailRow → Ordering
by_trail one other = nat_cmp one.number other.number

abbrev pub trail_of : Tables → ℤ → List Told
trail_of t lab =
    map (told_in t) (sort_by by_trail (filter (λ (one : TrailRow). int_eq one.lab lab) t.trail))

-- ---- a laboratory

abbrev pub lab_in : Tables → LabRow → Lab
lab_in t row = record {
  code = row.code;
  name = row.name;
  last = row.last;
  strays = row.stray;
  persons = persons_of t row.id;
  sessions = sessions_of t row.id;
  forms = forms_of t row.id;
  records = records_of t row.code row.id;
  trail = trail_of t row.id;
}

abbrev pub has_code : List ℕ → LabRow → Bool
has_code code row = bytes_eq row.code code

-- the laboratory of a code, or none; it is a `Meaning` of `lab_records_kept`, as every keeper has one
abbrev pub meaning : Tables → List ℕ → Option Lab
meaning t code = option_map (lab_in t) (find (has_code code) t.labs)
