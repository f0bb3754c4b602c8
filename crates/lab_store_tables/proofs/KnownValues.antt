-- What the small file means, written apart from the rows, so that a wrong definition does not check: each
-- of its laboratories whole, which tests it passes, and which of them ill-kept files fail.
use Rattle.std.proofs.Common.{◌≡◌, ℕ, ◌+◌, ◌*◌, ℤ, pos, Bool, true, false, List, [], ◌∷◌, Option, Some, None, option_map, map, refl}
use Rattle.std.specs.Prelude.{codes, reverse}
use Rattle.lab_seal_hashes.specs.declared.verifiers.VerifierParts.{VerifierParts}
use Rattle.lab_people_access.specs.declared.roles.Roles.{Roles}
use Rattle.lab_people_access.specs.declared.passwords.Password.TheVariants.{Chosen, OneTime}
use Rattle.lab_people_access.specs.declared.persons.Person.{Person}
use Rattle.lab_people_access.specs.declared.persons.Ask.{Ask}
use Rattle.lab_people_access.specs.declared.sessions.Session.{Session}
use Rattle.lab_people_access.specs.Persons.{newcomer}
use Rattle.lab_forms.specs.declared.forms.Field.{Field}
use Rattle.lab_forms.specs.declared.kinds.Kind.TheVariants.{Number, Text, Choice, Date, YesNo}
use Rattle.lab_seal_versions.specs.declared.rows.EntryRow.{EntryRow as Entry}
use Rattle.lab_seal_versions.specs.declared.versions.Format.TheVariants as format
use Rattle.lab_seal_versions.specs.declared.seals.Meaning.TheVariants.{Authorship, Review, Rejection}
use Rattle.lab_records_kept.specs.declared.records.FormVersion.{FormVersion}
use Rattle.lab_records_kept.specs.declared.records.Record.{Record}
use Rattle.lab_records_kept.specs.declared.records.Version.{Version}
use Rattle.lab_records_kept.specs.declared.trails.Action.{Action}
use Rattle.lab_records_kept.specs.declared.trails.Action.TheVariants as action
use Rattle.lab_records_kept.specs.declared.trails.TrailRow.{TrailRow as Told}
use Rattle.lab_records_kept.specs.declared.labs.Lab.{Lab}
use Rattle.lab_records_kept.specs.Digests.{digest_of}
use Rattle.lab_records_kept.proofs.KnownDefaults.{bare_entry, bare_field, bare_form, bare_lab, bare_record, bare_session, bare_signature, bare_told, bare_version}
use Rattle.lab_store_tables.specs.Rows.{DeskRow, LabRow, PersonRow, SessionRow, FormRow, FieldRow, ChoiceRow, RecordRow, VersionRow, EntryRow, SignatureRow, TrailRow, Tables, natural}
use Rattle.lab_store_tables.specs.Meaning.{meaning}
use Rattle.lab_store_tables.specs.WellKept.{are_ids_unique, are_keys_unique, are_arrows_whole, are_labs_apart, are_all_numbered, is_said_alike, is_desk, are_columns_whole}
use Rattle.lab_store_tables.proofs.AgreeWords.{Agree}
use Rattle.lab_store_tables.proofs.KnownFile.{filled, file, lab, person, session, filed, version, entry, signature, told, choice, desk, chosen, unasked, asked_by}

-- ---- what is expected

abbrev pub verifier : ℕ → ℕ → VerifierParts
verifier salt bytes = record { salt = filled 16 salt; rounds = 10000; bytes = filled 32 bytes }

abbrev roles : Bool → Bool → Bool → Bool → Roles
roles analyst reviewer administrator inspector = record {
  analyst = analyst;
  reviewer = reviewer;
  manager = false;
  administrator = administrator;
  inspector = inspector;
}

abbrev ann : Person
ann = record (newcomer (codes "ann") (codes "Ann Ames") (roles false false true false)) {
  password = Chosen (verifier 3 4) 500;
}

abbrev dan : Person
dan = record (newcomer (codes "dan") (codes "Dan Dale") (roles true false false false)) {
  password = Chosen (verifier 1 2) 500;
}

abbrev asked : Ask
asked = record { asker = codes "ann"; asked = 1590; first = verifier 9 10 }

abbrev pub eve : Person
eve = record (newcomer (codes "eve") (codes "Eve Eden") (roles false true false false)) {
  password = Chosen (verifier 5 6) 500;
  ask = Some asked;
}

abbrev hal : Person
hal = record (newcomer (codes "hal") (codes "Hal Hunt") (roles false false false true)) {
  retired = true;
  password = OneTime (verifier 15 16) (verifier 17 18) 520;
}

abbrev session_of : ℕ → List ℕ → ℕ → ℕ → ℕ → Bool → Session
session_of number person token opened last closed = record bare_session {
  number = number;
  person = person;
  token = filled 32 token;
  opened = opened;
  last = last;
  closed = closed;
  signed = true;
}

abbrev lead : Field
lead = record bare_field {
  key = codes "lead";
  label = codes "Lead";
  required = true;
  kind = Number (codes "mg/L") 2 (Some (codes "0")) None;
}

abbrev note : Field
note = record bare_field { key = codes "note"; label = codes "Note"; kind = Text 200 }

abbrev look : Field
look = record bare_field {
  key = codes "look";
  label = codes "Look";
  kind = Choice (codes "clear" ∷ codes "cloudy" ∷ []);
}

abbrev trace : Field
trace = record bare_field {
  key = codes "lead";
  label = codes "Lead";
  required = true;
  kind = Number (codes "ug/L") 0 None (Some (codes "900"));
}

abbrev dust : Field
dust = record bare_field { key = codes "dust"; label = codes "Dust"; required = true; kind = YesNo }

abbrev day : Field
day = record bare_field { key = codes "day"; label = codes "Day"; required = true; kind = Date }

abbrev form_of : List ℕ → ℕ → List Field → Bool → FormVersion
form_of code number fields approval = record bare_form {
  code = code;
  version = number;
  form = record { fields = fields; approval = approval };
}

abbrev water : FormVersion
water = form_of (codes "water") 1 (lead ∷ note ∷ look ∷ []) false

abbrev entry_of : List ℕ → List ℕ → List ℕ → ℕ → Option (List ℕ) → Entry
entry_of key value unit moment reason = record bare_entry {
  key = key;
  value = value;
  unit = unit;
  person = codes "dan";
  moment = moment;
  reason = reason;
}

abbrev first_version : Version
first_version = record bare_version {
  format = format.Two false;
  opener = codes "dan";
  opened = 1000;
  rows = entry_of (codes "lead") (codes "7.05") (codes "mg/L") 1100 None
      ∷ entry_of (codes "lead") (codes "7.50") (codes "mg/L") 1200 (Some (codes "misread scale"))
      ∷ entry_of (codes "look") (codes "clear") [] 1210 None
      ∷ [];
  signatures = record bare_signature {
    person = codes "dan";
    name = codes "Dan Dale";
    meaning = Authorship;
    moment = 1300;
    digest = filled 32 21;
    seal = filled 32 23;
  } ∷ record bare_signature {
    person = codes "eve";
    name = codes "Eve Eden";
    meaning = Review;
    moment = 1350;
    digest = filled 32 21;
    seal = filled 32 22;
  } ∷ [];
}

-- a record of aqua's, whatever its versions are
abbrev pub aqua_record : ℕ → List ℕ → List Version → Record
aqua_record number sample versions = record bare_record {
  number = number;
  form = water;
  sample = sample;
  versions = versions;
}

abbrev first_digest : List ℕ
first_digest =
    digest_of (codes "aqua") (aqua_record 1 (codes "S1") (first_version ∷ [])) first_version

-- it amends the first version as that is now
abbrev second_version : Version
second_version = record bare_version {
  format = format.Two false;
  origin = record {
    number = 2;
    amendment = Some (record { previous = first_digest; reason = codes "one decimal is meant" });
  };
  opener = codes "dan";
  opened = 1400;
  rows = entry_of (codes "lead") (codes "7.5") (codes "mg/L") 1400 (Some (codes "one decimal is meant")) ∷ [];
}

abbrev pub older_version : Version
older_version = record bare_version { format = format.One; opener = codes "dan"; opened = 1450 }

abbrev told_of : ℕ → ℕ → Option (List ℕ) → Action → List ℕ → Told
told_of number moment person what subject = record bare_told {
  number = number;
  moment = moment;
  person = person;
  action = what;
  subject = subject;
}

abbrev pub aqua : Lab
aqua = record bare_lab {
  code = codes "aqua";
  name = codes "Aqua Lab";
  last = 1600;
  strays = 2;
  persons = ann ∷ dan ∷ eve ∷ hal ∷ [];
  sessions = session_of 1 (codes "dan") 41 900 1450 false ∷ session_of 2 (codes "eve") 42 1250 1350 false ∷ [];
  forms = form_of (codes "air") 1 (dust ∷ []) false ∷ water ∷ form_of (codes "water") 2 (trace ∷ []) true ∷ [];
  records = aqua_record 1 (codes "S1") (first_version ∷ second_version ∷ [])
      ∷ aqua_record 2 (codes "S2") (older_version ∷ [])
      ∷ [];
  trail = told_of 1 0 None action.Found (codes "aqua")
      ∷ told_of 2 1000 (Some (codes "dan")) action.Record (codes "1")
      ∷ told_of 3 1100 (Some (codes "dan")) action.Entry (codes "1/1/lead")
      ∷ told_of 4 1200 (Some (codes "dan")) action.Entry (codes "1/1/lead")
      ∷ told_of 5 1210 (Some (codes "dan")) action.Entry (codes "1/1/look")
      ∷ told_of 6 1300 (Some (codes "dan")) action.Sign (codes "1/1/authorship")
      ∷ told_of 7 1350 (Some (codes "eve")) action.Sign (codes "1/1/review")
      ∷ told_of 8 1400 (Some (codes "dan")) action.Amend (codes "1/2")
      ∷ told_of 9 1450 (Some (codes "dan")) action.Record (codes "2")
      ∷ told_of 10 1500 (Some (codes "eve")) action.Lock (codes "eve")
      ∷ told_of 11 1590 (Some (codes "ann")) action.Issue (codes "eve")
      ∷ told_of 12 1600 (Some (codes "ann")) action.Unlock (codes "eve")
      ∷ [];
}

abbrev day_form : FormVersion
day_form = form_of (codes "water") 1 (day ∷ []) true

abbrev wrong_version : Version
wrong_version = record bare_version {
  format = format.Two true;
  opener = codes "dan";
  opened = 300;
  rows = entry_of (codes "day") (codes "2026-01-02") [] 350 None ∷ [];
  signatures = record bare_signature {
    person = codes "dan";
    name = codes "Dan Drew";
    meaning = Authorship;
    moment = 400;
    digest = filled 32 24;
    seal = filled 32 25;
  } ∷ record bare_signature {
    person = codes "ann";
    name = codes "Anna Arp";
    meaning = Rejection (codes "wrong day");
    moment = 450;
    digest = filled 32 24;
    seal = filled 32 26;
  } ∷ [];
}

abbrev brick_ann : Person
brick_ann = record (newcomer (codes "ann") (codes "Anna Arp") (roles false true true false)) {
  password = Chosen (verifier 13 14) 20;
}

abbrev brick_dan : Person
brick_dan = record (newcomer (codes "dan") (codes "Dan Drew") (roles true false false false)) {
  failures = 5;
  locked = Some 700;
  password = Chosen (verifier 11 12) 20;
}

abbrev brick_max : Person
brick_max = newcomer (codes "max") (codes "Max Moss") (roles false false true false)

abbrev pub brick : Lab
brick = record bare_lab {
  code = codes "brick";
  name = codes "Brick Lab";
  last = 700;
  persons = brick_ann ∷ brick_dan ∷ brick_max ∷ [];
  sessions = session_of 1 (codes "dan") 41 100 400 false ∷ session_of 2 (codes "ann") 43 440 450 true ∷ [];
  forms = day_form ∷ [];
  records = record bare_record { number = 1; form = day_form; sample = codes "S1"; versions = wrong_version ∷ [] } ∷ [];
  trail = told_of 1 0 None action.Found (codes "brick")
      ∷ told_of 2 300 (Some (codes "dan")) action.Record (codes "1")
      ∷ told_of 3 350 (Some (codes "dan")) action.Entry (codes "1/1/day")
      ∷ told_of 4 400 (Some (codes "dan")) action.Sign (codes "1/1/authorship")
      ∷ told_of 5 450 (Some (codes "ann")) action.Sign (codes "1/1/rejection")
      ∷ told_of 6 700 (Some (codes "dan")) action.Lock (codes "dan")
      ∷ [];
}

-- ---- what the file means

pub known_aqua : meaning file (codes "aqua") ≡ Some aqua
known_aqua = refl

pub known_brick : meaning file (codes "brick") ≡ Some brick
known_brick = refl

pub known_none : meaning file (codes "zinc") ≡ None
known_none = refl

-- it means the same with its rows the other way round
abbrev turned : Tables
turned = record {
  desk = file.desk;
  labs = reverse file.labs;
  persons = reverse file.persons;
  sessions = reverse file.sessions;
  forms = reverse file.forms;
  fields = reverse file.fields;
  choices = reverse file.choices;
  records = reverse file.records;
  versions = reverse file.versions;
  entries = reverse file.entries;
  signatures = reverse file.signatures;
  trail = reverse file.trail;
}

pub known_turned : (meaning turned (codes "aqua") ≡ Some aqua) × (meaning turned (codes "brick") ≡ Some brick)
known_turned = (refl, refl)

-- ---- files that are not well kept

-- a second person of the code in one laboratory; the same in the other one is none
abbrev second_dan : Tables
second_dan = record file {
  persons = person (pos 9) (pos 7) (codes "dan") (codes "Dan Dart") 1 false 0 None (chosen 1 10000 2 500) unasked ∷ file.persons;
}

-- two rows of one id
abbrev id_twice : Tables
id_twice = record file {
  choices = choice (pos 2) (pos 4) 3 (codes "red") ∷ file.choices;
}

-- an opener who isn't there
abbrev no_opener : Tables
no_opener = record file {
  versions = version (pos 5) (pos 1) 2 2 (pos 99) 1500 (Some (codes "lost")) ∷ file.versions;
}

-- brick's dan enters into a version of aqua
abbrev dan_of_brick : Tables
dan_of_brick = record file {
  entries = entry (pos 6) (pos 3) 2 (codes "note") (codes "new") (codes "") (pos 1) 1410 (Some (codes "one decimal is meant")) ∷ file.entries;
}

-- brick's ann asked for a word of aqua's bob
abbrev asked_by_brick : Tables
asked_by_brick = record file {
  persons = person (pos 9) (pos 7) (codes "bob") (codes "Bob Bell") 8 false 0 None (chosen 1 10000 2 500) (asked_by (pos 5) 1600 9 10000 10) ∷ file.persons;
}

-- brick's persons with a session of aqua, as its opener and its signer, and in its trail
abbrev session_of_brick : Tables
session_of_brick = record file {
  sessions = session (pos 9) (pos 7) (pos 1) 3 (filled 32 44) 1600 1600 false false ∷ file.sessions;
}

abbrev opened_by_brick : Tables
opened_by_brick = record file {
  versions = version (pos 5) (pos 1) 2 2 (pos 1) 1500 (Some (codes "lost")) ∷ file.versions;
}

abbrev signed_by_brick : Tables
signed_by_brick = record file {
  signatures = signature (pos 5) (pos 3) 1 (pos 5) (codes "Anna Arp") (codes "authorship") 1600 None (filled 32 21) (filled 32 27) ∷ file.signatures;
}

abbrev told_by_brick : Tables
told_by_brick = record file {
  trail = told (pos 19) (pos 7) 13 1600 (Some (pos 1)) (codes "record") (codes "3") ∷ file.trail;
}

-- a record of aqua on brick's form
abbrev form_of_brick : Tables
form_of_brick = record file {
  records = filed (pos 4) (pos 7) 3 (pos 2) (codes "water") (codes "S3") 1 ∷ file.records;
}

-- a row of the trail left out
abbrev gap : Tables
gap = record file {
  trail = told (pos 19) (pos 3) 8 800 (Some (pos 1)) (codes "record") (codes "2") ∷ file.trail;
}

-- a counter that stayed behind
abbrev behind : Tables
behind = record file {
  labs = lab (pos 3) (codes "brick") (codes "Brick Lab") 700 0 1 2 5 ∷ lab (pos 7) (codes "aqua") (codes "Aqua Lab") 1600 2 2 2 12 ∷ [];
}

-- a version more than `current` says
abbrev not_current : Tables
not_current = record file {
  versions = version (pos 5) (pos 1) 2 2 (pos 2) 1500 (Some (codes "lost")) ∷ file.versions;
}

-- a record without a version, which is counted
abbrev no_version : Tables
no_version = record file {
  labs = lab (pos 3) (codes "brick") (codes "Brick Lab") 700 0 1 2 6 ∷ lab (pos 7) (codes "aqua") (codes "Aqua Lab") 1600 2 3 2 12 ∷ [];
  records = filed (pos 4) (pos 7) 3 (pos 1) (codes "water") (codes "S3") 0 ∷ file.records;
}

-- another form's code
abbrev wrong_code : Tables
wrong_code = record file {
  records = filed (pos 1) (pos 7) 2 (pos 1) (codes "air") (codes "S2") 1
      ∷ filed (pos 2) (pos 3) 1 (pos 2) (codes "water") (codes "S1") 1
      ∷ filed (pos 3) (pos 7) 1 (pos 1) (codes "water") (codes "S1") 2
      ∷ [];
}

-- a second signature of one meaning
abbrev meaning_twice : Tables
meaning_twice = record file {
  signatures = signature (pos 5) (pos 1) 3 (pos 6) (codes "Eve Eden") (codes "review") 1360 None (filled 32 21) (filled 32 27) ∷ file.signatures;
}

-- a later version without its reason, and a first one with a reason
abbrev no_reason : Tables
no_reason = record file {
  versions = version (pos 5) (pos 1) 2 2 (pos 2) 1500 None ∷ file.versions;
}

pub known_refused :
    (are_keys_unique second_dan ≡ false) × (are_ids_unique id_twice ≡ false)
    × (are_arrows_whole no_opener ≡ false) × (are_labs_apart dan_of_brick ≡ false)
    × (are_labs_apart asked_by_brick ≡ false) × (are_labs_apart form_of_brick ≡ false)
    × (are_labs_apart session_of_brick ≡ false) × (are_labs_apart opened_by_brick ≡ false)
    × (are_labs_apart signed_by_brick ≡ false) × (are_labs_apart told_by_brick ≡ false)
    × (are_all_numbered gap ≡ false) × (is_said_alike gap ≡ false)
    × (is_said_alike behind ≡ false) × (is_said_alike not_current ≡ false)
    × (is_said_alike no_version ≡ false) × (is_said_alike wrong_code ≡ false)
    × (are_keys_unique meaning_twice ≡ false) × (are_columns_whole no_reason ≡ false)
    × (is_desk [] ≡ false) × (is_desk (desk (pos 1) 2 ∷ []) ≡ false)
    × (is_desk (desk (pos 1) 3 ∷ desk (pos 2) 3 ∷ []) ≡ false)
known_refused = (
  refl,
  refl,
  refl,
  refl,
  refl,
  refl,
  refl,
  refl,
  refl,
  refl,
  refl,
  refl,
  refl,
  refl,
  refl,
  refl,
  refl,
  refl,
  refl,
  refl,
  refl,
)

-- what only looks ill-kept is not: each of these passes the tests that its kind of slip would fail
pub known_admitted :
    (are_arrows_whole dan_of_brick ≡ true) × (are_all_numbered dan_of_brick ≡ true)
    × (are_keys_unique form_of_brick ≡ true) × (are_keys_unique gap ≡ true)
    × (are_keys_unique behind ≡ true) × (are_arrows_whole second_dan ≡ true)
known_admitted = (refl, refl, refl, refl, refl, refl)

-- ---- files that agree

-- brick's row differs, and aqua's choices stand under other ids
abbrev other_brick : Tables
other_brick = record file {
  labs = lab (pos 3) (codes "brick") (codes "Brick Lab") 9999 4 1 2 6 ∷ lab (pos 7) (codes "aqua") (codes "Aqua Lab") 1600 2 2 2 12 ∷ [];
  choices = choice (pos 30) (pos 4) 1 (codes "clear") ∷ choice (pos 17) (pos 4) 2 (codes "cloudy") ∷ [];
}

pub known_agreement : Agree file other_brick (codes "aqua")
known_agreement = refl

-- the small file with every id `i` replaced by `7 * i + 3`
abbrev moved : ℤ → ℤ
moved id = pos (natural id * 7 + 3)

abbrev moved_desk : DeskRow → DeskRow
moved_desk one = record one { id = moved one.id }

abbrev moved_lab : LabRow → LabRow
moved_lab one = record one { id = moved one.id }

abbrev moved_person : PersonRow → PersonRow
moved_person one = record one { id = moved one.id; lab = moved one.lab; ask = record one.ask { asker = option_map moved one.ask.asker } }

abbrev moved_session : SessionRow → SessionRow
moved_session one = record one { id = moved one.id; lab = moved one.lab; person = moved one.person }

abbrev moved_form : FormRow → FormRow
moved_form one = record one { id = moved one.id; lab = moved one.lab }

abbrev moved_field : FieldRow → FieldRow
moved_field one = record one { id = moved one.id; form = moved one.form }

abbrev moved_choice : ChoiceRow → ChoiceRow
moved_choice one = record one { id = moved one.id; field = moved one.field }

abbrev moved_record : RecordRow → RecordRow
moved_record one = record one { id = moved one.id; lab = moved one.lab; form = moved one.form }

abbrev moved_version : VersionRow → VersionRow
moved_version one = record one { id = moved one.id; kept = moved one.kept; opener = moved one.opener }

abbrev moved_entry : EntryRow → EntryRow
moved_entry one = record one { id = moved one.id; version = moved one.version; person = moved one.person }

abbrev moved_signature : SignatureRow → SignatureRow
moved_signature one = record one { id = moved one.id; version = moved one.version; person = moved one.person }

abbrev moved_told : TrailRow → TrailRow
moved_told one = record one { id = moved one.id; lab = moved one.lab; person = option_map moved one.person }

abbrev renumbered : Tables
renumbered = record {
  desk = map moved_desk file.desk;
  labs = map moved_lab file.labs;
  persons = map moved_person file.persons;
  sessions = map moved_session file.sessions;
  forms = map moved_form file.forms;
  fields = map moved_field file.fields;
  choices = map moved_choice file.choices;
  records = map moved_record file.records;
  versions = map moved_version file.versions;
  entries = map moved_entry file.entries;
  signatures = map moved_signature file.signatures;
  trail = map moved_told file.trail;
}

pub known_renumbered : Agree file renumbered (codes "aqua") × Agree file renumbered (codes "brick")
    × (are_arrows_whole renumbered ≡ true) × (are_labs_apart renumbered ≡ true)
known_renumbered = (refl, refl, refl, refl)
