-- A small file, row by row as it stands in the tables: two laboratories, `aqua` and `brick`, whose
-- rows lie between one another, and not in the order of their numbers or codes. Both have a person
-- `dan`, a form `water`, a record 1 of the sample `S1`, and a session of the same token. `tests/tables`
-- reads these rows too, and makes a file of them.
use Rattle.std.proofs.Common.{ℕ, ℤ, pos, Bool, true, false, List, [], ◌∷◌, Option, Some, None}
use Rattle.std.specs.Prelude.{codes, replicate}
use Rattle.lab_store_tables.proofs.RowWords.{no_desk, no_lab, no_password, no_ask, no_person, no_session, no_form, no_kind, no_field, no_choice, no_record, no_version, no_entry, no_signature, no_told}
use Rattle.lab_store_tables.specs.Rows.{DeskRow, LabRow, PasswordColumns, AskColumns, PersonRow, SessionRow, FormRow, KindColumns, FieldRow, ChoiceRow, RecordRow, VersionRow, EntryRow, SignatureRow, TrailRow, Tables}

-- ---- rows, column by column: what no argument gives is as in a row with nothing in it

-- so many bytes, all of them this one
abbrev pub filled : ℕ → ℕ → List ℕ
filled count byte = replicate count byte

abbrev pub desk : ℤ → ℕ → DeskRow
desk id number = record no_desk { id = id; number = number }

abbrev pub lab : ℤ → List ℕ → List ℕ → ℕ → ℕ → ℕ → ℕ → ℕ → LabRow
lab id code name last stray records sessions trail = record no_lab {
  id = id;
  code = code;
  name = name;
  last = last;
  stray = stray;
  records = records;
  sessions = sessions;
  trail = trail;
}

abbrev pub unset : PasswordColumns
unset = no_password

abbrev pub chosen : ℕ → ℕ → ℕ → ℕ → PasswordColumns
chosen salt rounds bytes changed = record no_password {
  kind = 1;
  salt = Some (filled 16 salt);
  rounds = Some rounds;
  bytes = Some (filled 32 bytes);
  changed = Some changed;
}

abbrev pub one_time : ℕ → ℕ → ℕ → ℕ → ℕ → ℕ → ℕ → PasswordColumns
one_time salt rounds bytes salt2 rounds2 bytes2 changed = record no_password {
  kind = 2;
  salt = Some (filled 16 salt);
  rounds = Some rounds;
  bytes = Some (filled 32 bytes);
  salt2 = Some (filled 16 salt2);
  rounds2 = Some rounds2;
  bytes2 = Some (filled 32 bytes2);
  changed = Some changed;
}

abbrev pub unasked : AskColumns
unasked = no_ask

abbrev pub asked_by : ℤ → ℕ → ℕ → ℕ → ℕ → AskColumns
asked_by asker asked salt rounds bytes = record no_ask {
  asker = Some asker;
  asked = Some asked;
  salt = Some (filled 16 salt);
  rounds = Some rounds;
  bytes = Some (filled 32 bytes);
}

abbrev pub person : ℤ → ℤ → List ℕ → List ℕ → ℕ → Bool → ℕ → Option ℕ → PasswordColumns → AskColumns → PersonRow
person id lab code name roles retired failures locked password ask = record no_person {
  id = id;
  lab = lab;
  code = code;
  name = name;
  roles = roles;
  retired = retired;
  failures = failures;
  locked = locked;
  password = password;
  ask = ask;
}

abbrev pub session : ℤ → ℤ → ℤ → ℕ → List ℕ → ℕ → ℕ → Bool → Bool → SessionRow
session id lab person number token opened last closed signed = record no_session {
  id = id;
  lab = lab;
  person = person;
  number = number;
  token = token;
  opened = opened;
  last = last;
  closed = closed;
  signed = signed;
}

abbrev pub form : ℤ → ℤ → List ℕ → ℕ → Bool → FormRow
form id lab code version approval = record no_form {
  id = id;
  lab = lab;
  code = code;
  version = version;
  approval = approval;
}

abbrev pub number_of : List ℕ → ℕ → Option (List ℕ) → Option (List ℕ) → KindColumns
number_of unit decimals low high = record no_kind {
  word = codes "number";
  unit = Some unit;
  decimals = Some decimals;
  low = low;
  high = high;
}

abbrev pub text_of : ℕ → KindColumns
text_of size = record no_kind { word = codes "text"; size = Some size }

abbrev pub plainly : List ℕ → KindColumns
plainly word = record no_kind { word = word }

abbrev pub field : ℤ → ℤ → ℕ → List ℕ → List ℕ → Bool → KindColumns → FieldRow
field id form place key label required kind = record no_field {
  id = id;
  form = form;
  place = place;
  key = key;
  label = label;
  required = required;
  kind = kind;
}

abbrev pub choice : ℤ → ℤ → ℕ → List ℕ → ChoiceRow
choice id field place name = record no_choice { id = id; field = field; place = place; name = name }

abbrev pub filed : ℤ → ℤ → ℕ → ℤ → List ℕ → List ℕ → ℕ → RecordRow
filed id lab number form form_code sample current = record no_record {
  id = id;
  lab = lab;
  number = number;
  form = form;
  form_code = form_code;
  sample = sample;
  current = current;
}

abbrev pub version : ℤ → ℤ → ℕ → ℕ → ℤ → ℕ → Option (List ℕ) → VersionRow
version id kept number format opener opened reason = record no_version {
  id = id;
  kept = kept;
  number = number;
  format = format;
  opener = opener;
  opened = opened;
  reason = reason;
}

abbrev pub entry : ℤ → ℤ → ℕ → List ℕ → List ℕ → List ℕ → ℤ → ℕ → Option (List ℕ) → EntryRow
entry id version place key value unit person moment reason = record no_entry {
  id = id;
  version = version;
  place = place;
  key = key;
  value = value;
  unit = unit;
  person = person;
  moment = moment;
  reason = reason;
}

abbrev pub signature : ℤ → ℤ → ℕ → ℤ → List ℕ → List ℕ → ℕ → Option (List ℕ) → List ℕ → List ℕ → SignatureRow
signature id version place person name meaning moment reason digest seal = record no_signature {
  id = id;
  version = version;
  place = place;
  person = person;
  name = name;
  meaning = meaning;
  moment = moment;
  reason = reason;
  digest = digest;
  seal = seal;
}

abbrev pub told : ℤ → ℤ → ℕ → ℕ → Option ℤ → List ℕ → List ℕ → TrailRow
told id lab number moment person action subject = record no_told {
  id = id;
  lab = lab;
  number = number;
  moment = moment;
  person = person;
  action = action;
  subject = subject;
}

-- ---- the file

abbrev pub file : Tables
file = record {
  desk = desk (pos 1) 3 ∷ [];
  labs = lab (pos 3) (codes "brick") (codes "Brick Lab") 700 0 1 2 6
      ∷ lab (pos 7) (codes "aqua") (codes "Aqua Lab") 1600 2 2 2 12
      ∷ [];
  persons = person (pos 1) (pos 3) (codes "dan") (codes "Dan Drew") 1 false 5 (Some 700) (chosen 11 10000 12 20) unasked
      ∷ person (pos 2) (pos 7) (codes "dan") (codes "Dan Dale") 1 false 0 None (chosen 1 10000 2 500) unasked
      ∷ person (pos 4) (pos 7) (codes "ann") (codes "Ann Ames") 8 false 0 None (chosen 3 10000 4 500) unasked
      ∷ person (pos 5) (pos 3) (codes "ann") (codes "Anna Arp") 10 false 0 None (chosen 13 10000 14 20) unasked
      ∷ person (pos 6) (pos 7) (codes "eve") (codes "Eve Eden") 2 false 0 None (chosen 5 10000 6 500) (asked_by (pos 4) 1590 9 10000 10)
      ∷ person (pos 7) (pos 3) (codes "max") (codes "Max Moss") 8 false 0 None unset unasked
      ∷ person (pos 8) (pos 7) (codes "hal") (codes "Hal Hunt") 16 true 0 None (one_time 15 10000 16 17 10000 18 520) unasked
      ∷ [];
  sessions = session (pos 1) (pos 7) (pos 6) 2 (filled 32 42) 1250 1350 false true
      ∷ session (pos 2) (pos 3) (pos 1) 1 (filled 32 41) 100 400 false true
      ∷ session (pos 3) (pos 7) (pos 2) 1 (filled 32 41) 900 1450 false true
      ∷ session (pos 4) (pos 3) (pos 5) 2 (filled 32 43) 440 450 true true
      ∷ [];
  forms = form (pos 1) (pos 7) (codes "water") 1 false
      ∷ form (pos 2) (pos 3) (codes "water") 1 true
      ∷ form (pos 3) (pos 7) (codes "water") 2 true
      ∷ form (pos 4) (pos 7) (codes "air") 1 false
      ∷ [];
  fields = field (pos 1) (pos 1) 2 (codes "note") (codes "Note") false (text_of 200)
      ∷ field (pos 2) (pos 1) 1 (codes "lead") (codes "Lead") true (number_of (codes "mg/L") 2 (Some (codes "0")) None)
      ∷ field (pos 3) (pos 2) 1 (codes "day") (codes "Day") true (plainly (codes "date"))
      ∷ field (pos 4) (pos 1) 3 (codes "look") (codes "Look") false (plainly (codes "choice"))
      ∷ field (pos 5) (pos 3) 1 (codes "lead") (codes "Lead") true (number_of (codes "ug/L") 0 None (Some (codes "900")))
      ∷ field (pos 6) (pos 4) 1 (codes "dust") (codes "Dust") true (plainly (codes "yesno"))
      ∷ [];
  choices = choice (pos 1) (pos 4) 2 (codes "cloudy") ∷ choice (pos 2) (pos 4) 1 (codes "clear") ∷ [];
  records = filed (pos 1) (pos 7) 2 (pos 1) (codes "water") (codes "S2") 1
      ∷ filed (pos 2) (pos 3) 1 (pos 2) (codes "water") (codes "S1") 1
      ∷ filed (pos 3) (pos 7) 1 (pos 1) (codes "water") (codes "S1") 2
      ∷ [];
  versions = version (pos 1) (pos 3) 1 2 (pos 2) 1000 None
      ∷ version (pos 2) (pos 2) 1 2 (pos 1) 300 None
      ∷ version (pos 3) (pos 3) 2 2 (pos 2) 1400 (Some (codes "one decimal is meant"))
      ∷ version (pos 4) (pos 1) 1 1 (pos 2) 1450 None
      ∷ [];
  entries = entry (pos 1) (pos 1) 2 (codes "lead") (codes "7.50") (codes "mg/L") (pos 2) 1200 (Some (codes "misread scale"))
      ∷ entry (pos 2) (pos 1) 1 (codes "lead") (codes "7.05") (codes "mg/L") (pos 2) 1100 None
      ∷ entry (pos 3) (pos 2) 1 (codes "day") (codes "2026-01-02") (codes "") (pos 1) 350 None
      ∷ entry (pos 4) (pos 3) 1 (codes "lead") (codes "7.5") (codes "mg/L") (pos 2) 1400 (Some (codes "one decimal is meant"))
      ∷ entry (pos 5) (pos 1) 3 (codes "look") (codes "clear") (codes "") (pos 2) 1210 None
      ∷ [];
  signatures = signature (pos 1) (pos 1) 2 (pos 6) (codes "Eve Eden") (codes "review") 1350 None (filled 32 21) (filled 32 22)
      ∷ signature (pos 2) (pos 1) 1 (pos 2) (codes "Dan Dale") (codes "authorship") 1300 None (filled 32 21) (filled 32 23)
      ∷ signature (pos 3) (pos 2) 1 (pos 1) (codes "Dan Drew") (codes "authorship") 400 None (filled 32 24) (filled 32 25)
      ∷ signature (pos 4) (pos 2) 2 (pos 5) (codes "Anna Arp") (codes "rejection") 450 (Some (codes "wrong day")) (filled 32 24) (filled 32 26)
      ∷ [];
  trail = told (pos 1) (pos 3) 1 0 None (codes "found") (codes "brick")
      ∷ told (pos 2) (pos 7) 1 0 None (codes "found") (codes "aqua")
      ∷ told (pos 3) (pos 3) 2 300 (Some (pos 1)) (codes "record") (codes "1")
      ∷ told (pos 4) (pos 3) 3 350 (Some (pos 1)) (codes "entry") (codes "1/1/day")
      ∷ told (pos 5) (pos 3) 4 400 (Some (pos 1)) (codes "sign") (codes "1/1/authorship")
      ∷ told (pos 6) (pos 3) 5 450 (Some (pos 5)) (codes "sign") (codes "1/1/rejection")
      ∷ told (pos 7) (pos 3) 6 700 (Some (pos 1)) (codes "lock") (codes "dan")
      ∷ told (pos 8) (pos 7) 2 1000 (Some (pos 2)) (codes "record") (codes "1")
      ∷ told (pos 9) (pos 7) 4 1200 (Some (pos 2)) (codes "entry") (codes "1/1/lead")
      ∷ told (pos 10) (pos 7) 3 1100 (Some (pos 2)) (codes "entry") (codes "1/1/lead")
      ∷ told (pos 11) (pos 7) 5 1210 (Some (pos 2)) (codes "entry") (codes "1/1/look")
      ∷ told (pos 12) (pos 7) 6 1300 (Some (pos 2)) (codes "sign") (codes "1/1/authorship")
      ∷ told (pos 13) (pos 7) 7 1350 (Some (pos 6)) (codes "sign") (codes "1/1/review")
      ∷ told (pos 14) (pos 7) 8 1400 (Some (pos 2)) (codes "amend") (codes "1/2")
      ∷ told (pos 15) (pos 7) 9 1450 (Some (pos 2)) (codes "record") (codes "2")
      ∷ told (pos 16) (pos 7) 10 1500 (Some (pos 6)) (codes "lock") (codes "eve")
      ∷ told (pos 17) (pos 7) 11 1590 (Some (pos 4)) (codes "issue") (codes "eve")
      ∷ told (pos 18) (pos 7) 12 1600 (Some (pos 4)) (codes "unlock") (codes "eve")
      ∷ [];
}
