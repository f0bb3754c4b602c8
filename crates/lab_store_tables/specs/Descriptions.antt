-- The twelve tables, each described once.
use Rattle.std.specs.Prelude.{ℕ, ℤ, true, false, List, [], ◌∷◌, Some, None, codes}
use Rattle.lab_store_tables.specs.RowRecords.{DeskRow, LabRow, PersonRow, SessionRow, FormRow, FieldRow, ChoiceRow, RecordRow, VersionRow, EntryRow, SignatureRow, TrailRow}
use Rattle.lab_store_tables.specs.Sheets.{Content, Id, Number, Flag, Words, Octets, Described, Sheet, Cells}

abbrev pub given : List ℕ → Content → Described
given name content = record { name = name; content = content; needed = true; leads = None }

abbrev pub perhaps : List ℕ → Content → Described
perhaps name content = record { name = name; content = content; needed = false; leads = None }

-- an id of the parent's
abbrev pub leads : List ℕ → List ℕ → Described
leads name parent = record { name = name; content = Id; needed = true; leads = Some parent }

abbrev pub leads_perhaps : List ℕ → List ℕ → Described
leads_perhaps name parent =
    record { name = name; content = Id; needed = false; leads = Some parent }

-- ---- desk

abbrev pub desk : Sheet
desk = record {
  name = codes "desk";
  tree = 0;
  columns = given (codes "schema") Number
      ∷ [];
  uniques = [];
}

abbrev pub desk_cells : DeskRow → Cells desk.columns
desk_cells one = (one.number, tt)

abbrev pub desk_make : ℤ → Cells desk.columns → DeskRow
desk_make id x = record {
  id = id;
  number = x.0;
}

-- ---- labs

abbrev pub labs : Sheet
labs = record {
  name = codes "labs";
  tree = 1;
  columns = given (codes "code") Words
      ∷ given (codes "name") Words
      ∷ given (codes "last") Number
      ∷ given (codes "stray") Number
      ∷ given (codes "records") Number
      ∷ given (codes "sessions") Number
      ∷ given (codes "trail") Number
      ∷ [];
  uniques = (codes "code" ∷ []) ∷ [];
}

abbrev pub lab_cells : LabRow → Cells labs.columns
lab_cells one = (one.code, (one.name, (one.last, (one.stray, (one.records, (one.sessions, (one.trail, tt)))))))

abbrev pub lab_make : ℤ → Cells labs.columns → LabRow
lab_make id x = record {
  id = id;
  code = x.0;
  name = x.1.0;
  last = x.1.1.0;
  stray = x.1.1.1.0;
  records = x.1.1.1.1.0;
  sessions = x.1.1.1.1.1.0;
  trail = x.1.1.1.1.1.1.0;
}

-- ---- persons

abbrev pub persons : Sheet
persons = record {
  name = codes "persons";
  tree = 3;
  columns = leads (codes "lab") (codes "labs")
      ∷ given (codes "code") Words
      ∷ given (codes "name") Words
      ∷ given (codes "roles") Number
      ∷ given (codes "retired") Flag
      ∷ given (codes "failures") Number
      ∷ perhaps (codes "locked") Number
      ∷ given (codes "kind") Number
      ∷ perhaps (codes "salt") Octets
      ∷ perhaps (codes "rounds") Number
      ∷ perhaps (codes "bytes") Octets
      ∷ perhaps (codes "salt2") Octets
      ∷ perhaps (codes "rounds2") Number
      ∷ perhaps (codes "bytes2") Octets
      ∷ perhaps (codes "changed") Number
      ∷ leads_perhaps (codes "asker") (codes "persons")
      ∷ perhaps (codes "asked") Number
      ∷ perhaps (codes "ask_salt") Octets
      ∷ perhaps (codes "ask_rounds") Number
      ∷ perhaps (codes "ask_bytes") Octets
      ∷ [];
  uniques = (codes "lab" ∷ codes "code" ∷ []) ∷ [];
}

abbrev pub person_cells : PersonRow → Cells persons.columns
person_cells one = (one.lab, (one.code, (one.name, (one.roles, (one.retired, (one.failures, (one.locked, (one.password.kind, (one.password.salt, (one.password.rounds, (one.password.bytes, (one.password.salt2, (one.password.rounds2, (one.password.bytes2, (one.password.changed, (one.ask.asker, (one.ask.asked, (one.ask.salt, (one.ask.rounds, (one.ask.bytes, tt))))))))))))))))))))

abbrev pub person_make : ℤ → Cells persons.columns → PersonRow
person_make id x = record {
  id = id;
  lab = x.0;
  code = x.1.0;
  name = x.1.1.0;
  roles = x.1.1.1.0;
  retired = x.1.1.1.1.0;
  failures = x.1.1.1.1.1.0;
  locked = x.1.1.1.1.1.1.0;
  password = record {
    kind = x.1.1.1.1.1.1.1.0;
    salt = x.1.1.1.1.1.1.1.1.0;
    rounds = x.1.1.1.1.1.1.1.1.1.0;
    bytes = x.1.1.1.1.1.1.1.1.1.1.0;
    salt2 = x.1.1.1.1.1.1.1.1.1.1.1.0;
    rounds2 = x.1.1.1.1.1.1.1.1.1.1.1.1.0;
    bytes2 = x.1.1.1.1.1.1.1.1.1.1.1.1.1.0;
    changed = x.1.1.1.1.1.1.1.1.1.1.1.1.1.1.0;
  };
  ask = record {
    asker = x.1.1.1.1.1.1.1.1.1.1.1.1.1.1.1.0;
    asked = x.1.1.1.1.1.1.1.1.1.1.1.1.1.1.1.1.0;
    salt = x.1.1.1.1.1.1.1.1.1.1.1.1.1.1.1.1.1.0;
    rounds = x.1.1.1.1.1.1.1.1.1.1.1.1.1.1.1.1.1.1.0;
    bytes = x.1.1.1.1.1.1.1.1.1.1.1.1.1.1.1.1.1.1.1.0;
  };
}

-- ---- sessions

abbrev pub sessions : Sheet
sessions = record {
  name = codes "sessions";
  tree = 5;
  columns = leads (codes "lab") (codes "labs")
      ∷ leads (codes "person") (codes "persons")
      ∷ given (codes "number") Number
      ∷ given (codes "token") Octets
      ∷ given (codes "opened") Number
      ∷ given (codes "last") Number
      ∷ given (codes "closed") Flag
      ∷ given (codes "signed") Flag
      ∷ [];
  uniques = (codes "lab" ∷ codes "token" ∷ []) ∷ (codes "lab" ∷ codes "number" ∷ []) ∷ [];
}

abbrev pub session_cells : SessionRow → Cells sessions.columns
session_cells one = (one.lab, (one.person, (one.number, (one.token, (one.opened, (one.last, (one.closed, (one.signed, tt))))))))

abbrev pub session_make : ℤ → Cells sessions.columns → SessionRow
session_make id x = record {
  id = id;
  lab = x.0;
  person = x.1.0;
  number = x.1.1.0;
  token = x.1.1.1.0;
  opened = x.1.1.1.1.0;
  last = x.1.1.1.1.1.0;
  closed = x.1.1.1.1.1.1.0;
  signed = x.1.1.1.1.1.1.1.0;
}

-- ---- forms

abbrev pub forms : Sheet
forms = record {
  name = codes "forms";
  tree = 8;
  columns = leads (codes "lab") (codes "labs")
      ∷ given (codes "code") Words
      ∷ given (codes "version") Number
      ∷ given (codes "approval") Flag
      ∷ [];
  uniques = (codes "lab" ∷ codes "code" ∷ codes "version" ∷ []) ∷ [];
}

abbrev pub form_cells : FormRow → Cells forms.columns
form_cells one = (one.lab, (one.code, (one.version, (one.approval, tt))))

abbrev pub form_make : ℤ → Cells forms.columns → FormRow
form_make id x = record {
  id = id;
  lab = x.0;
  code = x.1.0;
  version = x.1.1.0;
  approval = x.1.1.1.0;
}

-- ---- fields

abbrev pub fields : Sheet
fields = record {
  name = codes "fields";
  tree = 10;
  columns = leads (codes "form") (codes "forms")
      ∷ given (codes "place") Number
      ∷ given (codes "key") Words
      ∷ given (codes "label") Words
      ∷ given (codes "required") Flag
      ∷ given (codes "kind") Words
      ∷ perhaps (codes "unit") Words
      ∷ perhaps (codes "decimals") Number
      ∷ perhaps (codes "low") Words
      ∷ perhaps (codes "high") Words
      ∷ perhaps (codes "size") Number
      ∷ [];
  uniques = (codes "form" ∷ codes "place" ∷ []) ∷ (codes "form" ∷ codes "key" ∷ []) ∷ [];
}

abbrev pub field_cells : FieldRow → Cells fields.columns
field_cells one = (one.form, (one.place, (one.key, (one.label, (one.required, (one.kind.word, (one.kind.unit, (one.kind.decimals, (one.kind.low, (one.kind.high, (one.kind.size, tt)))))))))))

abbrev pub field_make : ℤ → Cells fields.columns → FieldRow
field_make id x = record {
  id = id;
  form = x.0;
  place = x.1.0;
  key = x.1.1.0;
  label = x.1.1.1.0;
  required = x.1.1.1.1.0;
  kind = record {
    word = x.1.1.1.1.1.0;
    unit = x.1.1.1.1.1.1.0;
    decimals = x.1.1.1.1.1.1.1.0;
    low = x.1.1.1.1.1.1.1.1.0;
    high = x.1.1.1.1.1.1.1.1.1.0;
    size = x.1.1.1.1.1.1.1.1.1.1.0;
  };
}

-- ---- choices

abbrev pub choices : Sheet
choices = record {
  name = codes "choices";
  tree = 13;
  columns = leads (codes "field") (codes "fields")
      ∷ given (codes "place") Number
      ∷ given (codes "name") Words
      ∷ [];
  uniques = (codes "field" ∷ codes "place" ∷ []) ∷ [];
}

abbrev pub choice_cells : ChoiceRow → Cells choices.columns
choice_cells one = (one.field, (one.place, (one.name, tt)))

abbrev pub choice_make : ℤ → Cells choices.columns → ChoiceRow
choice_make id x = record {
  id = id;
  field = x.0;
  place = x.1.0;
  name = x.1.1.0;
}

-- ---- records

abbrev pub records : Sheet
records = record {
  name = codes "records";
  tree = 15;
  columns = leads (codes "lab") (codes "labs")
      ∷ given (codes "number") Number
      ∷ leads (codes "form") (codes "forms")
      ∷ given (codes "form_code") Words
      ∷ given (codes "sample") Words
      ∷ given (codes "current") Number
      ∷ [];
  uniques = (codes "lab" ∷ codes "number" ∷ []) ∷ (codes "lab" ∷ codes "form_code" ∷ codes "sample" ∷ []) ∷ [];
}

abbrev pub record_cells : RecordRow → Cells records.columns
record_cells one = (one.lab, (one.number, (one.form, (one.form_code, (one.sample, (one.current, tt))))))

abbrev pub record_make : ℤ → Cells records.columns → RecordRow
record_make id x = record {
  id = id;
  lab = x.0;
  number = x.1.0;
  form = x.1.1.0;
  form_code = x.1.1.1.0;
  sample = x.1.1.1.1.0;
  current = x.1.1.1.1.1.0;
}

-- ---- versions

abbrev pub versions : Sheet
versions = record {
  name = codes "versions";
  tree = 18;
  columns = leads (codes "record") (codes "records")
      ∷ given (codes "number") Number
      ∷ given (codes "format") Number
      ∷ leads (codes "opener") (codes "persons")
      ∷ given (codes "opened") Number
      ∷ perhaps (codes "reason") Words
      ∷ [];
  uniques = (codes "record" ∷ codes "number" ∷ []) ∷ [];
}

abbrev pub version_cells : VersionRow → Cells versions.columns
version_cells one = (one.kept, (one.number, (one.format, (one.opener, (one.opened, (one.reason, tt))))))

abbrev pub version_make : ℤ → Cells versions.columns → VersionRow
version_make id x = record {
  id = id;
  kept = x.0;
  number = x.1.0;
  format = x.1.1.0;
  opener = x.1.1.1.0;
  opened = x.1.1.1.1.0;
  reason = x.1.1.1.1.1.0;
}

-- ---- entries

abbrev pub entries : Sheet
entries = record {
  name = codes "entries";
  tree = 20;
  columns = leads (codes "version") (codes "versions")
      ∷ given (codes "place") Number
      ∷ given (codes "key") Words
      ∷ given (codes "value") Words
      ∷ given (codes "unit") Words
      ∷ leads (codes "person") (codes "persons")
      ∷ given (codes "moment") Number
      ∷ perhaps (codes "reason") Words
      ∷ [];
  uniques = (codes "version" ∷ codes "place" ∷ []) ∷ [];
}

abbrev pub entry_cells : EntryRow → Cells entries.columns
entry_cells one = (one.version, (one.place, (one.key, (one.value, (one.unit, (one.person, (one.moment, (one.reason, tt))))))))

abbrev pub entry_make : ℤ → Cells entries.columns → EntryRow
entry_make id x = record {
  id = id;
  version = x.0;
  place = x.1.0;
  key = x.1.1.0;
  value = x.1.1.1.0;
  unit = x.1.1.1.1.0;
  person = x.1.1.1.1.1.0;
  moment = x.1.1.1.1.1.1.0;
  reason = x.1.1.1.1.1.1.1.0;
}

-- ---- signatures

abbrev pub signatures : Sheet
signatures = record {
  name = codes "signatures";
  tree = 22;
  columns = leads (codes "version") (codes "versions")
      ∷ given (codes "place") Number
      ∷ leads (codes "person") (codes "persons")
      ∷ given (codes "name") Words
      ∷ given (codes "meaning") Words
      ∷ given (codes "moment") Number
      ∷ perhaps (codes "reason") Words
      ∷ given (codes "digest") Octets
      ∷ given (codes "seal") Octets
      ∷ [];
  uniques = (codes "version" ∷ codes "place" ∷ []) ∷ (codes "version" ∷ codes "meaning" ∷ []) ∷ [];
}

abbrev pub signature_cells : SignatureRow → Cells signatures.columns
signature_cells one = (one.version, (one.place, (one.person, (one.name, (one.meaning, (one.moment, (one.reason, (one.digest, (one.seal, tt)))))))))

abbrev pub signature_make : ℤ → Cells signatures.columns → SignatureRow
signature_make id x = record {
  id = id;
  version = x.0;
  place = x.1.0;
  person = x.1.1.0;
  name = x.1.1.1.0;
  meaning = x.1.1.1.1.0;
  moment = x.1.1.1.1.1.0;
  reason = x.1.1.1.1.1.1.0;
  digest = x.1.1.1.1.1.1.1.0;
  seal = x.1.1.1.1.1.1.1.1.0;
}

-- ---- trail

abbrev pub trail : Sheet
trail = record {
  name = codes "trail";
  tree = 25;
  columns = leads (codes "lab") (codes "labs")
      ∷ given (codes "number") Number
      ∷ given (codes "moment") Number
      ∷ leads_perhaps (codes "person") (codes "persons")
      ∷ given (codes "action") Words
      ∷ given (codes "subject") Words
      ∷ [];
  uniques = (codes "lab" ∷ codes "number" ∷ []) ∷ [];
}

abbrev pub trail_cells : TrailRow → Cells trail.columns
trail_cells one = (one.lab, (one.number, (one.moment, (one.person, (one.action, (one.subject, tt))))))

abbrev pub trail_make : ℤ → Cells trail.columns → TrailRow
trail_make id x = record {
  id = id;
  lab = x.0;
  number = x.1.0;
  moment = x.1.1.0;
  person = x.1.1.1.0;
  action = x.1.1.1.1.0;
  subject = x.1.1.1.1.1.0;
}
