-- What changes make of the small file, under ids that are free and aren't the next: the laboratory that
-- the change makes, and the other one as it was.
use Rattle.std.proofs.Common.{◌≡◌, pos, true, false, [], ◌∷◌, Some, None, refl}
use Rattle.std.specs.Prelude.{codes}
use Rattle.lab_people_access.specs.declared.persons.Person.{Person}
use Rattle.lab_people_access.specs.declared.sessions.Session.{Session}
use Rattle.lab_people_access.specs.declared.sessions.Closing.TheVariants.{All}
use Rattle.lab_people_access.specs.Persons.{newcomer}
use Rattle.lab_seal_versions.specs.declared.rows.EntryRow.{EntryRow as Entry}
use Rattle.lab_seal_versions.specs.declared.versions.Format.TheVariants as format
use Rattle.lab_forms.specs.declared.kinds.Kind.TheVariants.{Number, Text, Choice, Date, YesNo}
use Rattle.lab_forms.specs.declared.forms.Field.{Field}
use Rattle.lab_seal_versions.specs.declared.seals.Meaning.TheVariants.{Rejection, Approval}
use Rattle.lab_records_kept.specs.declared.records.FormVersion.{FormVersion}
use Rattle.lab_records_kept.specs.declared.records.Version.{Version}
use Rattle.lab_records_kept.specs.declared.records.Signature.{Signature}
use Rattle.lab_records_kept.specs.declared.trails.Action.TheVariants as action
use Rattle.lab_records_kept.specs.declared.trails.TrailRow.{TrailRow as Told}
use Rattle.lab_records_kept.specs.declared.changes.Change.{Change}
use Rattle.lab_records_kept.specs.declared.changes.Change.TheVariants.{Last, Strays, PersonAdded, PersonSet, SessionAdded, SessionSet, SessionsClosed, FormAdded, RecordAdded, RowAdded, VersionOpened, SignatureAdded, TrailAdded}
use Rattle.lab_records_kept.specs.Changes.{change}
use Rattle.lab_records_kept.specs.Digests.{digest_of}
use Rattle.lab_records_kept.proofs.KnownDefaults.{bare_entry, bare_field, bare_form, bare_session, bare_signature, bare_told, bare_version}
use Rattle.lab_store_tables.specs.Rows.{LabRow, Tables}
use Rattle.lab_store_tables.specs.Columns.{format_number, format_in, roles_sum, roles_in, reason_column, meaning_in, kind_columns, action_in}
use Rattle.lab_store_tables.specs.Meaning.{meaning}
use Rattle.lab_store_tables.specs.Changes.{Applies, person_named, form_named, record_named, version_named, person_row_of, session_row_of, field_row_of, form_row_of, in_lab, put_person, put_session, put_form, put_field, put_choice, put_record, put_version, put_entry, put_signature, put_told, set_person, set_session, set_current, close_sessions}
use Rattle.lab_store_tables.proofs.KnownFile.{filled, file, lab, filed, person, session, form, number_of, text_of, plainly, field, choice, version, entry, signature, told, unset, unasked, chosen, asked_by}
use Rattle.lab_store_tables.proofs.KnownValues.{aqua, aqua_record, older_version, brick, eve}

-- aqua is what the change makes of it, and brick is as it was
abbrev Becomes : Change → Tables → Type 0
Becomes one new =
    (meaning new (codes "aqua") ≡ Some (change aqua one))
    × (meaning new (codes "brick") ≡ Some brick)

abbrev pub aqua_row : LabRow
aqua_row = lab (pos 7) (codes "aqua") (codes "Aqua Lab") 1600 2 2 2 12

-- ---- who and what is named: among the rows of the one laboratory, record or form alone

pub known_names :
    (person_named file (pos 3) (codes "dan") ≡ Some (pos 1))
    × (person_named file (pos 7) (codes "dan") ≡ Some (pos 2))
    × (person_named file (pos 3) (codes "eve") ≡ None)
    × (form_named file (pos 3) (codes "water") 1 ≡ Some (pos 2))
    × (form_named file (pos 7) (codes "water") 2 ≡ Some (pos 3))
    × (form_named file (pos 7) (codes "air") 1 ≡ Some (pos 4))
    × (record_named file (pos 3) 1 ≡ Some (filed (pos 2) (pos 3) 1 (pos 2) (codes "water") (codes "S1") 1))
    × (record_named file (pos 7) 1 ≡ Some (filed (pos 3) (pos 7) 1 (pos 1) (codes "water") (codes "S1") 2))
    × (version_named file (pos 3) 1 ≡ Some (pos 1)) × (version_named file (pos 3) 2 ≡ Some (pos 3))
    × (version_named file (pos 1) 1 ≡ Some (pos 4)) × (version_named file (pos 1) 2 ≡ None)
known_names = (refl, refl, refl, refl, refl, refl, refl, refl, refl, refl, refl, refl)

-- ---- rows as they are written

abbrev pub left : Person
left = record (newcomer (codes "hal") (codes "Hal Hunt") (record { analyst = true; reviewer = true; manager = true; administrator = true; inspector = true })) {
  retired = true;
  failures = 1;
}

abbrev over : Session
over = record bare_session {
  number = 3;
  person = codes "dan";
  token = filled 32 44;
  opened = 1590;
  last = 1600;
  closed = true;
}

abbrev wanted : Field
wanted = record bare_field { key = codes "dust"; label = codes "Dust"; required = true; kind = YesNo }

abbrev approved : FormVersion
approved = record bare_form { code = codes "air"; version = 3; form = record { fields = []; approval = true } }

pub known_rows :
    (person_row_of (pos 7) (pos 8) None left
    ≡ person (pos 8) (pos 7) (codes "hal") (codes "Hal Hunt") 31 true 1 None unset unasked)
    × (session_row_of (pos 7) (pos 9) (pos 2) over ≡ session (pos 9) (pos 7) (pos 2) 3 (filled 32 44) 1590 1600 true false)
    × (field_row_of file (pos 4) (pos 9) wanted
    ≡ field (pos 9) (pos 4) 2 (codes "dust") (codes "Dust") true (plainly (codes "yesno")))
    × (form_row_of (pos 7) (pos 9) approved ≡ form (pos 9) (pos 7) (codes "air") 3 true)
known_rows = (refl, refl, refl, refl)

-- ---- columns as they are written, and as they are read

pub known_columns : (format_number format.One ≡ 1) × (format_number (format.Two true) ≡ 2)
    × (format_in 1 true ≡ format.One) × (format_in 2 false ≡ format.Two false)
    × (roles_sum (roles_in 21) ≡ 21) × (roles_sum (roles_in 10) ≡ 10)
    × (reason_column (Rejection (codes "smudged")) ≡ Some (codes "smudged")) × (reason_column Approval ≡ None)
    × (meaning_in (codes "approval") None ≡ Approval)
    × (kind_columns (Number (codes "mg/L") 2 (Some (codes "0")) None) ≡ number_of (codes "mg/L") 2 (Some (codes "0")) None)
    × (kind_columns (Text 200) ≡ text_of 200) × (kind_columns Date ≡ plainly (codes "date"))
    × (action_in (codes "lock") ≡ action.Lock) × (action_in (codes "roles") ≡ action.Roles)
known_columns = (refl, refl, refl, refl, refl, refl, refl, refl, refl, refl, refl, refl, refl, refl)

-- ---- the last moment

abbrev pub later : Tables
later = in_lab (pos 7) (λ (one : LabRow). record one { last = 1700 }) file

pub known_last : Applies (codes "aqua") (Last 1700) file later × Becomes (Last 1700) later
known_last = (record { lab = aqua_row; found = refl; made = refl }, (refl, refl))

-- ---- a row under the id 8, between none; it is the first of its version

abbrev pub new_entry : Entry
new_entry = record bare_entry {
  key = codes "lead";
  value = codes "8.00";
  unit = codes "mg/L";
  person = codes "dan";
  moment = 1500;
}

abbrev pub entered : Tables
entered = put_entry
    (entry (pos 8) (pos 4) 1 (codes "lead") (codes "8.00") (codes "mg/L") (pos 2) 1500 None) file

pub known_entry : Applies (codes "aqua") (RowAdded 2 new_entry) file entered × Becomes (RowAdded 2 new_entry) entered
known_entry = (
  record {
    lab = aqua_row;
    found = refl;
    made = record {
      kept = filed (pos 1) (pos 7) 2 (pos 1) (codes "water") (codes "S2") 1;
      found = refl;
      version = pos 4;
      last = refl;
      added = record { id = pos 8; free = refl; person = pos 2; named = refl; made = refl };
    };
  },
  (refl, refl),
)

-- ---- a row in the last version of a record of two

abbrev pub entered_later : Tables
entered_later = put_entry
    (entry (pos 7) (pos 3) 2 (codes "lead") (codes "8.00") (codes "mg/L") (pos 2) 1500 None) file

pub known_last_version : Applies (codes "aqua") (RowAdded 1 new_entry) file entered_later × Becomes (RowAdded 1 new_entry) entered_later
known_last_version = (
  record {
    lab = aqua_row;
    found = refl;
    made = record {
      kept = filed (pos 3) (pos 7) 1 (pos 1) (codes "water") (codes "S1") 2;
      found = refl;
      version = pos 3;
      last = refl;
      added = record { id = pos 7; free = refl; person = pos 2; named = refl; made = refl };
    };
  },
  (refl, refl),
)

-- ---- eve is locked; the ask stands

abbrev pub locked_eve : Person
locked_eve = record eve { failures = 5; locked = Some 1650 }

abbrev pub eve_locked : Tables
eve_locked = set_person
    (person (pos 6) (pos 7) (codes "eve") (codes "Eve Eden") 2 false 5 (Some 1650) (chosen 5 10000 6 500) (asked_by (pos 4) 1590 9 10000 10))
    file

pub known_lock : Applies (codes "aqua") (PersonSet locked_eve) file eve_locked × Becomes (PersonSet locked_eve) eve_locked
known_lock = (
  record {
    lab = aqua_row;
    found = refl;
    made = record { id = pos 6; found = refl; asker = Some (pos 4); named = (pos 4, refl, refl); made = refl };
  },
  (refl, refl),
)

-- ---- bob is enrolled, between ann and dan, under the id 3

abbrev pub bob : Person
bob = newcomer (codes "bob") (codes "Bob Bell") (record { analyst = false; reviewer = false; manager = true; administrator = true; inspector = false })

abbrev pub enrolled : Tables
enrolled = put_person
    (person (pos 3) (pos 7) (codes "bob") (codes "Bob Bell") 12 false 0 None unset unasked) file

pub known_enrolment : Applies (codes "aqua") (PersonAdded bob) file enrolled × Becomes (PersonAdded bob) enrolled
known_enrolment = (
  record {
    lab = aqua_row;
    found = refl;
    made = record { id = pos 3; free = refl; asker = None; named = refl; made = refl };
  },
  (refl, refl),
)

-- ---- dan's sessions are closed; brick's dan keeps the own one, which has the same token

abbrev pub closed : Tables
closed = close_sessions (pos 7) (codes "dan") All file

pub known_closing : Applies (codes "aqua") (SessionsClosed (codes "dan") All) file closed
    × Becomes (SessionsClosed (codes "dan") All) closed
known_closing = (record { lab = aqua_row; found = refl; made = refl }, (refl, refl))

-- ---- ann opens a session, the third

abbrev pub third : Session
third = record bare_session { number = 3; person = codes "ann"; token = filled 32 44; opened = 1590; last = 1590 }

abbrev pub opened : Tables
opened = in_lab (pos 7) (λ (one : LabRow). record one { sessions = 3 })
    (put_session (session (pos 9) (pos 7) (pos 4) 3 (filled 32 44) 1590 1590 false false) file)

pub known_session : Applies (codes "aqua") (SessionAdded third) file opened × Becomes (SessionAdded third) opened
known_session = (
  record {
    lab = aqua_row;
    found = refl;
    made = record { id = pos 9; free = refl; person = pos 4; named = refl; made = refl };
  },
  (refl, refl),
)

-- ---- a version of a form, with a field and its two choices

abbrev tried : FormVersion
tried = record bare_form {
  code = codes "air";
  version = 2;
  form = record {
    fields = record bare_field {
      key = codes "smell";
      label = codes "Smell";
      kind = Choice (codes "none" ∷ codes "some" ∷ []);
    } ∷ [];
    approval = false;
  };
}

abbrev smelling : Tables
smelling = put_field (field (pos 9) (pos 12) 1 (codes "smell") (codes "Smell") false (plainly (codes "choice")))
    (put_form (form (pos 12) (pos 7) (codes "air") 2 false) file)

abbrev smelling_none : Tables
smelling_none = put_choice (choice (pos 20) (pos 9) 1 (codes "none")) smelling

abbrev pub formed : Tables
formed = put_choice (choice (pos 8) (pos 9) 2 (codes "some")) smelling_none

pub known_form : Applies (codes "aqua") (FormAdded tried) file formed × Becomes (FormAdded tried) formed
known_form = (
  record {
    lab = aqua_row;
    found = refl;
    made = record {
      id = pos 12;
      free = refl;
      fields = (
        formed,
        record {
          id = pos 9;
          free = refl;
          choices = (
            smelling_none,
            record { id = pos 20; free = refl; made = refl },
            (formed, record { id = pos 8; free = refl; made = refl }, refl),
          );
        },
        refl,
      );
    };
  },
  (refl, refl),
)

-- ---- record 2 gets a second version, with a row, and it is the current one; that it amends the first
-- version as that is now is read of the file, where no column says so

abbrev left_out : Entry
left_out = record bare_entry {
  key = codes "lead";
  value = codes "3.10";
  unit = codes "mg/L";
  person = codes "dan";
  moment = 1610;
  reason = Some (codes "left out");
}

abbrev pub amended : Version
amended = record bare_version {
  format = format.Two false;
  origin = record {
    number = 2;
    amendment = Some (record {
      previous = digest_of (codes "aqua") (aqua_record 2 (codes "S2") (older_version ∷ [])) older_version;
      reason = codes "left out";
    });
  };
  opener = codes "dan";
  opened = 1610;
  rows = left_out ∷ [];
}

abbrev with_amended : Tables
with_amended = put_entry
    (entry (pos 6) (pos 9) 1 (codes "lead") (codes "3.10") (codes "mg/L") (pos 2) 1610 (Some (codes "left out")))
    (put_version (version (pos 9) (pos 1) 2 2 (pos 2) 1610 (Some (codes "left out"))) file)

abbrev pub reopened : Tables
reopened = set_current (pos 1) 2 with_amended

pub known_version : Applies (codes "aqua") (VersionOpened 2 amended) file reopened × Becomes (VersionOpened 2 amended) reopened
known_version = (
  record {
    lab = aqua_row;
    found = refl;
    made = record {
      kept = filed (pos 1) (pos 7) 2 (pos 1) (codes "water") (codes "S2") 1;
      found = refl;
      opened = with_amended;
      added = record {
        id = pos 9;
        free = refl;
        opener = pos 2;
        named = refl;
        entered = with_amended;
        rows = (with_amended, record { id = pos 6; free = refl; person = pos 2; named = refl; made = refl }, refl);
        signatures = refl;
      };
      current = refl;
    };
  },
  (refl, refl),
)

-- ---- a signature of that record's first version

abbrev pub rejected : Signature
rejected = record bare_signature {
  person = codes "eve";
  name = codes "Eve Eden";
  meaning = Rejection (codes "empty");
  moment = 1620;
  digest = filled 32 30;
  seal = filled 32 31;
}

abbrev pub signed : Tables
signed = put_signature
    (signature (pos 50) (pos 4) 1 (pos 6) (codes "Eve Eden") (codes "rejection") 1620 (Some (codes "empty")) (filled 32 30) (filled 32 31))
    file

pub known_signature : Applies (codes "aqua") (SignatureAdded 2 1 rejected) file signed × Becomes (SignatureAdded 2 1 rejected) signed
known_signature = (
  record {
    lab = aqua_row;
    found = refl;
    made = record {
      kept = filed (pos 1) (pos 7) 2 (pos 1) (codes "water") (codes "S2") 1;
      found = refl;
      signed = pos 4;
      there = refl;
      added = record { id = pos 50; free = refl; person = pos 6; named = refl; made = refl };
    };
  },
  (refl, refl),
)

-- ---- a row of the trail, and the counter with it

abbrev pub row : Told
row = record bare_told {
  number = 13;
  moment = 1620;
  person = Some (codes "eve");
  action = action.Sign;
  subject = codes "2/1/rejection";
}

abbrev pub noted : Tables
noted = in_lab (pos 7) (λ (one : LabRow). record one { trail = 13 })
    (put_told (told (pos 40) (pos 7) 13 1620 (Some (pos 6)) (codes "sign") (codes "2/1/rejection")) file)

pub known_trail : Applies (codes "aqua") (TrailAdded row) file noted × Becomes (TrailAdded row) noted
known_trail = (
  record {
    lab = aqua_row;
    found = refl;
    made = record { id = pos 40; free = refl; person = Some (pos 6); named = (pos 6, refl, refl); made = refl };
  },
  (refl, refl),
)

-- ---- record 3, with its first version, under an id between the others

abbrev first : Version
first = record bare_version { format = format.Two false; opener = codes "dan"; opened = 1600 }

abbrev pub opened_record : Tables
opened_record = put_version (version (pos 11) (pos 9) 1 2 (pos 2) 1600 None)
    (in_lab (pos 7) (λ (one : LabRow). record one { records = 3 })
    (put_record (filed (pos 9) (pos 7) 3 (pos 1) (codes "water") (codes "S3") 1) file))

pub known_record : Applies (codes "aqua") (RecordAdded (aqua_record 3 (codes "S3") (first ∷ []))) file opened_record
    × Becomes (RecordAdded (aqua_record 3 (codes "S3") (first ∷ []))) opened_record
known_record = (
  record {
    lab = aqua_row;
    found = refl;
    made = record {
      id = pos 9;
      free = refl;
      form = pos 1;
      named = refl;
      versions = (
        opened_record,
        record {
          id = pos 11;
          free = refl;
          opener = pos 2;
          named = refl;
          entered = opened_record;
          rows = refl;
          signatures = refl;
        },
        refl,
      );
    };
  },
  (refl, refl),
)

-- ---- dan's session, which a request came by; brick's of the same token stays

abbrev pub touched : Session
touched = record bare_session {
  number = 1;
  person = codes "dan";
  token = filled 32 41;
  opened = 900;
  last = 1600;
  signed = true;
}

abbrev pub used : Tables
used = set_session (session (pos 3) (pos 7) (pos 2) 1 (filled 32 41) 900 1600 false true) file

pub known_touch : Applies (codes "aqua") (SessionSet touched) file used × Becomes (SessionSet touched) used
known_touch = (
  record {
    lab = aqua_row;
    found = refl;
    made = record { id = pos 3; found = refl; person = pos 2; named = refl; made = refl };
  },
  (refl, refl),
)

-- ---- stray passwords

abbrev pub strayed : Tables
strayed = in_lab (pos 7) (λ (one : LabRow). record one { stray = 3 }) file

pub known_strays : Applies (codes "aqua") (Strays 3) file strayed × Becomes (Strays 3) strayed
known_strays = (record { lab = aqua_row; found = refl; made = refl }, (refl, refl))
