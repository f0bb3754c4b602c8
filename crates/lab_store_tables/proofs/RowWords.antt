-- Definitions for proofs only, which belong to specs/Rows.antt: no clause names them.
use Rattle.std.proofs.Common.{pos, false, [], None}
use Rattle.sqlite_value.specs.Order.{Row}
use Rattle.lab_store_tables.specs.Family.{Desk, Labs, Persons, Sessions, Forms, Fields, Choices, Records, Versions, Entries, Signatures, Trail}
use Rattle.lab_store_tables.proofs.FamilyWords.{stored_row, read_row}
use Rattle.lab_store_tables.specs.RowRecords.{DeskRow, LabRow, PasswordColumns, AskColumns, PersonRow, SessionRow, FormRow, KindColumns, FieldRow, ChoiceRow, RecordRow, VersionRow, EntryRow, SignatureRow, TrailRow}

abbrev pub desk_row : DeskRow → Row
desk_row = stored_row Desk

abbrev pub desk_from : Row → DeskRow
desk_from = read_row Desk

abbrev pub lab_row : LabRow → Row
lab_row = stored_row Labs

abbrev pub lab_from : Row → LabRow
lab_from = read_row Labs

abbrev pub person_row : PersonRow → Row
person_row = stored_row Persons

abbrev pub person_from : Row → PersonRow
person_from = read_row Persons

abbrev pub session_row : SessionRow → Row
session_row = stored_row Sessions

abbrev pub session_from : Row → SessionRow
session_from = read_row Sessions

abbrev pub form_row : FormRow → Row
form_row = stored_row Forms

abbrev pub form_from : Row → FormRow
form_from = read_row Forms

abbrev pub field_row : FieldRow → Row
field_row = stored_row Fields

abbrev pub field_from : Row → FieldRow
field_from = read_row Fields

abbrev pub choice_row : ChoiceRow → Row
choice_row = stored_row Choices

abbrev pub choice_from : Row → ChoiceRow
choice_from = read_row Choices

abbrev pub record_row : RecordRow → Row
record_row = stored_row Records

abbrev pub record_from : Row → RecordRow
record_from = read_row Records

abbrev pub version_row : VersionRow → Row
version_row = stored_row Versions

abbrev pub version_from : Row → VersionRow
version_from = read_row Versions

abbrev pub entry_row : EntryRow → Row
entry_row = stored_row Entries

abbrev pub entry_from : Row → EntryRow
entry_from = read_row Entries

abbrev pub signature_row : SignatureRow → Row
signature_row = stored_row Signatures

abbrev pub signature_from : Row → SignatureRow
signature_from = read_row Signatures

abbrev pub trail_row : TrailRow → Row
trail_row = stored_row Trail

abbrev pub trail_from : Row → TrailRow
trail_from = read_row Trail

-- ---- rows with nothing in them: known rows are updates of these, so that a new column stands here alone

abbrev pub no_desk : DeskRow
no_desk = record { id = pos 0; number = 0 }

abbrev pub no_lab : LabRow
no_lab = record {
  id = pos 0;
  code = [];
  name = [];
  last = 0;
  stray = 0;
  records = 0;
  sessions = 0;
  trail = 0;
}

abbrev pub no_password : PasswordColumns
no_password = record {
  kind = 0;
  salt = None;
  rounds = None;
  bytes = None;
  salt2 = None;
  rounds2 = None;
  bytes2 = None;
  changed = None;
}

abbrev pub no_ask : AskColumns
no_ask = record { asker = None; asked = None; salt = None; rounds = None; bytes = None }

abbrev pub no_person : PersonRow
no_person = record {
  id = pos 0;
  lab = pos 0;
  code = [];
  name = [];
  roles = 0;
  retired = false;
  failures = 0;
  locked = None;
  password = no_password;
  ask = no_ask;
}

abbrev pub no_session : SessionRow
no_session = record {
  id = pos 0;
  lab = pos 0;
  person = pos 0;
  number = 0;
  token = [];
  opened = 0;
  last = 0;
  closed = false;
  signed = false;
}

abbrev pub no_form : FormRow
no_form = record { id = pos 0; lab = pos 0; code = []; version = 0; approval = false }

abbrev pub no_kind : KindColumns
no_kind = record { word = []; unit = None; decimals = None; low = None; high = None; size = None }

abbrev pub no_field : FieldRow
no_field = record {
  id = pos 0;
  form = pos 0;
  place = 0;
  key = [];
  label = [];
  required = false;
  kind = no_kind;
}

abbrev pub no_choice : ChoiceRow
no_choice = record { id = pos 0; field = pos 0; place = 0; name = [] }

abbrev pub no_record : RecordRow
no_record = record {
  id = pos 0;
  lab = pos 0;
  number = 0;
  form = pos 0;
  form_code = [];
  sample = [];
  current = 0;
}

abbrev pub no_version : VersionRow
no_version = record {
  id = pos 0;
  kept = pos 0;
  number = 0;
  format = 0;
  opener = pos 0;
  opened = 0;
  reason = None;
}

abbrev pub no_entry : EntryRow
no_entry = record {
  id = pos 0;
  version = pos 0;
  place = 0;
  key = [];
  value = [];
  unit = [];
  person = pos 0;
  moment = 0;
  reason = None;
}

abbrev pub no_signature : SignatureRow
no_signature = record {
  id = pos 0;
  version = pos 0;
  place = 0;
  person = pos 0;
  name = [];
  meaning = [];
  moment = 0;
  reason = None;
  digest = [];
  seal = [];
}

abbrev pub no_told : TrailRow
no_told = record {
  id = pos 0;
  lab = pos 0;
  number = 0;
  moment = 0;
  person = None;
  action = [];
  subject = [];
}
