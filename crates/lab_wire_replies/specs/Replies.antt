-- What the body of a reply tells, a line a reply, and its text: JSON (RFC 8259), or of a copy its
-- rows as CSV (RFC 4180).
use Rattle.std.specs.Prelude.{ℕ, List, [], ◌∷◌, codes}
use Rattle.serde_json.specs.Data.{Data, string}
use Rattle.serde_json.specs.Written.{compact_text}
use Rattle.lab_copy_rows.specs.Csv.{csv_text}
use Rattle.lab_records_machine.specs.declared.replies.Reply.{Reply}
use Rattle.lab_records_machine.specs.declared.replies.Reply.TheVariants.{Refused, Card, Opened, Closed, PasswordChanged, PersonDone, HalfTold, RolesSet, Persons, FormMade, FormRead, RecordOpened, Entered, Amended, Signed, RecordRead, VersionRead, Records, Trail, Copied}
use Rattle.lab_wire_replies.specs.Parts.{object_from}
use Rattle.lab_wire_replies.specs.Refusals.{refusal_data}
use Rattle.lab_wire_replies.specs.Persons.{opened_data, closed_data, changed_data, person_done_data, half_data, roles_set_data, persons_data}
use Rattle.lab_wire_replies.specs.Forms.{form_made_data, form_data}
use Rattle.lab_wire_replies.specs.Records.{record_opened_data, entered_data, amended_data, signed_data, record_data, version_data, records_data}
use Rattle.lab_wire_replies.specs.Trails.{trail_data}

-- a laboratory's card
abbrev pub card_data : List ℕ → List ℕ → Data
card_data lab name =
    object_from ((codes "lab", string lab) ∷ (codes "name", string name) ∷ [])

-- what a body tells
pub data Body : Type 0 where
  Json : Data → Body
  Csv : List (List (List ℕ)) → Body

-- of a reply
abbrev pub body_of : Reply → Body
body_of (Refused refusal) = Json (refusal_data refusal)
body_of (Card lab name) = Json (card_data lab name)
body_of (Opened session token due) = Json (opened_data session token due)
body_of (Closed session) = Json (closed_data session)
body_of (PasswordChanged changed) = Json (changed_data changed)
body_of (PersonDone code) = Json (person_done_data code)
body_of (HalfTold half) = Json (half_data half)
body_of (RolesSet code roles) = Json (roles_set_data code roles)
body_of (Persons persons) = Json (persons_data persons)
body_of (FormMade code version) = Json (form_made_data code version)
body_of (FormRead form) = Json (form_data form)
body_of (RecordOpened number version) = Json (record_opened_data number version)
body_of (Entered number version rows digest) = Json (entered_data number version rows digest)
body_of (Amended number version digest) = Json (amended_data number version digest)
body_of (Signed signature state) = Json (signed_data signature state)
body_of (RecordRead read) = Json (record_data read)
body_of (VersionRead read) = Json (version_data read)
body_of (Records records) = Json (records_data records)
body_of (Trail rows) = Json (trail_data rows)
body_of (Copied rows) = Csv rows

-- its text: JSON without blanks, or a row a line
abbrev pub body_text : Body → List ℕ
body_text (Json told) = compact_text told
body_text (Csv rows) = csv_text rows

-- that of a reply
abbrev pub reply_text : Reply → List ℕ
reply_text reply = body_text (body_of reply)
