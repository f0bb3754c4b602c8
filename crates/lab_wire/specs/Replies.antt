-- What is answered, and its bytes: the body is JSON (RFC 8259), or a copy as CSV (RFC 4180), and
-- the status may ask for a field (RFC 9110, sections 8.3, 10.2.1 and 11.6.1).
use Rattle.std.specs.Prelude.{ℕ, List, [], ◌++◌, ◌==◌, codes, if◌then◌else◌, Some, None}
use Rattle.serde_json.specs.Written.{compact_text}
use Rattle.lab_forms_texts.specs.declared.tick.Tick.{Tick}
use Rattle.lab_forms_texts.specs.Faults.{Entry, memory_entry}
use Rattle.lab_records_keeper.specs.Faults.{storage_entry}
use Rattle.lab_wire_replies.specs.Refusals.{refused_data}
use Rattle.lab_wire_replies.specs.Replies.{Body as ReplyBody, Json, Csv, body_of, reply_text as body_text}
use Rattle.lab_wire_heads.specs.Messages.{line, message_text}
use Rattle.lab_wire.specs.declared.route_refusals.RouteRefusal.{RouteRefusal}
use Rattle.lab_wire.specs.declared.route_refusals.RouteRefusal.TheVariants.{NoRoute, Method, Body}
use Rattle.lab_wire.specs.RouteRefusals.{allowed_text}
use Rattle.lab_wire.specs.declared.refusals.RequestRefusal.{RequestRefusal}
use Rattle.lab_wire.specs.declared.refusals.RequestRefusal.TheVariants.{Head, Route}
use Rattle.lab_wire.specs.declared.replies.Answer.{Answer}
use Rattle.lab_wire.specs.declared.replies.Answer.TheVariants.{Replied, Refused, Storage}
use Rattle.lab_wire.specs.Refusals.{request_entry}
use Rattle.lab_wire.specs.Statuses.{answer_status, memory_status}

-- ---- the body

-- the types of bodies (RFC 8259, section 11; RFC 4180, section 3)
abbrev pub json_type : List ℕ
json_type = codes "application/json"

abbrev pub csv_type : List ℕ
csv_type = codes "text/csv"

-- that of a reply's
abbrev pub body_type : ReplyBody → List ℕ
body_type (Json told) = json_type
body_type (Csv rows) = csv_type

-- that of an answer's: no refusal is CSV
abbrev pub answer_type : Answer → List ℕ
answer_type (Replied told) = body_type (body_of told)
answer_type (Refused refusal) = json_type
answer_type Storage = json_type

-- a refusal that tells its word and its number alone
abbrev pub entry_text : Entry → List ℕ
entry_text entry = compact_text (refused_data entry [])

-- the body of an answer
abbrev pub answer_text : Answer → List ℕ
answer_text (Replied told) = body_text told
answer_text (Refused refusal) = entry_text (request_entry refusal)
answer_text Storage = entry_text storage_entry

-- ---- the fields that a status asks for

-- for 401: by what a client shows who it is
abbrev pub challenge_field : ℕ → List ℕ
challenge_field status =
    if status == 401 then line (codes "WWW-Authenticate: LabSession") else []

-- for 405: which methods the place has
abbrev pub allow_by_route : RouteRefusal → List ℕ
allow_by_route NoRoute = []
allow_by_route (Method allowed) = line (codes "Allow: " ++ allowed_text allowed)
allow_by_route (Body refusal) = []

abbrev pub allow_by_request : RequestRefusal → List ℕ
allow_by_request (Head refusal) = []
allow_by_request (Route refusal) = allow_by_route refusal

abbrev pub allow_field : Answer → List ℕ
allow_field (Replied told) = []
allow_field (Refused refusal) = allow_by_request refusal
allow_field Storage = []

abbrev pub further_fields : Answer → List ℕ
further_fields answer = challenge_field (answer_status answer) ++ allow_field answer

-- ---- the message

-- the bytes of an answer at a tick
unfoldable pub reply_text : Tick → Answer → List ℕ
reply_text tick answer = message_text (record {
  status = answer_status answer;
  moment = Some tick.moment;
  media_type = answer_type answer;
  further = further_fields answer;
  body = answer_text answer;
})

-- the reply where memory ran out, which is made beforehand and bears no date
unfoldable pub memory_text : List ℕ
memory_text = message_text (record {
  status = memory_status;
  moment = None;
  media_type = json_type;
  further = [];
  body = entry_text memory_entry;
})
