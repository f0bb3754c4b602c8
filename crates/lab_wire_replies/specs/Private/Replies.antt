-- What clauses of private functions say beside Replies.antt.
use Rattle.std.specs.Prelude.{◌≡◌, Bool, true, false, ⊤}
use Rattle.serde_json.specs.View.{view}
use Rattle.serde_json.specs.Written.{has_float}
use Rattle.lab_records_machine.specs.declared.replies.Reply.{Reply}
use Rattle.lab_records_machine.specs.declared.replies.Reply.TheVariants.{Copied}
use Rattle.lab_wire_replies.specs.declared.replies.Body.{Body as BodyOfCode}
use Rattle.lab_wire_replies.specs.declared.replies.Body.TheVariants as bodies
use Rattle.lab_wire_replies.specs.Replies.{Body, Json, Csv}

-- as the code has it
abbrev pub body_shown : BodyOfCode → Body
body_shown (bodies.Json value) = Json (view value)
body_shown (bodies.Csv rows) = Csv rows.now

-- whether a reply is told in JSON: all but a copy
abbrev pub is_json : Reply → Bool
is_json (Copied rows) = false
is_json other = true

-- there is no number with a point in it, so that it has one text
abbrev pub HasNoFloat : Body → Type 0
HasNoFloat (Json told) = has_float told ≡ false
HasNoFloat (Csv rows) = ⊤
