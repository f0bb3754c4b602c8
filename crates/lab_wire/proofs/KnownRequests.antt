-- Whole answers as the documents of the interface write them, so that a wrong rule in the definitions does not check.
use Rattle.std.proofs.Common.{◌≡◌, refl, ℕ, List, [], ◌∷◌, ◌++◌, codes}
use Rattle.std.specs.Fmt.{digits}
use Rattle.csv.specs.Writing.{fields_text, is_blank}
use Rattle.serde_json.proofs.OnLiterals.{serde_json_on_literals}
use Rattle.lab_forms_texts.specs.Calendar.{year_of, place_in_year, month_of, day_of_month, weekday_of, hour_of, minute_of, second_of, span_of, place_of}
use Rattle.lab_forms_texts.specs.declared.tick.Tick.{Tick}
use Rattle.lab_people_access.specs.declared.refusals.PeopleRefusal.TheVariants.{NoSession}
use Rattle.lab_records_rules.specs.declared.refusals.Refusal.TheVariants as rules
use Rattle.lab_wire_heads.specs.declared.refusals.HeadRefusal.TheVariants.{HeadTooLong}
use Rattle.lab_records_machine.specs.declared.replies.Reply.TheVariants as reply
use Rattle.lab_wire_heads.specs.Dates.{imf_fixdate}
use Rattle.lab_wire_heads.specs.Messages.{line, message_text}
use Rattle.lab_wire.specs.declared.route_refusals.Allowed.TheVariants.{Get, GetOrPost}
use Rattle.lab_wire.specs.declared.route_refusals.RouteRefusal.TheVariants.{Method}
use Rattle.lab_wire.specs.declared.refusals.RequestRefusal.TheVariants.{Head, Route}
use Rattle.lab_wire.specs.declared.replies.Answer.TheVariants.{Replied, Refused, Storage}
use Rattle.lab_wire.specs.Replies.{reply_text, memory_text}

-- the moment of the example of RFC 9110, section 5.6.7
abbrev tick : Tick
tick = record { moment = 784111777; words = 1 ∷ 1 ∷ 1 ∷ 1 ∷ 1 ∷ 1 ∷ 1 ∷ 1 ∷ [] }

-- a whole message: its status line, the length of its body, its further field lines, and its body
abbrev message : List ℕ → List ℕ → List ℕ → List ℕ → List ℕ
message status size further body =
    line status
    ++ line (codes "Date: Sun, 06 Nov 1994 08:49:37 GMT")
    ++ line (codes "Content-Type: application/json")
    ++ line (codes "Content-Length: " ++ size)
    ++ line (codes "Connection: close")
    ++ further
    ++ line []
    ++ body

pub known_card : reply_text tick (Replied (reply.Card (codes "aqua") (codes "Aqua Lab")))
    ≡ message (codes "HTTP/1.1 200 OK") (codes "32") [] (codes "{\"lab\":\"aqua\",\"name\":\"Aqua Lab\"}")
unfolding reply_text message_text serde_json_on_literals digits imf_fixdate year_of place_in_year month_of day_of_month weekday_of hour_of minute_of second_of span_of place_of
known_card = refl

-- who it is that asks has to be shown
pub known_challenge : reply_text tick (Replied (reply.Refused (rules.People NoSession)))
    ≡ message (codes "HTTP/1.1 401 Unauthorized") (codes "34") (line (codes "WWW-Authenticate: LabSession"))
    (codes "{\"error\":\"no_session\",\"number\":22}")
unfolding reply_text message_text serde_json_on_literals digits imf_fixdate year_of place_in_year month_of day_of_month weekday_of hour_of minute_of second_of span_of place_of
known_challenge = refl

-- the methods of a place
pub known_allow : (reply_text tick (Refused (Route (Method Get)))
    ≡ message (codes "HTTP/1.1 405 Method Not Allowed") (codes "30") (line (codes "Allow: GET"))
    (codes "{\"error\":\"method\",\"number\":87}"))
    × (reply_text tick (Refused (Route (Method GetOrPost)))
    ≡ message (codes "HTTP/1.1 405 Method Not Allowed") (codes "30") (line (codes "Allow: GET, POST"))
    (codes "{\"error\":\"method\",\"number\":87}"))
unfolding reply_text message_text serde_json_on_literals digits imf_fixdate year_of place_in_year month_of day_of_month weekday_of hour_of minute_of second_of span_of place_of
known_allow = (refl, refl)

pub known_refusals : (reply_text tick (Refused (Head HeadTooLong))
    ≡ message (codes "HTTP/1.1 431 Request Header Fields Too Large") (codes "37") []
    (codes "{\"error\":\"head_too_long\",\"number\":81}"))
    × (reply_text tick Storage
    ≡ message (codes "HTTP/1.1 503 Service Unavailable") (codes "31") []
    (codes "{\"error\":\"storage\",\"number\":63}"))
unfolding reply_text message_text serde_json_on_literals digits imf_fixdate year_of place_in_year month_of day_of_month weekday_of hour_of minute_of second_of span_of place_of
known_refusals = (refl, refl)

-- the rows of a copy of no records
abbrev no_records : List (List (List ℕ))
no_records =
    (codes "kind" ∷ codes "lab" ∷ codes "record" ∷ codes "version" ∷ codes "key" ∷ codes "value" ∷ codes "unit"
    ∷ codes "person" ∷ codes "name" ∷ codes "moment" ∷ codes "reason" ∷ codes "digest" ∷ codes "seal" ∷ [])
    ∷ (codes "copy" ∷ codes "aqua" ∷ codes "3" ∷ codes "5" ∷ codes "2" ∷ [] ∷ [] ∷ codes "hal" ∷ codes "Aqua Lab"
    ∷ codes "1970-01-01T01:23:20Z" ∷ [] ∷ [] ∷ [] ∷ [])
    ∷ (codes "end" ∷ codes "aqua" ∷ codes "0" ∷ codes "0" ∷ codes "0" ∷ codes "0" ∷ [] ∷ [] ∷ [] ∷ [] ∷ [] ∷ [] ∷ []
    ∷ [])
    ∷ []

-- a copy is CSV
pub known_copy : reply_text tick (Replied (reply.Copied no_records))
    ≡ line (codes "HTTP/1.1 200 OK")
    ++ line (codes "Date: Sun, 06 Nov 1994 08:49:37 GMT")
    ++ line (codes "Content-Type: text/csv")
    ++ line (codes "Content-Length: 156")
    ++ line (codes "Connection: close")
    ++ line []
    ++ codes "kind,lab,record,version,key,value,unit,person,name,moment,reason,digest,seal\n"
    ++ codes "copy,aqua,3,5,2,,,hal,Aqua Lab,1970-01-01T01:23:20Z,,,\nend,aqua,0,0,0,0,,,,,,,\n"
unfolding reply_text message_text fields_text is_blank digits imf_fixdate year_of place_in_year month_of day_of_month weekday_of hour_of minute_of second_of span_of place_of
known_copy = refl

-- the reply where memory ran out has no date
pub known_memory : memory_text
    ≡ line (codes "HTTP/1.1 503 Service Unavailable")
    ++ line (codes "Content-Type: application/json")
    ++ line (codes "Content-Length: 30")
    ++ line (codes "Connection: close")
    ++ line []
    ++ codes "{\"error\":\"memory\",\"number\":90}"
unfolding memory_text message_text serde_json_on_literals digits
known_memory = refl
