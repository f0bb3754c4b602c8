-- Real dates and messages, so that a wrong rule in the definitions does not check.
use Rattle.std.proofs.Common.{◌≡◌, refl, ◌++◌, codes, [], Some, None}
use Rattle.std.specs.Fmt.{digits}
use Rattle.lab_forms_texts.specs.Calendar.{year_of, place_in_year, month_of, day_of_month, weekday_of, hour_of, minute_of, second_of, span_of, place_of}
use Rattle.lab_wire_heads.specs.Dates.{imf_fixdate}
use Rattle.lab_wire_heads.specs.Messages.{line, message_text}

-- the example of RFC 9110, section 5.6.7
pub known_date : imf_fixdate 784111777 ≡ codes "Sun, 06 Nov 1994 08:49:37 GMT"
unfolding imf_fixdate year_of place_in_year month_of day_of_month weekday_of hour_of minute_of second_of span_of place_of
known_date = refl

-- a refusal of a method, without a date
pub known_message : message_text (record {
  status = 405;
  moment = None;
  media_type = codes "application/json";
  further = line (codes "Allow: GET");
  body = codes "{\"error\":\"method\",\"number\":87}";
})
    ≡ line (codes "HTTP/1.1 405 Method Not Allowed") ++ line (codes "Content-Type: application/json")
    ++ line (codes "Content-Length: 30") ++ line (codes "Connection: close") ++ line (codes "Allow: GET")
    ++ line [] ++ codes "{\"error\":\"method\",\"number\":87}"
unfolding message_text digits
known_message = refl

-- the same with a moment
pub known_dated : message_text (record {
  status = 200;
  moment = Some 784111777;
  media_type = codes "text/csv";
  further = [];
  body = [];
})
    ≡ line (codes "HTTP/1.1 200 OK") ++ line (codes "Date: Sun, 06 Nov 1994 08:49:37 GMT")
    ++ line (codes "Content-Type: text/csv") ++ line (codes "Content-Length: 0")
    ++ line (codes "Connection: close") ++ line []
unfolding message_text digits imf_fixdate year_of place_in_year month_of day_of_month weekday_of hour_of minute_of second_of span_of place_of
known_dated = refl
