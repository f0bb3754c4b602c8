-- The bytes of a reply's message (RFC 9112, sections 2 to 6; docs/HTTP.md has the field lines and
-- their order).
use Rattle.std.specs.Prelude.{ℕ, List, [], ◌++◌, length, decimal, codes, Option, Some, None}
use Rattle.http.specs.StatusCode.{status_text}
use Rattle.httparse.specs.Ascii.{crlf_bytes}
use Rattle.lab_wire_heads.specs.Dates.{imf_fixdate}

-- a line of the head ends with CR LF
abbrev pub line : List ℕ → List ℕ
line text = text ++ crlf_bytes

-- the Date field of a moment, where one is given
abbrev pub date_field : Option ℕ → List ℕ
date_field None = []
date_field (Some moment) = line (codes "Date: " ++ imf_fixdate moment)

-- what a message says: its status; its moment, which the reply for lack of memory hasn't; the type
-- of its body; the field lines that its status asks for, each with its end; and its body
pub record Message : Type 0 where
  pub status : ℕ
  pub moment : Option ℕ
  pub media_type : List ℕ
  pub further : List ℕ
  pub body : List ℕ

-- status line, field lines, an empty line and the body
unfoldable pub message_text : Message → List ℕ
message_text message =
    line (codes "HTTP/1.1 " ++ status_text message.status) ++ date_field message.moment
    ++ line (codes "Content-Type: " ++ message.media_type)
    ++ line (codes "Content-Length: " ++ decimal (length message.body))
    ++ line (codes "Connection: close")
    ++ message.further
    ++ line []
    ++ message.body
