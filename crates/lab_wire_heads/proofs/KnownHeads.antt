-- Real heads, fields, lengths and tokens, so that a wrong rule in the definitions does not check.
use Rattle.std.proofs.Common.{◌≡◌, refl, ℕ, List, [], ◌∷◌, ◌++◌, length, codes, Some, None, Ok, Err, true, false, encode_utf8_all}
use Rattle.std.specs.Str.{is_utf8, all_scalars}
use Rattle.std.proofs.lemmas.Str.{is_utf8-from_IsUtf8}
use Rattle.httparse.specs.Ascii.{crlf_bytes}
use Rattle.httparse.proofs.OnLiterals.{httparse_on_literals}
use Rattle.hex.specs.Hex.{decode_pairs}
use Rattle.lab_seal_hashes.specs.Digits.{bytes_of_digits}
use Rattle.lab_wire_heads.specs.declared.refusals.HeadRefusal.TheVariants.{BadHead, TransferCoding, LengthWanted, BodyTooLong, ShortBody}
use Rattle.lab_wire_heads.specs.Heads.{front_length, without_front, head_length, head_lines, has_end, is_over_limits, Field, field_of, Head, head_of, keeps_host_rule, good_head}
use Rattle.lab_wire_heads.specs.Fields.{count_named, value_named, content_length}
use Rattle.lab_wire_heads.specs.Lengths.{is_digits, body_length, head_refusal}
use Rattle.lab_wire_heads.specs.Tokens.{token_of}
use Rattle.lab_wire_heads.specs.Requests.{accepted_head, request_in}
use Rattle.lab_wire_heads.specs.Interims.{is_interim_due, interim_lines}

abbrev line : List ℕ → List ℕ
line text = text ++ crlf_bytes

-- the head of the example of RFC 9112, section 3, with two lines in front, and a byte behind it
abbrev example : List ℕ
example = line (codes "GET /where?q=now HTTP/1.1") ++ line (codes "Host: www.example.org") ++ line []

pub known_front : (front_length (13 ∷ 10 ∷ 10 ∷ example) ≡ 3) × (without_front (13 ∷ 10 ∷ 10 ∷ example) ≡ example)
known_front = (refl, refl)

pub known_length : head_length (example ++ codes "more") ≡ 52
unfolding head_length
known_length = refl

pub known_fields : (field_of (codes "Host: www.example.org") ≡ record { name = codes "Host"; value = codes "www.example.org" })
    × (field_of (codes "Content-Length:2  ") ≡ record { name = codes "Content-Length"; value = codes "2" })
    × (field_of (codes "Expect:") ≡ record { name = codes "Expect"; value = [] })
unfolding httparse_on_literals
known_fields = (refl, refl, refl)

-- characters below 128 are their own bytes
plain : (text : List ℕ) → all_scalars text ≡ true → encode_utf8_all text ≡ text → is_utf8 text ≡ true
plain text scalars same = is_utf8-from_IsUtf8 text (text, (scalars, same))

pub known_head : head_of example ≡ Some (record {
  method = codes "GET";
  target = codes "/where?q=now";
  version = codes "HTTP/1.1";
  fields = record { name = codes "Host"; value = codes "www.example.org" } ∷ [];
})
unfolding head_of has_end head_lines httparse_on_literals lib.Utf8.encode
known_head = rw (plain (codes "/where?q=now") refl refl)

-- ---- fields and lengths

abbrev field : List ℕ → List ℕ → Field
field name value = record { name = name; value = value }

abbrev two : List Field
two = field (codes "HOST") [] ∷ field (codes "content-LENGTH") (codes "12") ∷ field (codes "Content-Length") (codes "13") ∷ []

pub known_names : (count_named content_length two ≡ 2) × (value_named content_length two ≡ Some (codes "12"))
    × (count_named (codes "expect") two ≡ 0) × (value_named (codes "expect") two ≡ None)
known_names = (refl, refl, refl, refl)

pub known_digits : (is_digits (codes "5") ≡ true) × (is_digits (codes "0005") ≡ true)
    × (is_digits (codes "123456789012345678901234567890") ≡ true) × (is_digits [] ≡ false)
    × (is_digits (codes "+5") ≡ false) × (is_digits (codes "-5") ≡ false) × (is_digits (codes "5 5") ≡ false)
    × (is_digits (codes "5a") ≡ false)
known_digits = (refl, refl, refl, refl, refl, refl, refl, refl)

-- the fields with this length
abbrev with_length : List ℕ → List Field
with_length value = field (codes "Content-Length") value ∷ []

pub known_lengths : (body_length [] ≡ 0) × (body_length (with_length (codes "0005")) ≡ 5)
    × (body_length (with_length (codes "65537")) ≡ 65537)
    × (body_length (with_length (codes "123456789012345678901234567890")) ≡ 123456789012345678901234567890)
unfolding body_length
known_lengths = (refl, refl, refl, refl)

-- a head of HTTP/1.1 with this method and these fields
abbrev head : List ℕ → List Field → Head
head method fields =
    record { method = method; target = codes "/labs/aqua"; version = codes "HTTP/1.1"; fields = fields }

-- what a head with these fields is refused for
abbrev coded : List Field → List Field
coded fields = field (codes "Transfer-Encoding") (codes "chunked") ∷ fields

abbrev asking : List Field
asking = field (codes "Authorization") [] ∷ field (codes "authorization") [] ∷ []

pub known_refusals : (head_refusal (head (codes "GET") []) ≡ None)
    × (head_refusal (head (codes "POST") []) ≡ Some LengthWanted)
    × (head_refusal (head (codes "post") []) ≡ None)
    × (head_refusal (head (codes "GET") (coded [])) ≡ Some TransferCoding)
    × (head_refusal (head (codes "GET") (coded asking)) ≡ Some BadHead)
    × (head_refusal (head (codes "GET") (coded two)) ≡ Some BadHead)
    × (head_refusal (head (codes "POST") (coded (with_length (codes "+5")))) ≡ Some TransferCoding)
    × (head_refusal (head (codes "GET") (with_length (codes "+5"))) ≡ Some BadHead)
    × (head_refusal (head (codes "POST") (with_length (codes "65536"))) ≡ None)
    × (head_refusal (head (codes "POST") (with_length (codes "65537"))) ≡ Some BodyTooLong)
    × (head_refusal (head (codes "POST") (with_length (codes "123456789012345678901234567890"))) ≡ Some BodyTooLong)
unfolding head_refusal body_length
known_refusals = (refl, refl, refl, refl, refl, refl, refl, refl, refl, refl, refl)

-- ---- tokens

abbrev digits : List ℕ
digits = codes "000102030405060708090a0b0c0d0e0f000102030405060708090a0b0c0d0e0f"

abbrev sixteen : List ℕ
sixteen = 0 ∷ 1 ∷ 2 ∷ 3 ∷ 4 ∷ 5 ∷ 6 ∷ 7 ∷ 8 ∷ 9 ∷ 10 ∷ 11 ∷ 12 ∷ 13 ∷ 14 ∷ 15 ∷ []

pub known_tokens : (token_of (codes "LabSession " ++ digits) ≡ Some (sixteen ++ sixteen))
    × (token_of (codes "labsession " ++ digits) ≡ Some (sixteen ++ sixteen))
    × (token_of (codes "LabSession  " ++ digits) ≡ None) × (token_of (codes "LabSession" ++ digits) ≡ None)
    × (token_of (codes "Bearer " ++ digits) ≡ None) × (token_of (codes "LabSession 0" ++ digits) ≡ None)
    × (token_of (codes "LabSession ") ≡ None) × (token_of [] ≡ None)
    × (token_of (codes "LabSession 000102030405060708090A0B0C0D0E0F000102030405060708090a0b0c0d0e0f") ≡ None)
unfolding token_of bytes_of_digits decode_pairs
known_tokens = (refl, refl, refl, refl, refl, refl, refl, refl, refl)

-- ---- requests

abbrev waiting : List Field
waiting = field (codes "expect") (codes "100-Continue") ∷ []

pub known_interims : (is_interim_due (head (codes "POST") (waiting ++ with_length (codes "1"))) ≡ true)
    × (is_interim_due (head (codes "POST") (waiting ++ with_length (codes "0"))) ≡ false)
    × (is_interim_due (head (codes "POST") waiting) ≡ false)
    × (is_interim_due (head (codes "POST") (with_length (codes "1"))) ≡ false)
    × (is_interim_due (head (codes "POST") (field (codes "Expect") (codes "100-continue, x") ∷ with_length (codes "1"))) ≡ false)
    × (length interim_lines ≡ 25)
unfolding body_length
known_interims = (refl, refl, refl, refl, refl, refl)

abbrev posted : List ℕ
posted = line (codes "POST /labs/aqua/open HTTP/1.0") ++ line (codes "Content-Length: 2") ++ line []

pub known_request : request_in (posted ++ codes "{}more") ≡ Ok (record {
  method = codes "POST";
  target = codes "/labs/aqua/open";
  token = None;
  body = codes "{}";
})
unfolding request_in accepted_head head_refusal body_length good_head is_over_limits keeps_host_rule head_of has_end head_lines head_length Rattle.lab_wire_heads.specs.Tokens.token_in httparse_on_literals lib.Utf8.encode
known_request = rw (plain (codes "/labs/aqua/open") refl refl)

pub known_short_body : request_in (posted ++ codes "{") ≡ Err ShortBody
unfolding request_in accepted_head head_refusal body_length good_head is_over_limits keeps_host_rule head_of has_end head_lines head_length httparse_on_literals lib.Utf8.encode
known_short_body = rw (plain (codes "/labs/aqua/open") refl refl)

pub no_host : request_in (line (codes "GET /labs/aqua HTTP/1.1") ++ line []) ≡ Err BadHead
unfolding request_in accepted_head good_head is_over_limits keeps_host_rule head_of has_end head_lines head_length httparse_on_literals lib.Utf8.encode
no_host = rw (plain (codes "/labs/aqua") refl refl)
