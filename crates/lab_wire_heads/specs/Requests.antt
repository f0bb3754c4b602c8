-- A request as it was received, or why its bytes are none: the limits of its head, its grammar,
-- Host, the checks of its fields, and its body, in this order (RFC 9112, sections 2 to 6).
use Rattle.std.specs.Prelude.{ℕ, ◌+◌, nat_le, List, length, take, drop, if◌then◌else◌, Option, Some, None, Result, Ok, Err}
use Rattle.lab_wire_heads.specs.declared.refusals.HeadRefusal.{HeadRefusal}
use Rattle.lab_wire_heads.specs.declared.refusals.HeadRefusal.TheVariants.{ShortBody}
use Rattle.lab_wire_heads.specs.declared.requests.RequestParts.{RequestParts as Borrowed}
use Rattle.lab_wire_heads.specs.Heads.{GoodHead, good_head}
use Rattle.lab_wire_heads.specs.Lengths.{body_length, head_refusal}
use Rattle.lab_wire_heads.specs.Tokens.{token_in}

-- ---- the head

-- a good head, by what the checks of its fields find
abbrev pub unless_refused : GoodHead → Option HeadRefusal → Result GoodHead HeadRefusal
unless_refused good None = Ok good
unless_refused good (Some refusal) = Err refusal

abbrev pub head_accepted : Result GoodHead HeadRefusal → Result GoodHead HeadRefusal
head_accepted (Ok good) = unless_refused good (head_refusal good.head)
head_accepted (Err refusal) = Err refusal

-- the head of a request that is accepted: its body may be read
unfoldable pub accepted_head : List ℕ → Result GoodHead HeadRefusal
accepted_head bytes = head_accepted (good_head bytes)

-- ---- the body

-- where the body ends
abbrev pub body_end : GoodHead → ℕ
body_end good = good.end + body_length good.head.fields

-- the bytes behind the head, as many as it states
abbrev pub body_in : List ℕ → GoodHead → List ℕ
body_in bytes good = take (body_length good.head.fields) (drop good.end bytes)

-- ---- the request

-- what is looked at of a request
pub record RequestParts : Type 0 where
  pub method : List ℕ
  pub target : List ℕ
  pub token : Option (List ℕ)
  pub body : List ℕ

-- as the code has it
abbrev pub parts_shown : Borrowed → RequestParts
parts_shown parts = record {
  method = parts.method.now;
  target = parts.target.now;
  token = parts.token;
  body = parts.body.now;
}

-- of an accepted head, and the body
abbrev pub request_by : GoodHead → List ℕ → RequestParts
request_by good body = record {
  method = good.head.method;
  target = good.head.target;
  token = token_in good.head.fields;
  body = body;
}

-- the body has to come whole
abbrev pub request_after : List ℕ → Result GoodHead HeadRefusal → Result RequestParts HeadRefusal
request_after bytes (Ok good) =
    if nat_le (body_end good) (length bytes) then Ok (request_by good (body_in bytes good))
    else Err ShortBody
request_after bytes (Err refusal) = Err refusal

-- the request at the front of the bytes; what follows its body is nothing of it
unfoldable pub request_in : List ℕ → Result RequestParts HeadRefusal
request_in bytes = request_after bytes (accepted_head bytes)
