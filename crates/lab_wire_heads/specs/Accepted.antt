-- What is kept of an accepted head, by the bytes from which it was read, and the request that it
-- shows in the bytes that came with its body.
use Rattle.std.specs.Prelude.{◌≡◌, ℕ, ◌≤◌, List, length, drop, Ok, IsUtf8}
use Rattle.httparse.specs.Spans.{span_bytes, IsWithin}
use Rattle.lab_wire_heads.specs.declared.accepted.AcceptedHead.{AcceptedHead}
use Rattle.lab_wire_heads.specs.Heads.{GoodHead, StandsAt}
use Rattle.lab_wire_heads.specs.Tokens.{token_in}
use Rattle.lab_wire_heads.specs.Interims.{expected_of}
use Rattle.lab_wire_heads.specs.Requests.{RequestParts, accepted_head, request_in}

-- what is kept is that of the head at the front of these bytes
pub record IsHeadAt (bytes : List ℕ) (head : AcceptedHead) : Type 0 where
  pub good : GoodHead
  pub accepted : accepted_head bytes ≡ Ok good
  pub method : StandsAt bytes head.method good.head.method
  pub target : StandsAt bytes head.target good.head.target
  pub text : IsUtf8 good.head.target
  pub token : head.token ≡ token_in good.head.fields
  pub end : head.end ≡ good.end
  pub body : head.body ≡ expected_of good

-- what it shows in the bytes
abbrev pub request_at : List ℕ → AcceptedHead → RequestParts
request_at bytes head = record {
  method = span_bytes bytes head.method;
  target = span_bytes bytes head.target;
  token = head.token;
  body = drop head.end bytes;
}

-- the bytes are the request that it shows, and nothing stands behind its body
pub record IsRequestAt (bytes : List ℕ) (head : AcceptedHead) : Type 0 where
  pub method : IsWithin (length bytes) head.method
  pub target : IsWithin (length bytes) head.target
  pub text : IsUtf8 (span_bytes bytes head.target)
  pub end : head.end ≤ length bytes
  pub request : request_in bytes ≡ Ok (request_at bytes head)
