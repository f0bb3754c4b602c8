-- The interim answer to a client that waits with its body (RFC 9110, sections 10.1.1 and 15.2.1).
-- The interim answer is due once, between an accepted head and its body.
use Rattle.std.specs.Prelude.{ℕ, Bool, ◌&&◌, nat_lt, List, [], ◌++◌, codes, if◌then◌else◌, Result, Ok, Err}
use Rattle.std.specs.List.{list_any}
use Rattle.std.specs.Str.{str_eq_ignore_ascii_case}
use Rattle.httparse.specs.Ascii.{crlf_bytes}
use Rattle.lab_wire_heads.specs.declared.refusals.HeadRefusal.{HeadRefusal}
use Rattle.lab_wire_heads.specs.declared.expected.ExpectedBody.{ExpectedBody}
use Rattle.lab_wire_heads.specs.Heads.{Field, Head, GoodHead, is_version_1_1}
use Rattle.lab_wire_heads.specs.Fields.{expect, is_named}
use Rattle.lab_wire_heads.specs.Lengths.{body_length}
use Rattle.lab_wire_heads.specs.Requests.{accepted_head}

-- `Expect: 100-continue`, in any case; other expectations are passed over
abbrev pub is_expectation : Field → Bool
is_expectation field =
    is_named expect field && str_eq_ignore_ascii_case field.value (codes "100-continue")

-- HTTP/1.1 alone has interim answers, and none is due where there is no body
abbrev pub is_interim_due : Head → Bool
is_interim_due head =
    is_version_1_1 head.version && list_any is_expectation head.fields
    && nat_lt 0 (body_length head.fields)

-- what is to come behind a good head
abbrev pub expected_of : GoodHead → ExpectedBody
expected_of good = record {
  length = body_length good.head.fields;
  is_interim_due = is_interim_due good.head;
}

-- the status line and an empty line: 25 bytes
abbrev pub interim_lines : List ℕ
interim_lines = codes "HTTP/1.1 100 Continue" ++ crlf_bytes ++ crlf_bytes

abbrev pub interim_after : Result GoodHead HeadRefusal → List ℕ
interim_after (Ok good) = if is_interim_due good.head then interim_lines else []
interim_after (Err refusal) = []

-- what is sent between the head and the body of the request that the bytes begin with: nothing
-- where its head is refused
unfoldable pub interim_text : List ℕ → List ℕ
interim_text bytes = interim_after (accepted_head bytes)
