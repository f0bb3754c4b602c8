-- How many bytes a head and a request take, and that what stands behind them says nothing of
-- either: the division into reads doesn't matter.
use Rattle.std.specs.Prelude.{◌≡◌, ℕ, min, List, ◌++◌, length, take, if◌then◌else◌, IsOk, Result, Ok, Err}
use Rattle.lab_wire_heads.specs.declared.refusals.HeadRefusal.{HeadRefusal}
use Rattle.lab_wire_heads.specs.Heads.{GoodHead, head_limit, head_text, has_end, head_end}
use Rattle.lab_wire_heads.specs.Requests.{accepted_head, body_end, request_in}

-- how far a reader is read for a head: to its end, or else to the limit, or to the last byte
unfoldable pub head_stop : List ℕ → ℕ
head_stop bytes =
    if has_end (head_text bytes) then head_end bytes else min (length bytes) head_limit

-- what stands behind that place says nothing of the head
abbrev pub HeadIsByFront : Type 0
HeadIsByFront = (bytes : List ℕ) →
    accepted_head (take (head_stop bytes) bytes) ≡ accepted_head bytes

-- how many bytes an accepted request takes, its body included
abbrev pub end_after : Result GoodHead HeadRefusal → ℕ
end_after (Ok good) = body_end good
end_after (Err refusal) = 0

unfoldable pub request_length : List ℕ → ℕ
request_length bytes = end_after (accepted_head bytes)

-- what stands behind a request says nothing of it
abbrev pub RequestIsByFront : Type 0
RequestIsByFront = (bytes more : List ℕ) → IsOk (request_in bytes) →
    request_in (bytes ++ more) ≡ request_in bytes

-- and it is the same request by itself
abbrev pub RequestIsItsBytes : Type 0
RequestIsItsBytes = (bytes : List ℕ) → IsOk (request_in bytes) →
    request_in (take (request_length bytes) bytes) ≡ request_in bytes
