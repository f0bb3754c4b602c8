-- How one request is received from a reader whose bytes are known, and what is written in between
-- (RFC 9112, sections 2.2 and 6.3; RFC 9110, sections 10.1.1 and 15.2.1). The request is the one
-- that the bytes begin with, as lab_wire_heads has it.
use Rattle.std.specs.Prelude.{◌≡◌, ℕ, ◌<◌, ◌⊎◌, List, [], length, take, IsOk, Option, Result, Ok, Err}
use Rattle.std.specs.Io.KnownBytes.{Appends}
use Rattle.lab_wire_heads.specs.declared.asks.TheConstants.{MOST_ASKS}
use Rattle.lab_wire_heads.specs.declared.refusals.HeadFault.{HeadFault}
use Rattle.lab_wire_heads.specs.declared.refusals.HeadFault.TheVariants.{Refused, Read, Write, Memory}
use Rattle.lab_wire_heads.specs.Requests.{accepted_head, request_in}
use Rattle.lab_wire_heads.specs.Interims.{interim_text}
use Rattle.lab_wire_heads.specs.Receptions.{request_length}

-- how often a reader is asked for one request at most: a request has 73,728 bytes at most, so that
-- single bytes suffice
abbrev pub most_asks : ℕ
most_asks = MOST_ASKS

-- the bytes are one request, and nothing behind it
abbrev pub IsWholeRequest : List ℕ → Type 0
IsWholeRequest bytes = IsOk (request_in bytes) × (request_length bytes ≡ length bytes)

-- What receiving a request comes to, by the bytes that the reader has. A fault of the reader, which
-- also stands for too many asks, can come at any place; one of the writer, only where an interim
-- answer is due; and memory is taken only for a request whose head is accepted.
abbrev pub IsReception : List ℕ → Result (List ℕ) HeadFault → Type 0
IsReception bytes (Ok request) =
    IsOk (request_in bytes) × (request ≡ take (request_length bytes) bytes)
    × (request_in request ≡ request_in bytes)
IsReception bytes (Err (Refused refusal)) = request_in bytes ≡ Err refusal
IsReception bytes (Err Read) = Unit {0}
IsReception bytes (Err (Write sent)) = sent < length (interim_text bytes)
IsReception bytes (Err Memory) = IsOk (accepted_head bytes)

-- The interim lines that are due were written once, or nothing where none are; after a fault of the
-- writer so many bytes of them, and after one of the reader all or none.
abbrev pub IsInterimOf : List ℕ → Result (List ℕ) HeadFault → Option (List ℕ) → Option (List ℕ)
    → Type 0
IsInterimOf lines (Ok request) old new = Appends old new lines
IsInterimOf lines (Err (Refused refusal)) old new = Appends old new lines
IsInterimOf lines (Err Read) old new = Appends old new lines ⊎ Appends old new []
IsInterimOf lines (Err (Write sent)) old new = Appends old new (take sent lines)
IsInterimOf lines (Err Memory) old new = Appends old new lines
