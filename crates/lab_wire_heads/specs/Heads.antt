-- The head of a request as lines and words that compute: where it ends, how long it may be, and
-- what its request line and field lines are (RFC 9112, sections 2.1, 2.2, 3 and 5; RFC 9110,
-- sections 5.1 and 7.2). The classes of bytes are those of the kit's `httparse`.
use Rattle.std.specs.Prelude.{◌≡◌, ℕ, suc, ◌+◌, Bool, true, false, ◌&&◌, ◌||◌, not, List, [], ◌∷◌, length, take, if◌then◌else◌, ◌==◌, nat_lt, nat_le, map, count_by, take_while, All, Option, Some, None, Result, Ok, Err, codes, IsUtf8}
use Rattle.std.specs.List.{list_all, list_any, slice_split, before_first, after_first}
use Rattle.std.specs.Str.{is_utf8, bytes_eq, str_eq_ignore_ascii_case}
use Rattle.std.specs.Str.Lines.{strip_carriage_return}
use Rattle.httparse.specs.Ascii.{line_feed, carriage_return, space, colon}
use Rattle.httparse.specs.Grammar.{is_token, is_uri_byte, is_value_byte, trim_ows, print_version}
use Rattle.httparse.specs.Spans.{span_bytes, IsWithin, IsHeaderWithin}
use Rattle.httparse.specs.declared.spans.HeaderSpan.{HeaderSpan}
use Rattle.httparse.specs.declared.spans.Span.{Span}
use Rattle.httparse.specs.Pieces.{is_newline}
use Rattle.lab_wire_heads.specs.declared.heads.RequestHead.{RequestHead}
use Rattle.lab_wire_heads.specs.declared.heads.TheConstants.{HEAD_LIMIT, FIELD_LIMIT}
use Rattle.lab_wire_heads.specs.declared.refusals.HeadRefusal.{HeadRefusal}
use Rattle.lab_wire_heads.specs.declared.refusals.HeadRefusal.TheVariants.{BadHead, HeadTooLong}

-- how many bytes may come before the end of a head, those that are dropped counted
abbrev pub head_limit : ℕ
head_limit = HEAD_LIMIT

-- how many field lines a head may have
abbrev pub field_limit : ℕ
field_limit = FIELD_LIMIT

-- the bytes from the first that is neither CR nor LF: a server passes over empty lines before a
-- request line
abbrev pub without_front : List ℕ → List ℕ
without_front [] = []
without_front (b ∷ bytes) = if is_newline b then without_front bytes else b ∷ bytes

-- how many bytes are passed over so
abbrev pub front_length : List ℕ → ℕ
front_length [] = 0
front_length (b ∷ bytes) = if is_newline b then suc (front_length bytes) else 0

-- what is read of the bytes: those within the limit, from the request line on
abbrev pub head_text : List ℕ → List ℕ
head_text bytes = without_front (take head_limit bytes)

-- the byte that ends a line
abbrev pub is_line_feed : ℕ → Bool
is_line_feed b = b == line_feed

-- all but the last
abbrev pub but_last : List (List ℕ) → List (List ℕ)
but_last [] = []
but_last (line ∷ []) = []
but_last (line ∷ next ∷ lines) = line ∷ but_last (next ∷ lines)

-- the lines that LF has ended, each without it
abbrev pub ended_lines : List ℕ → List (List ℕ)
ended_lines text = but_last (slice_split is_line_feed text)

-- nothing stands before LF, or CR alone
abbrev pub is_empty_line : List ℕ → Bool
is_empty_line [] = true
is_empty_line (b ∷ []) = b == carriage_return
is_empty_line (b ∷ c ∷ line) = false

-- the head's lines: those before the first empty one
unfoldable pub head_lines : List ℕ → List (List ℕ)
head_lines text = take_while (λ line. not (is_empty_line line)) (ended_lines text)

-- whether the empty line has come
unfoldable pub has_end : List ℕ → Bool
has_end text = list_any is_empty_line (ended_lines text)

-- how many bytes the lines take up to the first empty one, each with its LF
abbrev pub lines_length : List (List ℕ) → ℕ
lines_length [] = 0
lines_length (line ∷ lines) =
    length line + 1 + (if is_empty_line line then 0 else lines_length lines)

-- how many bytes the head takes, from its request line to the end of its empty line
unfoldable pub head_length : List ℕ → ℕ
head_length text = lines_length (ended_lines text)

-- so many bytes have come that a head must have ended and has not, or it has more field lines than
-- may stand below the request line
unfoldable pub is_over_limits : ℕ → List ℕ → Bool
is_over_limits came text =
    (nat_le head_limit came && not (has_end text))
    || nat_lt (1 + field_limit) (length (head_lines text))

-- the words between single spaces
abbrev pub words : List ℕ → List (List ℕ)
words line = slice_split (λ b. b == space) line

-- 1*VCHAR, or bytes past ASCII that are UTF-8
abbrev pub is_target : List ℕ → Bool
is_target target = nat_lt 0 (length target) && list_all is_uri_byte target && is_utf8 target

-- HTTP/1.1
abbrev pub is_version_1_1 : List ℕ → Bool
is_version_1_1 version = bytes_eq version (codes "HTTP/1.1")

-- HTTP/1.0 or HTTP/1.1
abbrev pub is_version : List ℕ → Bool
is_version version = bytes_eq version (codes "HTTP/1.0") || is_version_1_1 version

-- what stands before the first colon
abbrev pub field_name : List ℕ → List ℕ
field_name line = before_first (λ b. b == colon) line

-- what stands behind it, without the spaces and tabs at its ends
abbrev pub field_value : List ℕ → List ℕ
field_value line = trim_ows (after_first (λ b. b == colon) line)

-- field-line = field-name ":" OWS field-value OWS
abbrev pub is_field_line : List ℕ → Bool
is_field_line line =
    is_token (field_name line) && nat_lt (length (field_name line)) (length line)
    && list_all is_value_byte (after_first (λ b. b == colon) line)

-- Host, in any case
abbrev pub is_host : List ℕ → Bool
is_host name = str_eq_ignore_ascii_case name (codes "host")

-- a field of a head
pub record Field : Type 0 where
  pub name : List ℕ
  pub value : List ℕ

abbrev pub field_of : List ℕ → Field
field_of line = record { name = field_name line; value = field_value line }

-- a head that was read: the words of its request line, and its fields in order
pub record Head : Type 0 where
  pub method : List ℕ
  pub target : List ℕ
  pub version : List ℕ
  pub fields : List Field

-- method SP request-target SP HTTP-version, and then field lines
abbrev pub is_head : List ℕ → List ℕ → List ℕ → List (List ℕ) → Bool
is_head method target version lines =
    is_token method && is_target target && is_version version && list_all is_field_line lines

-- the head of the three words and the field lines, if it is one
abbrev pub head_of_words : List (List ℕ) → List (List ℕ) → Option Head
head_of_words (method ∷ target ∷ version ∷ []) lines =
    if is_head method target version lines
    then Some (record {
      method = method;
      target = target;
      version = version;
      fields = map field_of lines;
    })
    else None
head_of_words _ lines = None

-- the head of the lines, if they are one
abbrev pub head_of_lines : List (List ℕ) → Option Head
head_of_lines [] = None
head_of_lines (line ∷ lines) = head_of_words (words line) lines

-- the head at the front of the text, if one has come whole: its lines, each without the CR before
-- its LF
unfoldable pub head_of : List ℕ → Option Head
head_of text =
    if has_end text then head_of_lines (map strip_carriage_return (head_lines text)) else None

-- how many of the fields are Host
abbrev pub host_count : List Field → ℕ
host_count fields = count_by (λ (field : Field). is_host field.name) fields

-- HTTP/1.1 wants exactly one Host
unfoldable pub keeps_host_rule : Head → Bool
keeps_host_rule head = not (is_version_1_1 head.version) || host_count head.fields == 1

-- a head that is good, and how many bytes stand before what follows it
pub record GoodHead : Type 0 where
  pub head : Head
  pub end : ℕ

-- the head that was read and ends there, if it keeps that rule
abbrev pub checked_head : ℕ → Option Head → Result GoodHead HeadRefusal
checked_head end None = Err BadHead
checked_head end (Some head) =
    if keeps_host_rule head then Ok (record { head = head; end = end }) else Err BadHead

-- where the head of a request ends, the bytes that are passed over counted
abbrev pub head_end : List ℕ → ℕ
head_end bytes = front_length (take head_limit bytes) + head_length (head_text bytes)

-- the head of a request, or why there is none
unfoldable pub good_head : List ℕ → Result GoodHead HeadRefusal
good_head bytes =
    if is_over_limits (length bytes) (head_text bytes) then Err HeadTooLong
    else checked_head (head_end bytes) (head_of (head_text bytes))

-- the field that a span covers
abbrev pub field_at : List ℕ → HeaderSpan → Field
field_at text span = record { name = span_bytes text span.name; value = span_bytes text span.value }

-- the good head that the code has read
abbrev pub head_received : RequestHead → GoodHead
head_received read = record {
  head = record {
    method = read.method.now;
    target = read.target.now;
    version = print_version read.minor_version;
    fields = map (field_at read.text.now) (take read.field_count read.fields);
  };
  end = read.end;
}

-- its fields stand in the text
abbrev pub AreWithin : RequestHead → Type 0
AreWithin read = All (IsHeaderWithin (length read.text.now)) (take read.field_count read.fields)

-- the part stands at the span in the bytes
abbrev pub StandsAt : List ℕ → Span → List ℕ → Type 0
StandsAt bytes span part = IsWithin (length bytes) span × (span_bytes bytes span ≡ part)

-- method and target stand at their spans in the bytes that the head was read from, and the target
-- is UTF-8
pub record IsReadFrom (bytes : List ℕ) (read : RequestHead) : Type 0 where
  pub method : StandsAt bytes read.method_span read.method.now
  pub target : StandsAt bytes read.target_span read.target.now
  pub text : IsUtf8 read.target.now
