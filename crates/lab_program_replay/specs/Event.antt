-- The events that `labdesk replay` reads. Each is a line and as many bytes after it as the line's
-- last number says: `found <lab> <seconds> <word> <length>` or `call <seconds> <word> <length>`,
-- with numbers in decimal digits, one space between, and a line feed at the end, before which it
-- has at most 1,000 bytes. Digits, space and line feed are those of ASCII, RFC 20.
use Rattle.std.specs.Prelude.{ℕ, Bool, if◌then◌else◌, ◌==◌, ◌&&◌, nat_le, nat_eq, codes, List, [], ◌∷◌, length, take, drop, Option, Some, None, option_map, option_and_then}
use Rattle.std.specs.List.{range_with_len}
use Rattle.std.specs.Str.{all_ascii_digits}
use Rattle.std.specs.Str.Parse.{digits_value}
use Rattle.std.specs.Cmp.Lexicographic.{pointwise}
use Rattle.lab_forms_texts.specs.Moment.{is_moment}
use Rattle.lab_forms_texts.specs.Names.{is_lab_code}
use Rattle.lab_program_replay.specs.declared.event.TheConstants.{LAST_FIRST_WORD, MOST_BYTES, MOST_LINE}

infixl 10 ◌>>=◌
abbrev pub ◌>>=◌ : {A B : Type 0} → Option A → (A → Option B) → Option B
o >>= f = option_and_then f o

abbrev pub space : ℕ
space = 32

abbrev pub line_feed : ℕ
line_feed = 10

-- the most bytes of a line before its line feed
abbrev pub most_line : ℕ
most_line = MOST_LINE

-- the most bytes that follow a line
abbrev pub most_bytes : ℕ
most_bytes = MOST_BYTES

-- the greatest first word: seven more follow it within 64 bits
abbrev pub last_first_word : ℕ
last_first_word = LAST_FIRST_WORD

-- what stands before the first such byte, and what stands after it
unfoldable pub cut_at : ℕ → List ℕ → Option (List ℕ × List ℕ)
cut_at byte [] = None
cut_at byte (b ∷ bs) =
    if b == byte then Some ([], bs)
    else option_map (λ parts. (b ∷ parts.0, parts.1)) (cut_at byte bs)

-- the number that one or more decimal digits write, leading zeros among them, if it passes the test
unfoldable pub number_where : (ℕ → Bool) → List ℕ → Option ℕ
number_where admits [] = None
number_where admits text =
    if all_ascii_digits text && admits (digits_value 10 text)
    then Some (digits_value 10 text)
    else None

-- what an event is: a founding of a laboratory, or a call, at a moment, with eight words of chance,
-- and its bytes
pub record Event : Type 0 where
  pub founded : Option (List ℕ)
  pub moment : ℕ
  pub words : List ℕ
  pub bytes : List ℕ

-- an event but for its bytes, of which it has the number
pub record Heading : Type 0 where
  pub founded : Option (List ℕ)
  pub moment : ℕ
  pub words : List ℕ
  pub length : ℕ

-- the three numbers at the end of a line: the seconds, the first of eight words that follow one
-- another, and the length
unfoldable pub numbered : Option (List ℕ) → List ℕ → Option Heading
numbered founded text = do
  seconds ← cut_at space text
  word ← cut_at space seconds.1
  moment ← number_where is_moment seconds.0
  first ← number_where (λ n. nat_le n last_first_word) word.0
  count ← number_where (λ n. nat_le n most_bytes) word.1
  Some (record {
    founded = founded;
    moment = moment;
    words = range_with_len first 8;
    length = count;
  })

-- the text, if it is a laboratory's code
abbrev pub lab_code : List ℕ → Option (List ℕ)
lab_code text = if is_lab_code text then Some text else None

-- a founding, by the laboratory and what follows it
unfoldable pub founding_of : List ℕ → Option Heading
founding_of text = do
  lab ← cut_at space text
  code ← lab_code lab.0
  numbered (Some code) lab.1

-- what a line says, its line feed left off
unfoldable pub heading_of : List ℕ → Option Heading
heading_of line = do
  kind ← cut_at space line
  if pointwise nat_eq kind.0 (codes "found") then founding_of kind.1
      else (if pointwise nat_eq kind.0 (codes "call") then numbered None kind.1 else None)

-- what the front of an input gives: nothing, as it has ended; no event; or an event, and what
-- follows it
pub data Next : Type 0 where
  End : Next
  Bad : Next
  Taken : Event → List ℕ → Next

abbrev pub with_bytes : Option Heading → List ℕ → Next
with_bytes None rest = Bad
with_bytes (Some heading) rest =
    if nat_le heading.length (length rest)
    then Taken (record {
      founded = heading.founded;
      moment = heading.moment;
      words = heading.words;
      bytes = take heading.length rest;
    }) (drop heading.length rest)
    else Bad

abbrev pub next_of : Option (List ℕ × List ℕ) → Next
next_of None = Bad
next_of (Some parts) = with_bytes (heading_of parts.0) parts.1

-- parts of which the first has the length of a line
abbrev pub short_line : List ℕ × List ℕ → Option (List ℕ × List ℕ)
short_line parts = if nat_le (length parts.0) most_line then Some parts else None

-- the line at the front of an input, its line feed left off, and what follows it
abbrev pub line_at : List ℕ → Option (List ℕ × List ℕ)
line_at input = cut_at line_feed input >>= short_line

-- the event at the front of an input
unfoldable pub next_event : List ℕ → Next
next_event [] = End
next_event input = next_of (line_at input)
