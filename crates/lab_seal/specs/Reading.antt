-- The reading of an item: what stands at the front of a text, with the rest of the text, and what
-- its bytes stand for. No public clause of a version's reading names these steps.
use Rattle.std.specs.Prelude.{ℕ, ◌+◌, ◌^◌, ◌&&◌, ◌==◌, Bool, true, false, nat_lt, if◌then◌else◌, List, [], ◌∷◌, length, take, drop, slice_index, decimal, Option, Some, None, option_and_then}
use Rattle.std.specs.List.{position}
use Rattle.std.specs.Str.{bytes_eq, is_utf8}
use Rattle.std.specs.Str.Parse.{digits_value}
use Rattle.lab_forms_texts.specs.Moment.{moment_of}
use Rattle.lab_forms_texts.specs.Names.{is_note, line_feed}
use Rattle.lab_forms_texts.specs.Ordinals.{ordinal_of}

infixl 10 ◌>>=◌
abbrev pub ◌>>=◌ : {A B : Type 0} → Option A → (A → Option B) → Option B
o >>= f = option_and_then f o

-- this number, if these are its decimal digits, without leading zeros
abbrev pub number_if_spelled : List ℕ → ℕ → Option ℕ
number_if_spelled digits n =
    if nat_lt n (2 ^ 64) && bytes_eq (decimal n) digits then Some n else None

-- the number of which these are the digits
unfoldable pub number_written : List ℕ → Option ℕ
number_written digits = number_if_spelled digits (digits_value 10 digits)

-- so many bytes, where a line feed follows them
unfoldable pub line_of : ℕ → List ℕ → Option (List ℕ × List ℕ)
line_of count text =
    if nat_lt count (length text) && slice_index text count == line_feed
    then Some (take count text, drop (count + 1) text) else None

-- the bytes of the item at the front
unfoldable pub first_item : List ℕ → Option (List ℕ × List ℕ)
first_item text = do
  colon ← position (λ byte. byte == 58) text
  count ← number_written (take colon text)
  line_of count (drop (colon + 1) text)

-- what the bytes of the item at the front stand for
unfoldable pub first_as : {A : Type 0} → (List ℕ → Option A) → List ℕ → Option (A × List ℕ)
first_as meaning text = do
  found ← first_item text
  value ← meaning found.0
  Some (value, found.1)

-- ---- what the bytes of an item stand for

-- a text that is admitted
abbrev pub text_where : (List ℕ → Bool) → List ℕ → Option (List ℕ)
text_where admits bytes =
    if is_utf8 bytes then (if admits bytes then Some bytes else None) else None

-- this word
abbrev pub this_word : List ℕ → List ℕ → Option (Unit {0})
this_word word bytes = if bytes_eq bytes word then Some tt else None

-- one of two words
abbrev pub which_word : List ℕ → List ℕ → List ℕ → Option Bool
which_word one other bytes =
    if bytes_eq bytes one then Some true else if bytes_eq bytes other then Some false else None

-- the number of a record, a version or a form's version
abbrev pub ordinal_in : List ℕ → Option ℕ
ordinal_in digits = number_written digits >>= ordinal_of

-- a note, or nothing
abbrev pub reason_in : List ℕ → Option (Option (List ℕ))
reason_in [] = Some None
reason_in (b ∷ bs) = text_where is_note (b ∷ bs) >>= (λ note. Some (Some note))

-- a moment
abbrev pub moment_in : List ℕ → Option ℕ
moment_in bytes = if is_utf8 bytes then moment_of bytes else None
