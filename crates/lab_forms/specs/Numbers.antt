-- How numbers are written in the values of a form, and the amount of each, in whole millionths. The
-- form is this system's own: a sign or none, 1 to 15 decimal digits, and then a point with 1 to so
-- many digits or none.
use Rattle.std.specs.Prelude.{ℕ, ◌+◌, ◌-◌, ◌*◌, ◌^◌, Bool, true, ◌&&◌, ◌||◌, ◌==◌, nat_le, List, length, drop, slice_index, if◌then◌else◌, is_some, ℤ, pos, neg_ℤ, Option, Some, None, fold, position}
use Rattle.std.specs.List.{list_all, before_first, after_first}
use Rattle.std.specs.Char.{is_ascii_digit}
use Rattle.lab_forms.specs.declared.numbers.TheConstants.{WHOLE_DIGITS}

abbrev pub zero_digit : ℕ
zero_digit = 48

abbrev pub point : ℕ
point = 46

abbrev pub plus : ℕ
plus = 43

abbrev pub minus : ℕ
minus = 45

abbrev pub less : ℕ
less = 60

abbrev pub greater : ℕ
greater = 62

-- 1 to `most` decimal digits, and nothing else
unfoldable pub is_digits : ℕ → List ℕ → Bool
is_digits most text =
    nat_le 1 (length text) && nat_le (length text) most && list_all is_ascii_digit text

-- the number that decimal digits write
unfoldable pub decimal_value : List ℕ → ℕ
decimal_value digits = fold (λ number digit. number * 10 + (digit - zero_digit)) 0 digits

-- the point between the digits of the whole and those of its fraction
abbrev pub is_point : ℕ → Bool
is_point byte = byte == point

abbrev pub has_point : List ℕ → Bool
has_point text = is_some (position is_point text)

abbrev pub whole_part : List ℕ → List ℕ
whole_part text = before_first is_point text

abbrev pub fraction_part : List ℕ → List ℕ
fraction_part text = after_first is_point text

-- a number without a sign
unfoldable pub is_unsigned_number : ℕ → List ℕ → Bool
is_unsigned_number decimals text =
    is_digits WHOLE_DIGITS (whole_part text)
    && (if has_point text then is_digits decimals (fraction_part text) else true)

-- how many millionths it is
unfoldable pub millionths_of : List ℕ → ℕ
millionths_of text =
    decimal_value (whole_part text) * 10 ^ 6
    + decimal_value (fraction_part text) * 10 ^ (6 - length (fraction_part text))

abbrev pub is_negative : List ℕ → Bool
is_negative text = slice_index text 0 == minus

-- the text behind its plus or minus, if it has one
unfoldable pub without_sign : List ℕ → List ℕ
without_sign text =
    if is_negative text || (slice_index text 0 == plus) then drop 1 text else text

-- a number of at most so many decimals
unfoldable pub is_number : ℕ → List ℕ → Bool
is_number decimals text = is_unsigned_number decimals (without_sign text)

-- the amount of a number, in millionths; so `-0` is zero, and `7.5` and `7.50` are one amount
unfoldable pub amount : List ℕ → ℤ
amount text =
    let millionths = millionths_of (without_sign text)
    in if is_negative text then neg_ℤ (pos millionths) else pos millionths

-- the amount of a text, if it is a number
abbrev pub amount_read : ℕ → List ℕ → Option ℤ
amount_read decimals text = if is_number decimals text then Some (amount text) else None

-- the text behind its `<` or `>`, which says that the amount is a limit of what can be measured, if
-- it has one
unfoldable pub without_comparison : List ℕ → List ℕ
without_comparison text =
    if (slice_index text 0 == less) || (slice_index text 0 == greater) then drop 1 text else text
