-- Bytes as lower hexadecimal digits, two digits a byte, the high four bits first.
use Rattle.std.specs.Prelude.{◌≡◌, ℕ, ◌&&◌, ◌||◌, nat_le, Bool, if◌then◌else◌, List, length, Option, None}
use Rattle.std.specs.List.{AllPass, list_all}
use Rattle.std.specs.Result.{result_ok}
use Rattle.hex.specs.Hex.{decode_sized}

-- 0 to 9 are 48 to 57, a to f are 97 to 102
abbrev pub is_lower_digit : ℕ → Bool
is_lower_digit c = (nat_le 48 c && nat_le c 57) || (nat_le 97 c && nat_le c 102)

-- so many lower hexadecimal digits
abbrev pub AreLowerDigits : ℕ → List ℕ → Type 0
AreLowerDigits count digits = (length digits ≡ count) × AllPass is_lower_digit digits

-- the bytes, n of them, of which these are the lower hexadecimal digits
unfoldable pub bytes_of_digits : ℕ → List ℕ → Option (List ℕ)
bytes_of_digits n digits =
    if list_all is_lower_digit digits then result_ok (decode_sized digits n) else None
