-- The token by which a request names its session: `Authorization: LabSession <64 digits>` (RFC
-- 9110, section 11.6.2; the scheme is this profile's own, docs/HTTP.md). Any other value names
-- none, and is no fault.
use Rattle.std.specs.Prelude.{ℕ, List, length, take, drop, codes, if◌then◌else◌, Option, None, option_and_then}
use Rattle.std.specs.Str.{str_eq_ignore_ascii_case}
use Rattle.lab_seal_hashes.specs.Digits.{bytes_of_digits}
use Rattle.lab_wire_heads.specs.Heads.{Field}
use Rattle.lab_wire_heads.specs.Fields.{authorization, value_named}

-- the scheme, which is compared without case, and one space
abbrev pub scheme : List ℕ
scheme = codes "LabSession "

-- the 32 bytes of the 64 lower hexadecimal digits that follow the scheme in a value, and nothing
-- else
unfoldable pub token_of : List ℕ → Option (List ℕ)
token_of value =
    if str_eq_ignore_ascii_case (take (length scheme) value) scheme
    then bytes_of_digits 32 (drop (length scheme) value) else None

-- the token that a head's fields name
unfoldable pub token_in : List Field → Option (List ℕ)
token_in fields = option_and_then token_of (value_named authorization fields)
