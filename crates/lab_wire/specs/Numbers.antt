-- The numbers of a path and of a query: decimal digits without leading zeros, from 1 to
-- 1,000,000,000 (docs/HTTP.md).
use Rattle.std.specs.Prelude.{ℕ, Bool, List, bytes_eq, decimal, if◌then◌else◌, Option, None}
use Rattle.std.specs.Str.Parse.{digits_value}
use Rattle.lab_forms_texts.specs.Ordinals.{ordinal_of}

-- the text is how decimal digits write a number: without sign, leading zeros, blanks
abbrev pub is_spelled : List ℕ → Bool
is_spelled digits = bytes_eq (decimal (digits_value 10 digits)) digits

-- the number of a record, of a version, or of a row of the trail
unfoldable pub ordinal_in : List ℕ → Option ℕ
ordinal_in digits = if is_spelled digits then ordinal_of (digits_value 10 digits) else None
