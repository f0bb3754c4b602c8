-- The numbers by which records, versions, sessions and rows of a trail are counted: from 1 to
-- 1,000,000,000.
use Rattle.std.specs.Prelude.{ℕ, Bool, ◌&&◌, nat_le, Option, Some, None, if◌then◌else◌}
use Rattle.lab_forms_texts.specs.declared.ordinals.TheConstants.{LAST_ORDINAL}

-- the last of them
abbrev pub last_ordinal : ℕ
last_ordinal = LAST_ORDINAL

abbrev pub is_ordinal : ℕ → Bool
is_ordinal n = nat_le 1 n && nat_le n last_ordinal

-- a number, where it is one of them
abbrev pub ordinal_of : ℕ → Option ℕ
ordinal_of n = if is_ordinal n then Some n else None
