-- Which values a column of each type admits, and what is told where none of them stands there.
-- (datatype3.html of SQLite: storage classes.)
use Rattle.std.specs.Prelude.{◌≡◌, ℕ, pos, ◌^◌, ◌==◌, Bool, true, false, ◌&&◌, nat_lt, List, length, slice_get, IsTrue, IsFalse}
use Rattle.std.specs.Str.{is_utf8}
use Rattle.std.specs.Option.{option_map_or}
use Rattle.sqlite_value.specs.declared.value.Value.{Value}
use Rattle.sqlite_value.specs.declared.value.Value.TheVariants.{Null, Int, Real, Text, Blob}
use Rattle.sqlite_value.specs.Order.{Row}
use Rattle.lab_forms_texts.specs.declared.refusals.Fault.{Fault}
use Rattle.lab_forms_texts.specs.declared.refusals.Fault.TheVariants.{Refused, Memory}
use Rattle.lab_records_keeper.specs.declared.faults.BadStore.{BadStore}

-- ---- types of columns

-- an id: any integer
abbrev pub is_id : Value → Bool
is_id (Int n) = true
is_id _ = false

-- a number that is never below zero, of those that are admitted
abbrev pub is_number : (ℕ → Bool) → Value → Bool
is_number admits (Int (pos n)) = admits n
is_number admits _ = false

-- of at most 32 bits, as counts and flags are
abbrev pub is_small : ℕ → Bool
is_small n = nat_lt n (2 ^ 32)

-- a text of those that are admitted
abbrev pub is_text_cell : (List ℕ → Bool) → Value → Bool
is_text_cell admits (Text t) = is_utf8 t && admits t
is_text_cell admits _ = false

-- a digest of 32 bytes
abbrev pub is_digest : Value → Bool
is_digest (Blob b) = length b == 32
is_digest _ = false

-- NULL, or a value of the type
abbrev pub is_optional : (Value → Bool) → Value → Bool
is_optional is_one Null = true
is_optional is_one (Int n) = is_one (Int n)
is_optional is_one (Real x) = is_one (Real x)
is_optional is_one (Text t) = is_one (Text t)
is_optional is_one (Blob b) = is_one (Blob b)

-- the row reaches to the column, and a value of the type stands there
abbrev pub stands : (Value → Bool) → Row → ℕ → Bool
stands is_one row at = option_map_or is_one (slice_get row at) false

-- ---- what is told where nothing was read

-- the fault of what is stored
abbrev pub storage : Fault BadStore
storage = Refused (record {})

-- for what takes no memory: that no such value stands there
abbrev pub IsNotRead : Bool → Fault BadStore → Type 0
IsNotRead stood fault = IsFalse stood × (fault ≡ storage)

-- for what takes memory: that no such value stands there, or that memory ran out for one
abbrev pub IsNotMade : Bool → Fault BadStore → Type 0
IsNotMade stood (Refused _) = IsFalse stood
IsNotMade stood Memory = IsTrue stood
