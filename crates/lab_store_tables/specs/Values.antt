-- Values of the columns: as they are written, and as they are read, whatever a column holds. Numbers
-- that are never below zero are natural numbers; a column that may be NULL is an option.
use Rattle.std.specs.Prelude.{ℕ, ℤ, pos, negsuc, Bool, true, false, not, ◌==◌, Option, Some, None}
use Rattle.sqlite_value.specs.declared.value.Value.{Value}
use Rattle.sqlite_value.specs.declared.value.Value.TheVariants.{Null, Int, Real, Text, Blob}
use Rattle.sqlite_rules.specs.Edit.{id_in}

abbrev pub number : ℕ → Value
number n = Int (pos n)

abbrev pub flag : Bool → Value
flag false = Int (pos 0)
flag true = Int (pos 1)

-- NULL where there is none
abbrev pub optional : {A : Type 0} → (A → Value) → Option A → Value
optional write None = Null
optional write (Some one) = write one

abbrev pub natural : ℤ → ℕ
natural (pos n) = n
natural (negsuc n) = 0

abbrev pub number_in : Value → ℕ
number_in value = natural (id_in value)

abbrev pub flag_in : Value → Bool
flag_in value = not (number_in value == 0)

abbrev pub optional_in : {A : Type 0} → (Value → A) → Value → Option A
optional_in read Null = None
optional_in read (Int n) = Some (read (Int n))
optional_in read (Real x) = Some (read (Real x))
optional_in read (Text t) = Some (read (Text t))
optional_in read (Blob b) = Some (read (Blob b))
