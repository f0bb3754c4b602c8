-- Columns of a row: whether nothing stands in them.
use Rattle.std.specs.Prelude.{Bool, true, false}
use Rattle.sqlite_value.specs.declared.value.Value.{Value}
use Rattle.sqlite_value.specs.declared.value.Value.TheVariants.{Null, Int, Real, Text, Blob}

abbrev pub is_null : Value → Bool
is_null Null = true
is_null (Int n) = false
is_null (Real x) = false
is_null (Text t) = false
is_null (Blob b) = false
